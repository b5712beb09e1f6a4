-- The limits of a program that typing has accepted: for each of them the places where it is passed, and of these the first.
use Rattle.std.specs.Prelude.{ℕ, suc, max, List, [], ◌∷◌, ◌++◌, Bool, true, false, ◌||◌, Option, Some, None, nat_eq, nat_lt, if◌then◌else◌}
use Rattle.zir_tree.specs.declared.place.Place.{Place}
use Rattle.zir_tree.specs.declared.types.Field.{Field}
use Rattle.zir_tree.specs.declared.types.TypeExpr.{TypeExpr}
use Rattle.zir_tree.specs.declared.refusal.LimitKind.{LimitKind}
use Rattle.zir_tree.specs.declared.refusal.LimitKind.TheVariants.{Length, Cells, Element, Depth, Need, Stages}
use Rattle.zir_tree.specs.declared.stmt.Var.{Var}
use Rattle.zir_tree.specs.declared.program.Function.{Function}
use Rattle.zir_tree.specs.declared.program.Instance.{Instance}
use Rattle.zir_tree.specs.declared.program.Decl.{Decl}
use Rattle.zir_tree.specs.declared.program.Decl.TheVariants.{Var as VarDecl, Struct as StructDecl, Function as FunctionDecl, Comp as CompDecl}
use Rattle.zir_tree.specs.declared.program.Prog.{Prog}
use Rattle.zir_tree.specs.declared.program.Core.{Core}
use Rattle.zir_types.specs.declared.scope.Shape.{Shape}
use Rattle.zir_types.specs.Scope.{Visible, declare, cells_in}
use Rattle.zir_types.specs.Known.{seen_fields, visible_of}
use Rattle.zir_types.specs.Measures.{Target, ToFunction, ToInstance, Measure, Spans, Holds, Sends, Calls, Splits, in_type, spans, in_var, in_body, in_comp}
use Rattle.zir_types.specs.Needs.{program_need}

-- A limit that is passed, and where.
pub record Passed : Type 0 where
  pub kind : LimitKind
  pub at : Place

-- Whether a place stands before another in the text.
abbrev pub earlier : Place → Place → Bool
earlier p q = if nat_eq p.line q.line then nat_lt p.col q.col else nat_lt p.line q.line

-- The earlier of a place and perhaps another.
abbrev pub sooner : Place → Option Place → Place
sooner p None = p
sooner p (Some q) = if earlier q p then q else p

-- The first of these places in the text.
abbrev pub first_place : List Place → Option Place
first_place [] = None
first_place (p ∷ ps) = Some (sooner p (first_place ps))

-- A place, where something is wrong there.
abbrev pub wrong_at : Bool → Place → List Place
wrong_at true p = p ∷ []
wrong_at false p = []

-- Lengths outside 1 to 4,096.
abbrev pub bad_length : Measure → List Place
bad_length (Spans n p) = wrong_at (nat_eq n 0 || nat_lt 4096 n) p
bad_length (Holds n p) = []
bad_length (Sends n p) = []
bad_length (Calls t p) = []
bad_length (Splits n p) = []

-- Types above 65,536 cells.
abbrev pub too_large : Measure → List Place
too_large (Spans n p) = []
too_large (Holds n p) = wrong_at (nat_lt 65536 n) p
too_large (Sends n p) = []
too_large (Calls t p) = []
too_large (Splits n p) = []

-- Elements above 4,096 cells.
abbrev pub too_wide : Measure → List Place
too_wide (Spans n p) = []
too_wide (Holds n p) = []
too_wide (Sends n p) = wrong_at (nat_lt 4096 n) p
too_wide (Calls t p) = []
too_wide (Splits n p) = []

-- The 16th `|>>>|` of a chain, which makes its 17th operand.
abbrev pub too_long : Measure → List Place
too_long (Spans n p) = []
too_long (Holds n p) = []
too_long (Sends n p) = []
too_long (Calls t p) = []
too_long (Splits n p) = wrong_at (nat_eq n 16) p

-- The places of some measures.
abbrev pub places : (Measure → List Place) → List Measure → List Place
places f [] = []
places f (m ∷ ms) = f m ++ places f ms

-- The written types of fields and parameters.
abbrev pub in_fields : Visible → List Field → List Measure
in_fields g [] = []
in_fields g (f ∷ fs) = in_type g f.ty ++ in_fields g fs

-- The lengths of the fields of a struct.
abbrev pub in_struct_fields : List Field → List Measure
in_struct_fields [] = []
in_struct_fields (f ∷ fs) = spans f.ty.dimensions ++ in_struct_fields fs

-- The structs of a program, as their words `struct` and the lengths of their fields tell; their cells are those of these shapes.
abbrev pub in_structs : Visible → List Decl → List Shape → List Measure
in_structs g [] ss = []
in_structs g (VarDecl v ∷ ds) ss = in_structs g ds ss
in_structs g (StructDecl s ∷ ds) [] = in_structs g ds []
in_structs g (StructDecl s ∷ ds) (shape ∷ ss) = Holds shape.cells s.at ∷ in_struct_fields s.fields ++ in_structs g ds ss
in_structs g (FunctionDecl f ∷ ds) ss = in_structs g ds ss
in_structs g (CompDecl c ∷ ds) ss = in_structs g ds ss

-- The top variables.
abbrev pub in_vars : Visible → List Var → List Measure
in_vars g [] = []
in_vars g (v ∷ vs) = in_var g v ++ in_vars g vs

-- A written result.
abbrev pub in_result : Visible → Option TypeExpr → List Measure
in_result g None = []
in_result g (Some t) = in_type g t

-- The body of a function.
abbrev pub in_function : Visible → Function → List Measure
in_function g f = in_body (declare (seen_fields f.params) g) f.body

-- The body of an instance.
abbrev pub in_instance : List Instance → Visible → Instance → List Measure
in_instance is g i = in_comp is (declare (seen_fields i.params) g) i.input i.body

-- The functions, with the types of their parameters and results.
abbrev pub in_functions : Visible → List Function → List Measure
in_functions g [] = []
in_functions g (f ∷ fs) = in_fields g f.params ++ in_result g f.result ++ in_function g f ++ in_functions g fs

-- The instances, with the types of their parameters.
abbrev pub in_instances : List Instance → Visible → List Instance → List Measure
in_instances all g [] = []
in_instances all g (i ∷ is) = in_fields g i.params ++ in_instance all g i ++ in_instances all g is

-- All that the limits look at: the structs and the streams as the program writes them, and the core.
abbrev pub measures : Prog → Core → Visible → List Measure
measures p core g =
    in_structs g p.declarations g.shapes ++ in_vars g core.variables ++ in_functions g core.functions ++ in_instances core.instances g core.instances
    ++ in_type g p.input ++ Sends (cells_in g.shapes core.input) p.input.at ∷ in_comp core.instances g core.input core.main ++ in_type g p.output

-- A body that calls: what leads to it, and what it holds.
pub record Calling : Type 0 where
  pub target : Option Target
  pub holds : List Measure

-- How many calls the longest chain that ends with a call of this has, as far as its callers are known.
abbrev pub Depths : Type 0
Depths = Target → ℕ

-- Whether two calls lead to one body.
abbrev pub same_target : Target → Target → Bool
same_target (ToFunction k) (ToFunction l) = nat_eq k l
same_target (ToInstance k) (ToInstance l) = nat_eq k l
same_target (ToFunction k) (ToInstance l) = false
same_target (ToInstance k) (ToFunction l) = false

-- How deep a body is called; main and the top variables are called by none.
abbrev pub depth_of : Depths → Option Target → ℕ
depth_of d None = 0
depth_of d (Some t) = d t

-- Chains that end with these calls, each with so many calls in all.
abbrev pub deepened : ℕ → List Measure → Depths → Depths
deepened n [] d = d
deepened n (Spans k p ∷ ms) d = deepened n ms d
deepened n (Holds k p ∷ ms) d = deepened n ms d
deepened n (Sends k p ∷ ms) d = deepened n ms d
deepened n (Splits k p ∷ ms) d = deepened n ms d
deepened n (Calls t p ∷ ms) d = deepened n ms (λ u. if same_target t u then max n (d u) else d u)

-- The calls that make the 17th of a chain.
abbrev pub deep_calls : ℕ → List Measure → List Place
deep_calls n [] = []
deep_calls n (Spans k p ∷ ms) = deep_calls n ms
deep_calls n (Holds k p ∷ ms) = deep_calls n ms
deep_calls n (Sends k p ∷ ms) = deep_calls n ms
deep_calls n (Splits k p ∷ ms) = deep_calls n ms
deep_calls n (Calls t p ∷ ms) = wrong_at (nat_lt 16 n) p ++ deep_calls n ms

-- The calls that are too deep in these bodies, of which each stands before all that it calls.
abbrev pub too_deep : Depths → List Calling → List Place
too_deep d [] = []
too_deep d (b ∷ bs) = let n = suc (depth_of d b.target) in deep_calls n b.holds ++ too_deep (deepened n b.holds d) bs

-- The functions from some place on, behind these bodies, the last one first.
abbrev pub calling_functions : Visible → ℕ → List Function → List Calling → List Calling
calling_functions g n [] done = done
calling_functions g n (f ∷ fs) done = calling_functions g (suc n) fs (record { target = Some (ToFunction n); holds = in_function g f } ∷ done)

-- The instances from some place on, behind these bodies, the last one first.
abbrev pub calling_instances : List Instance → Visible → ℕ → List Instance → List Calling → List Calling
calling_instances all g n [] done = done
calling_instances all g n (i ∷ is) done = calling_instances all g (suc n) is (record { target = Some (ToInstance n); holds = in_instance all g i } ∷ done)

-- The bodies of a core, callers first: main, the top variables, the instances and the functions.
abbrev pub callers : Core → Visible → List Calling
callers core g =
    record { target = None; holds = in_comp core.instances g core.input core.main } ∷ record { target = None; holds = in_vars g core.variables }
    ∷ calling_instances core.instances g 0 core.instances [] ++ calling_functions g 0 core.functions []

-- A limit at this place, and where there is none what follows.
abbrev pub passed_at : LimitKind → Option Place → Option Passed → Option Passed
passed_at kind None next = next
passed_at kind (Some p) next = Some (record { kind = kind; at = p })

-- A limit at the first of these places, and else what follows.
abbrev pub at_first : LimitKind → List Place → Option Passed → Option Passed
at_first kind ps next = passed_at kind (first_place ps) next

-- The first limit that a program passes, in the order of the limits: length, cells, element, depth, need and stages.
abbrev pub limits : Prog → Core → Option Passed
limits p core =
    let g = visible_of core in
    let ms = measures p core g in
    at_first Length (places bad_length ms) (at_first Cells (places too_large ms) (at_first Element (places too_wide ms)
    (at_first Depth (too_deep (λ t. 0) (callers core g)) (at_first Need (wrong_at (nat_lt 1048576 (program_need core g)) core.at)
    (at_first Stages (places too_long ms) None)))))
