-- The walk of a program: its declarations in the order of the text, then its main component.
use Rattle.std.specs.Prelude.{ℕ, List, [], ◌∷◌, ◌++◌, Bool, ◌||◌, not, Option, Some, None, if◌then◌else◌, nat_eq}
use Rattle.zir_tree.specs.declared.types.Base.{Base}
use Rattle.zir_tree.specs.declared.types.Base.TheVariants.{Unit as UnitTy}
use Rattle.zir_tree.specs.declared.types.Ty.{Ty}
use Rattle.zir_tree.specs.declared.types.Field.{Field}
use Rattle.zir_tree.specs.declared.types.FieldDef.{FieldDef}
use Rattle.zir_tree.specs.declared.types.StructDef.{StructDef}
use Rattle.zir_tree.specs.declared.types.TypeExpr.{TypeExpr}
use Rattle.zir_tree.specs.declared.stmt.Var.{Var}
use Rattle.zir_tree.specs.declared.comp.Comp.{Comp}
use Rattle.zir_tree.specs.declared.program.Struct.{Struct}
use Rattle.zir_tree.specs.declared.program.Function.{Function}
use Rattle.zir_tree.specs.declared.program.CompFunction.{CompFunction}
use Rattle.zir_tree.specs.declared.program.Decl.{Decl}
use Rattle.zir_tree.specs.declared.program.Decl.TheVariants.{Var as VarDecl, Struct as StructDecl, Function as FunctionDecl, Comp as CompDecl}
use Rattle.zir_tree.specs.declared.program.Prog.{Prog}
use Rattle.zir_tree.specs.declared.program.Core.{Core}
use Rattle.zir_types.specs.declared.scope.Shape.{Shape}
use Rattle.zir_types.specs.declared.typed.Written.{Written}
use Rattle.zir_types.specs.declared.typed.TypedVar.{TypedVar}
use Rattle.zir_types.specs.declared.typed.TypedBody.{TypedBody}
use Rattle.zir_types.specs.declared.typed.Heading.{Heading}
use Rattle.zir_types.specs.declared.error.TypeError.TheVariants.{Mismatch, NotStreamType}
use Rattle.zir_types.specs.Walk.{Walk, Fine, and_then, check}
use Rattle.zir_types.specs.Kinds.{scalar, is_bool, is_struct}
use Rattle.zir_types.specs.Scope.{Visible, nothing, declare, written, all_cells}
use Rattle.zir_types.specs.Expressions.{all_same}
use Rattle.zir_types.specs.Statements.{var, seen_var, fun_body, no_heading, heading}
use Rattle.zir_types.specs.Components.{Reached, Maker, Makers, comp, emitted}

-- A `fun comp` with its parameters, whose body is typed where it is called.
pub record Prepared : Type 0 where
  pub id : ℕ
  pub head : Heading
  pub body : Comp

-- The declarations so far: what they bring into scope, and the `fun comp`s, the last one first.
pub record Declared : Type 0 where
  pub scope : Visible
  pub variables : List Var
  pub functions : List Function
  pub comps : List Prepared

-- Before the first declaration.
abbrev pub none_declared : Declared
none_declared = record { scope = nothing; variables = []; functions = []; comps = [] }

-- A `fun comp` over those before it: its body sees the whole top and its parameters.
abbrev pub maker : Visible → Makers → Prepared → Maker
maker tops before d = record { id = d.id; head = d.head; make = λ n a is. comp before (declare d.head.seen tops) n a d.body is }

-- The `fun comp`s of a program by their numbers, each over those before it; the list begins with the last one.
abbrev pub makers : Visible → List Prepared → Makers
makers tops [] id = None
makers tops (d ∷ ds) id = if nat_eq d.id id then Some (maker tops (makers tops ds) d) else makers tops ds id

-- The fields of a struct's definition, with their names and types.
abbrev pub field_defs : List Field → List Ty → List FieldDef
field_defs [] ts = []
field_defs (f ∷ fs) [] = []
field_defs (f ∷ fs) (t ∷ ts) = record { name = f.name.name; ty = t } ∷ field_defs fs ts

-- A struct with these fields.
abbrev pub shape_of : List Shape → Struct → Heading → Shape
shape_of ss s h = record { id = s.name.id; def = record { name = s.name.name; fields = field_defs h.fields h.types }; cells = all_cells ss h.types }

-- A top variable is declared.
abbrev pub with_top : Declared → TypedVar → Walk Declared
with_top d v = Fine (record d { scope = declare (seen_var v) d.scope; variables = d.variables ++ v.what ∷ [] })

-- A struct is declared.
abbrev pub with_struct : Declared → Struct → Heading → Walk Declared
with_struct d s h = Fine (record d { scope = record d.scope { shapes = d.scope.shapes ++ shape_of d.scope.shapes s h ∷ [] } })

-- The written result of a function, where there is one.
abbrev pub result_of : List Shape → Option TypeExpr → Walk (Option Written)
result_of ss None = Fine None
result_of ss (Some t) = and_then (written ss t) (λ w. Fine (Some w))

-- The type of a written result.
abbrev pub written_ty : Option Written → Option Ty
written_ty None = None
written_ty (Some w) = Some w.ty

-- A written result.
abbrev pub written_what : Option Written → Option TypeExpr
written_what None = None
written_what (Some w) = Some w.what

-- The type of a function's result, unit where none is written.
abbrev pub result_ty : Option Ty → Ty
result_ty None = scalar UnitTy
result_ty (Some t) = t

-- A function is declared; those behind it see it.
abbrev pub with_function : Declared → Function → Heading → Option Written → TypedBody → Walk Declared
with_function d f h r b = Fine (record d {
  scope = record d.scope { functions = d.scope.functions ++ record { id = f.name.id; params = h.types; result = result_ty (written_ty r) } ∷ [] };
  functions = d.functions ++ record { name = f.name; params = h.fields; result = written_what r; body = b.what; at = f.at } ∷ [];
})

-- A `fun comp` is declared.
abbrev pub with_comp : Declared → CompFunction → Heading → Walk Declared
with_comp d c h = Fine (record d { comps = record { id = c.name.id; head = h; body = c.body } ∷ d.comps })

-- A declaration behind these.
abbrev pub declaration : Declared → Decl → Walk Declared
declaration d (VarDecl v) = and_then (var d.scope v) (with_top d)
declaration d (StructDecl s) = and_then (heading d.scope.shapes no_heading s.fields) (with_struct d s)
declaration d (FunctionDecl f) =
    and_then (heading d.scope.shapes no_heading f.params) (λ h. and_then (result_of d.scope.shapes f.result)
    (λ r. and_then (fun_body (declare h.seen d.scope) (written_ty r) f.at f.body) (with_function d f h r)))
declaration d (CompDecl c) = and_then (heading d.scope.shapes no_heading c.params) (with_comp d c)

-- Declarations from some place on, behind those before them.
abbrev pub declarations : Declared → List Decl → Walk Declared
declarations d [] = Fine d
declarations d (x ∷ xs) = and_then (declaration d x) (λ e. declarations e xs)

-- A stream holds no truth values and no structs.
abbrev pub streams : Base → Bool
streams b = not (is_bool b || is_struct b)

-- The type that a program reads or writes, at the first token of it.
abbrev pub stream : List Shape → TypeExpr → Walk Ty
stream ss t = and_then (written ss t) (λ w. check (streams w.ty.base) (NotStreamType t.at) w.ty)

-- The definitions of the structs.
abbrev pub defs_of : List Shape → List StructDef
defs_of [] = []
defs_of (s ∷ ss) = s.def ∷ defs_of ss

-- A program with its types; what its main component emits must have the type that it writes.
abbrev pub whole : Prog → Declared → Ty → Reached → Ty → Walk Core
whole p d a r b = check (all_same b (emitted r.what.emits)) (Mismatch p.output.at) (record {
  structs = defs_of d.scope.shapes;
  variables = d.variables;
  functions = d.functions;
  instances = r.instances;
  main = r.what.what;
  input = a;
  output = b;
  value = r.what.value;
  at = p.at;
})

-- The main component and the streams: the read type, main, and then the write type.
abbrev pub main_of : Prog → Declared → Walk Core
main_of p d =
    and_then (stream d.scope.shapes p.input) (λ a. and_then (comp (makers d.scope d.comps) d.scope 0 a p.main [])
    (λ r. and_then (stream d.scope.shapes p.output) (whole p d a r)))

-- A program: its core, or the first refusal.
abbrev pub program : Prog → Walk Core
program p = and_then (declarations none_declared p.declarations) (main_of p)
