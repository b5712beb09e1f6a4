-- First places along measures, where calls are taken away.
use Rattle.std.specs.Prelude.{◌≡◌, List, [], ◌∷◌, ◌++◌, Option, Some, None, refl}
use Rattle.std.proofs.Common.{ap, ◌∙◌, sym}
use Rattle.zir_tree.specs.declared.place.Place.{Place}
use Rattle.zir_tree.specs.declared.types.Dimension.{Dimension}
use Rattle.zir_tree.specs.declared.types.Field.{Field}
use Rattle.zir_tree.specs.declared.types.TypeExpr.{TypeExpr}
use Rattle.zir_tree.specs.declared.program.Function.{Function}
use Rattle.zir_tree.specs.declared.program.Instance.{Instance}
use Rattle.zir_tree.specs.declared.program.Decl.{Decl}
use Rattle.zir_tree.specs.declared.program.Decl.TheVariants.{Var as VarDecl, Struct as StructDecl, Function as FunctionDecl, Comp as CompDecl}
use Rattle.zir_tree.specs.declared.program.Prog.{Prog}
use Rattle.zir_tree.specs.declared.program.Core.{Core}
use Rattle.zir_types.specs.declared.scope.Seen.{Seen}
use Rattle.zir_types.specs.declared.scope.Shape.{Shape}
use Rattle.zir_types.specs.Scope.{Visible, cells_in}
use Rattle.zir_types.specs.Measures.{Measure, Sends, Holds, spans, in_type, in_comp}
use Rattle.zir_types.specs.Limits.{bad_length, too_large, too_wide, too_long, places, in_structs, in_struct_fields, in_fields, in_result, in_function, in_instance}
use Rattle.zir_limits.specs.declared.notes.Call.{Call}
use Rattle.zir_limits.specs.declared.notes.Notes.{Notes}
use Rattle.zir_limits.specs.Facts.{CoreFacts, sight}
use Rattle.zir_limits.specs.Notes.{first_of, noted, calls_in}
use Rattle.zir_limits.proofs.Noted.{first_of-more, places-more, calls-more}
use Rattle.zir_limits_walks.specs.Bodies.{firsts, function_measures, instance_measures, main_measures}

-- the first place of a limit along two lists
place_then : (f : Measure → List Place) (o : Option Place) (xs ys : List Measure) →
    first_of o (places f (xs ++ ys)) ≡ first_of (first_of o (places f xs)) (places f ys)
place_then f o xs ys = ap (first_of o) (places-more f xs ys) ∙ first_of-more o (places f xs) (places f ys)

-- notes with these first places
abbrev pub noting : Option Place → Option Place → Option Place → Option Place → List Call → Notes
noting a b c d e = record { first_length = a; first_cells = b; first_element = c; first_stages = d; calls = e }

-- one list of measures and then another
pub firsts-more : (xs ys : List Measure) (n : Notes) → firsts (xs ++ ys) n ≡ firsts ys (firsts xs n)
firsts-more xs ys n = λ i. noting (place_then bad_length n.first_length xs ys i) (place_then too_large n.first_cells xs ys i)
    (place_then too_wide n.first_element xs ys i) (place_then too_long n.first_stages xs ys i) []

-- measures that are noted, and then others
pub firsts-noted : (xs ys : List Measure) (n : Notes) → firsts ys (noted xs n) ≡ firsts (xs ++ ys) n
firsts-noted xs ys n = sym (firsts-more xs ys n)

-- no measure
pub firsts-none : (n : Notes) → n.calls ≡ [] → firsts [] n ≡ n
firsts-none n h = λ i. noting n.first_length n.first_cells n.first_element n.first_stages (sym h i)

-- lengths call nothing
pub calls-spans : (ds : List Dimension) → calls_in (spans ds) ≡ []
calls-spans [] = refl
calls-spans (d ∷ ds) = calls-spans ds

-- a written type calls nothing
pub calls-type : (g : Visible) (t : TypeExpr) → calls_in (in_type g t) ≡ []
calls-type g t = calls-spans t.dimensions

pub calls-fields : (g : Visible) (fs : List Field) → calls_in (in_fields g fs) ≡ []
calls-fields g [] = refl
calls-fields g (f ∷ fs) = calls-more (in_type g f.ty) (in_fields g fs) ∙ ap (λ cs. cs ++ calls_in (in_fields g fs)) (calls-type g f.ty) ∙ calls-fields g fs

pub calls-result : (g : Visible) (t : Option TypeExpr) → calls_in (in_result g t) ≡ []
calls-result g None = refl
calls-result g (Some t) = calls-type g t

-- what calls nothing, and then something
calls_behind : (xs ys : List Measure) → calls_in xs ≡ [] → calls_in (xs ++ ys) ≡ calls_in ys
calls_behind xs ys h = calls-more xs ys ∙ ap (λ cs. cs ++ calls_in ys) h

-- a function calls what its body calls
pub calls-function : (g : Visible) (f : Function) → calls_in (function_measures g f) ≡ calls_in (in_function g f)
calls-function g f =
    calls_behind (in_fields g f.params ++ in_result g f.result) (in_function g f)
    (calls_behind (in_fields g f.params) (in_result g f.result) (calls-fields g f.params) ∙ calls-result g f.result)

-- an instance calls what its body calls
pub calls-instance : (all : List Instance) (g : Visible) (i : Instance) → calls_in (instance_measures all g i) ≡ calls_in (in_instance all g i)
calls-instance all g i = calls_behind (in_fields g i.params) (in_instance all g i) (calls-fields g i.params)

append-none : (xs : List Call) → xs ++ [] ≡ xs
append-none [] = refl
append-none (x ∷ xs) = ap (λ ys. x ∷ ys) (append-none xs)

-- the fields of a struct call nothing
calls-lengths : (fs : List Field) → calls_in (in_struct_fields fs) ≡ []
calls-lengths [] = refl
calls-lengths (f ∷ fs) = calls_behind (spans f.ty.dimensions) (in_struct_fields fs) (calls-spans f.ty.dimensions) ∙ calls-lengths fs

-- structs call nothing
pub calls-structs : (g : Visible) (ds : List Decl) (ss : List Shape) → calls_in (in_structs g ds ss) ≡ []
calls-structs g [] ss = refl
calls-structs g (VarDecl v ∷ ds) ss = calls-structs g ds ss
calls-structs g (StructDecl s ∷ ds) [] = calls-structs g ds []
calls-structs g (StructDecl s ∷ ds) (shape ∷ ss) =
    calls_behind (Holds shape.cells s.at ∷ in_struct_fields s.fields) (in_structs g ds ss) (calls-lengths s.fields) ∙ calls-structs g ds ss
calls-structs g (FunctionDecl f ∷ ds) ss = calls-structs g ds ss
calls-structs g (CompDecl f ∷ ds) ss = calls-structs g ds ss

-- the streams call nothing
pub calls-main : (f : CoreFacts) (vs : List Seen) (p : Prog) (core : Core) →
    calls_in (main_measures f vs p core) ≡ calls_in (in_comp f.instances (sight f vs) core.input core.main)
calls-main f vs p core =
    let g = sight f vs in
    let sent : Measure = Sends (cells_in g.shapes core.input) p.input.at in
    let main : List Measure = in_comp f.instances g core.input core.main in
    calls-more (in_type g p.input ++ sent ∷ main) (in_type g p.output)
    ∙ ap (λ cs. calls_in (in_type g p.input ++ sent ∷ main) ++ cs) (calls-type g p.output)
    ∙ append-none (calls_in (in_type g p.input ++ sent ∷ main))
    ∙ calls_behind (in_type g p.input) (sent ∷ main) (calls-type g p.input)
