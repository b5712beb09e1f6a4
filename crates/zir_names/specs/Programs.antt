-- The names of declarations and programs.
use Rattle.std.specs.Prelude.{List, [], ◌∷◌, ◌++◌, length}
use Rattle.zir_tree.specs.declared.ident.Ident.{Ident}
use Rattle.zir_tree.specs.declared.place.Place.{Place}
use Rattle.zir_tree.specs.declared.types.Field.{Field}
use Rattle.zir_tree.specs.declared.types.TypeExpr.{TypeExpr}
use Rattle.zir_tree.specs.declared.comp.Comp.{Comp}
use Rattle.zir_tree.specs.declared.program.Struct.{Struct}
use Rattle.zir_tree.specs.declared.program.Function.{Function}
use Rattle.zir_tree.specs.declared.program.CompFunction.{CompFunction}
use Rattle.zir_tree.specs.declared.program.Decl.{Decl}
use Rattle.zir_tree.specs.declared.program.Decl.TheVariants as decl
use Rattle.zir_tree.specs.declared.program.Prog.{Prog}
use Rattle.zir_names.specs.declared.scope.Kind.{Kind}
use Rattle.zir_names.specs.declared.scope.Kind.TheVariants as kind
use Rattle.zir_names.specs.declared.scope.Entry.{Entry}
use Rattle.zir_names.specs.declared.program.Named.{Named}
use Rattle.zir_names.specs.Walk.{Walk, Fine, and_then}
use Rattle.zir_names.specs.Scope.{Seen, nothing_seen, numbered, counted, opened, left, once, Done, done}
use Rattle.zir_names.specs.Expressions.{maybe, type_of}
use Rattle.zir_names.specs.Statements.{in_turn, variable, body_of}
use Rattle.zir_names.specs.Components.{comp}

-- A name must not stand among these declarations.
abbrev pub new_name : List Entry → Ident → Walk (Unit {0})
new_name before x = once before x (Fine tt)

-- These names and one more.
abbrev pub and_name : List Entry → Ident → List Entry
and_name before x = before ++ record { name = x.name; id = x.id; kind = kind.Fixed } ∷ []

-- The fields of a struct: no two have one name, and none is a declaration.
abbrev pub fields : Seen → List Entry → List Field → Walk (List Field)
fields seen before [] = Fine []
fields seen before (f ∷ fs) =
    and_then (new_name before f.name) (λ _. and_then (type_of seen f.ty) (λ ty. and_then (fields seen (and_name before f.name) fs) (λ fs'.
    Fine (record { name = f.name; ty = ty } ∷ fs'))))

-- The parameters of a function: no two have one name, and each gets a number. Their types do not see them.
abbrev pub params : Seen → List Entry → List Field → Walk (Done (List Field))
params seen before [] = done [] seen
params seen before (f ∷ fs) =
    and_then (new_name before f.name) (λ _. and_then (type_of seen f.ty) (λ ty. and_then (params (counted seen) (and_name before f.name) fs) (λ fs'.
    done (record { name = numbered seen f.name; ty = ty } ∷ fs'.made) fs'.seen)))

-- Parameters come into scope.
abbrev pub entered : List Field → Seen → Seen
entered [] seen = seen
entered (f ∷ fs) seen = entered fs (opened kind.Fixed f.name seen)

-- In its body a function or struct means itself.
abbrev pub inside : Ident → Seen → Seen
inside x seen = opened kind.Own x seen

-- Behind a declaration its name is seen, and nothing that was declared in it.
abbrev pub behind : Kind → Ident → Seen → Seen → Seen
behind k x before seen = opened k x (left before seen)

-- A struct: its number comes first, and its fields are its body.
abbrev pub struct_of : Seen → Struct → Walk (Done Decl)
struct_of seen s =
    and_then (new_name seen.open_ s.name) (λ _. and_then (fields (inside (numbered seen s.name) (counted seen)) [] s.fields) (λ fs.
    done (decl.Struct (record { name = numbered seen s.name; fields = fs; at = s.at }))
    (behind kind.Structure (numbered seen s.name) seen (inside (numbered seen s.name) (counted seen)))))

-- A function: its number comes first; its types do not see it, and its body sees it and its parameters.
abbrev pub function_of : Seen → Function → Walk (Done Decl)
function_of seen f =
    and_then (new_name seen.open_ f.name) (λ _. and_then (params (counted seen) [] f.params) (λ ps. and_then (maybe (type_of ps.seen) f.result) (λ result.
    and_then (body_of (entered ps.made (inside (numbered seen f.name) ps.seen)) f.body) (λ b.
    done (decl.Function (record { name = numbered seen f.name; params = ps.made; result = result; body = b.made; at = f.at }))
    (behind (kind.Function (length f.params)) (numbered seen f.name) seen b.seen)))))

-- A `fun comp`, as a function.
abbrev pub comp_function_of : Seen → CompFunction → Walk (Done Decl)
comp_function_of seen f =
    and_then (new_name seen.open_ f.name) (λ _. and_then (params (counted seen) [] f.params) (λ ps.
    and_then (comp (entered ps.made (inside (numbered seen f.name) ps.seen)) f.body) (λ c.
    done (decl.Comp (record { name = numbered seen f.name; params = ps.made; body = c.made; at = f.at }))
    (behind kind.Component (numbered seen f.name) seen c.seen))))

-- A declaration at the top, whose name no other there has.
abbrev pub decl_of : Seen → Decl → Walk (Done Decl)
decl_of seen (decl.Var v) = and_then (new_name seen.open_ v.name) (λ _. and_then (variable seen v) (λ v'. done (decl.Var v'.made) v'.seen))
decl_of seen (decl.Struct s) = struct_of seen s
decl_of seen (decl.Function f) = function_of seen f
decl_of seen (decl.Comp f) = comp_function_of seen f

-- A program with its names resolved.
abbrev pub finished : List Decl → TypeExpr → Comp → TypeExpr → Place → Walk Named
finished declarations input main output at = Fine (record { program = record { declarations = declarations; input = input; main = main; output = output; at = at } })

-- The names of a program: its declarations, the type that it reads, its main component and the type that it writes. It is the program with its
-- names resolved, or the first refusal in the order of the text.
abbrev pub names : Prog → Walk Named
names p =
    and_then (in_turn decl_of nothing_seen p.declarations) (λ ds. and_then (type_of ds.seen p.input) (λ input.
    and_then (comp ds.seen p.main) (λ main. and_then (type_of main.seen p.output) (λ output.
    finished ds.made input main.made output p.at))))
