-- Short words for the programs of the worked rows.
use Rattle.std.specs.Prelude.{ℕ, List, [], Option, Some, None, map}
use Rattle.zir_tree.specs.declared.place.Place.{Place}
use Rattle.zir_tree.specs.declared.ident.Ident.{Ident}
use Rattle.zir_tree.specs.declared.types.Base.{Base}
use Rattle.zir_tree.specs.declared.types.Ty.{Ty}
use Rattle.zir_tree.specs.declared.types.TypeExpr.{TypeExpr}
use Rattle.zir_tree.specs.declared.types.StructDef.{StructDef}
use Rattle.zir_tree.specs.declared.types.Field.{Field}
use Rattle.zir_tree.specs.declared.expr.Expr.{Expr}
use Rattle.zir_tree.specs.declared.stmt.Var.{Var}
use Rattle.zir_tree.specs.declared.stmt.Stmt.{Stmt}
use Rattle.zir_tree.specs.declared.stmt.Body.{Body}
use Rattle.zir_tree.specs.declared.comp.Comp.{Comp}
use Rattle.zir_tree.specs.declared.program.Function.{Function}
use Rattle.zir_tree.specs.declared.program.Instance.{Instance}
use Rattle.zir_tree.specs.declared.program.Core.{Core}
use Rattle.zir_meaning.specs.Answer.{Answer, Loaded}

-- a place
abbrev pub at : ℕ → ℕ → Place
at l c = record { line = l; col = c }

-- a place that tells nothing
abbrev pub here : Place
here = at 1 1

-- the name of a declaration of this number
abbrev pub id : ℕ → Ident
id n = record { name = []; id = n; at = here }

-- a type
abbrev pub ty : List ℕ → Base → Ty
ty ns b = record { lengths = ns; base = b }

-- a type as a text writes it
abbrev pub written : List ℕ → Base → TypeExpr
written ns b = record { dimensions = map (λ n. record { length = n; at = here }) ns; base = b; name = None; at = here }

-- a type that is no array
abbrev pub plain : Base → Ty
plain b = ty [] b

-- the word of a type that is no array
abbrev pub word : Base → TypeExpr
word b = written [] b

-- a struct of this name with fields of these types
abbrev pub struct : List ℕ → List Ty → StructDef
struct name ts = record { name = name; fields = map (λ t. record { name = []; ty = t }) ts }

-- the declaration of a variable
abbrev pub var : ℕ → TypeExpr → Option Expr → Var
var n t e = record { name = id n; ty = t; initial = e; at = here }

-- a parameter
abbrev pub param : ℕ → TypeExpr → Field
param n t = record { name = id n; ty = t }

-- statements without a value
abbrev pub doing : List Stmt → Body
doing ss = record { statements = ss; result = None }

-- statements with the value that they return
abbrev pub returning : List Stmt → Expr → Body
returning ss e = record { statements = ss; result = Some (record { value = e; at = here }) }

-- a function
abbrev pub function : ℕ → List Field → Body → Function
function n ps b = record { name = id n; params = ps; result = None; body = b; at = here }

-- an instance of a `fun comp`
abbrev pub instance : ℕ → Ty → List Field → Comp → Instance
instance n t ps c = record { declaration = n; input = t; params = ps; body = c; emits = None; value = None }

-- a program
abbrev pub core : List StructDef → List Var → List Function → List Instance → Comp → Ty → Ty → Option Ty → Core
core ds vs fs is c a b v = record { structs = ds; variables = vs; functions = fs; instances = is; main = c; input = a; output = b; value = v; at = here }

-- a program without declarations
abbrev pub program : Comp → Ty → Ty → Option Ty → Core
program c a b v = core [] [] [] [] c a b v

-- a program under its name
abbrev pub loaded : List ℕ → Core → Loaded
loaded name c = record { name = name; core = c }

-- a status, and the bytes of the output and of the notes
abbrev pub answers : ℕ → List ℕ → List ℕ → Answer
answers status out notes = record { status = status; out = out; notes = notes }
