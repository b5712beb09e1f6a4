-- The laws of code: it does what the program's expressions, statements and functions mean.
use Rattle.std.specs.Prelude.{ℕ, ◌≤◌, List, Option, None, ◌≡◌}
use Rattle.zir_tree.specs.declared.types.Ty.{Ty}
use Rattle.zir_tree.specs.declared.types.StructDef.{StructDef}
use Rattle.zir_tree.specs.declared.expr.Expr.{Expr}
use Rattle.zir_tree.specs.declared.stmt.Stmt.{Stmt}
use Rattle.zir_tree.specs.declared.program.Function.{Function}
use Rattle.zir_meaning.specs.Trace.{State}
use Rattle.zir_meaning.specs.Evaluation.{Library, ev}
use Rattle.zir_meaning.specs.Statements.{does_all}
use Rattle.zir_meaning.specs.Functions.{library_of}
use Rattle.zir_shapes.specs.Shapes.{Ordered}
use Rattle.zir_expr.specs.Memory.{Done}
use Rattle.zir_expr.specs.Memory.Frames.{Memory}
use Rattle.zir_expr.specs.Running.{go_all}
use Rattle.zir_code.specs.declared.scope.Holder.{Holder}
use Rattle.zir_code.specs.declared.scope.Signature.{Signature}
use Rattle.zir_code.specs.Scopes.{Scope}
use Rattle.zir_code.specs.Types.{type_in}
use Rattle.zir_code.specs.Coding.{stands, code_of}
use Rattle.zir_code.specs.Peaks.{peak_of}
use Rattle.zir_code.specs.Typing.{Has}
use Rattle.zir_code.specs.Holding.{Holds, Spares, Agrees}
use Rattle.zir_code.specs.Fine.{AgreesStmt}
use Rattle.zir_code.specs.Bodies.{all_code, scope_after_all, free_after_all, FineAll}
use Rattle.zir_code.specs.Calls.{AllTop, Calls}
use Rattle.zir_code.specs.Program.{HaveSignatures, more_signatures}

-- where the code of each function does what it means, and the cells hold what is in scope, the code of a typed expression for which there is room
-- does what the expression means
abbrev pub ExpressionsAgree : Type 0
ExpressionsAgree =
    (top base d n : ℕ) (l : Library) (g : Scope) → Calls top l g.structs g.tops g.funs →
    (t : Ty) (e : Expr) (m : Memory) (s : State) → Has g n t e → peak_of g e d ≤ n → Holds top base d n g m s →
    Agrees top base d g t (stands g e d) m s (ev l e s) (go_all (code_of g e d) base m)

-- the same of statements one after the other
abbrev pub StatementsAgree : Type 0
StatementsAgree =
    (top base d n : ℕ) (l : Library) (g : Scope) → Calls top l g.structs g.tops g.funs →
    (statements : List Stmt) (m : Memory) (s : State) → FineAll g d n statements → Holds top base d n g m s →
    AgreesStmt top base (free_after_all g d statements) n (scope_after_all g d statements) m (does_all l statements s) (go_all (all_code g d statements) base m)

-- where statements come to their end, the cells that belong to no variable in scope before them are as they were
abbrev pub StatementsSpare : Type 0
StatementsSpare =
    (top base d n : ℕ) (l : Library) (g : Scope) → Calls top l g.structs g.tops g.funs →
    (statements : List Stmt) (m m' : Memory) (s : State) → FineAll g d n statements → Holds top base d n g m s →
    go_all (all_code g d statements) base m ≡ Done m' → Spares top base d g m m'

-- where functions have these signatures, each over those before it, the code of each does what the function means in the program
abbrev pub FunctionsAgree : Type 0
FunctionsAgree =
    (top : ℕ) (structs : List StructDef) (tops : List Holder) (functions : List Function) (signatures : List (Option Signature)) →
    Ordered structs → AllTop tops → HaveSignatures structs tops (λ k. None) 0 functions signatures →
    Calls top (library_of structs functions) structs tops (more_signatures (λ k. None) 0 signatures)

-- an expression of a type is found to have it
abbrev pub TypesAreFound : Type 0
TypesAreFound = (g : Scope) (n : ℕ) (t : Ty) (e : Expr) → Has g n t e → type_in g e ≡ t
