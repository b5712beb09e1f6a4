-- What it is for an evaluation by code to end as its meaning does.
use Rattle.std.specs.Prelude.{ℕ, ℤ, ◌≤◌, List, Bool, true, false, Option, Some, None, Result, Ok, Err, ◌≡◌, nat_eq, length}
use Rattle.zir_tree.specs.declared.types.Ty.{Ty}
use Rattle.zir_tree.specs.declared.value.Val.{Val}
use Rattle.zir_tree.specs.declared.expr.Expr.{Expr}
use Rattle.zir_tree.specs.declared.stmt.Stmt.{Stmt}
use Rattle.zir_meaning.specs.Store.{look_up}
use Rattle.zir_meaning.specs.Trace.{State}
use Rattle.zir_meaning.specs.Evaluation.{Eval, Got, Traps, RunsOut, Library, ev}
use Rattle.zir_meaning.specs.Statements.{does_all, assign}
use Rattle.zir_cells.specs.Cells.{cells_of}
use Rattle.zir_shapes.specs.Shapes.{Shaped}
use Rattle.zir_expr.specs.declared.frame.Spot.{Spot}
use Rattle.zir_expr.specs.Memory.Frames.{Memory}
use Rattle.zir_code.specs.declared.scope.Holder.{Holder}
use Rattle.zir_code.specs.Scopes.{Scope, variable}
use Rattle.zir_code.specs.Peaks.{peak_of}
use Rattle.zir_code.specs.Typing.{Has}
use Rattle.zir_code.specs.Holding.{Holds, Kept, StandsAt}
use Rattle.zir_code.specs.Fine.{SoleIn, Went, Stopped}
use Rattle.zir_code.specs.Bodies.{scope_after_all, free_after_all, FineAll}
use Rattle.zir_code.specs.Calls.{Calls}
use Rattle.zir_compile.specs.declared.made.Made.{Made}
use Rattle.zir_compile.specs.declared.made.Written.{Written}
use Rattle.zir_compile.specs.Made.{code_if, written}
use Rattle.zir_eval.specs.declared.evaluation.Stop.{Stop}
use Rattle.zir_eval.specs.declared.evaluation.Stop.TheVariants.{Trap as ByTrap, Spent}

-- an evaluation left what it keeps, and the frame then holds what is in scope
pub record Left (top base d n : ℕ) (g : Scope) (m m' : Memory) (s s' : State) : Type 0 where
  pub kept : Kept top base d g m m' s s'
  pub holds : Holds top base d n g m' s'

-- an evaluation stopped as this meaning: by the same trap, or with the budget spent
abbrev pub StoppedAs : ℕ → ℕ → ℕ → ℕ → Scope → Memory → State → Eval → Stop → Memory → Type 0
StoppedAs top base d n g m s (Got v s') stop m' = ⊥
StoppedAs top base d n g m s (Traps u s') (ByTrap w) m' = (u ≡ w) × Left top base d n g m m' s s'
StoppedAs top base d n g m s (Traps u s') Spent m' = ⊥
StoppedAs top base d n g m s RunsOut (ByTrap w) m' = ⊥
StoppedAs top base d n g m s RunsOut Spent m' = Unit {0}

-- an evaluation ended with the value in the cells from this index on
abbrev pub ValuedAs : ℕ → ℕ → ℕ → ℕ → Scope → Ty → Memory → State → Eval → ℕ → Memory → Type 0
ValuedAs top base d n g t m s (Got v s') at m' = StandsAt g.structs t v m' at × Left top base d n g m m' s s'
ValuedAs top base d n g t m s (Traps u s') at m' = ⊥
ValuedAs top base d n g t m s RunsOut at m' = ⊥

-- an evaluation ended as this meaning
abbrev pub Evaluated : ℕ → ℕ → ℕ → ℕ → Scope → Ty → Memory → State → Eval → Result ℕ Stop → Memory → Type 0
Evaluated top base d n g t m s r (Ok at) m' = ValuedAs top base d n g t m s r at m'
Evaluated top base d n g t m s r (Err stop) m' = StoppedAs top base d n g m s r stop m'

-- where functions do what they mean and the frame holds what is in scope, the code of a typed expression ends as it means
abbrev pub Evaluates : Made → ℕ → Memory → Result ℕ Stop → Memory → Type 0
Evaluates made base m answer m' =
    (top d n : ℕ) (l : Library) (g : Scope) (t : Ty) (e : Expr) (s : State) → Calls top l g.structs g.tops g.funs →
    Has g n t e → peak_of g e d ≤ n →
    Holds top base d n g m s → Some made ≡ code_if g e d → Evaluated top base d n g t m s (ev l e s) answer m'

-- statements stopped as this meaning: by the same trap, the frame then holding the top variables, or with the budget spent
abbrev pub HaltedAs : ℕ → ℕ → Scope → Memory → Eval → Stop → Memory → Type 0
HaltedAs top base g m (Got v s') stop m' = ⊥
HaltedAs top base g m (Traps u s') (ByTrap w) m' = (u ≡ w) × Stopped top base g.structs g.tops m m' s'
HaltedAs top base g m (Traps u s') Spent m' = ⊥
HaltedAs top base g m RunsOut (ByTrap w) m' = ⊥
HaltedAs top base g m RunsOut Spent m' = Unit {0}

-- statements came to their end, and the frame then holds what is in scope behind them
abbrev pub CameTo : ℕ → ℕ → ℕ → ℕ → Scope → Memory → Eval → Memory → Type 0
CameTo top base d n g m (Got v s') m' = Went top base d n g m m' s'
CameTo top base d n g m (Traps u s') m' = ⊥
CameTo top base d n g m RunsOut m' = ⊥

-- statements ended as this meaning
abbrev pub Executed : ℕ → ℕ → ℕ → ℕ → Scope → Memory → Eval → Result (Unit {0}) Stop → Memory → Type 0
Executed top base d n g m r (Ok u) m' = CameTo top base d n g m r m'
Executed top base d n g m r (Err stop) m' = HaltedAs top base g m r stop m'

-- the same of well typed statements
abbrev pub Executes : Written → ℕ → Memory → Result (Unit {0}) Stop → Memory → Type 0
Executes made base m answer m' =
    (top d n : ℕ) (l : Library) (g : Scope) (ss : List Stmt) (s : State) → Calls top l g.structs g.tops g.funs → FineAll g d n ss →
    Holds top base d n g m s → Some made ≡ written g ss d →
    Executed top base (free_after_all g d ss) n (scope_after_all g d ss) m (does_all l ss s) answer m'

-- whether a variable was found, and has so many cells
abbrev pub has_cells : Option Holder → ℕ → Bool
has_cells None n = false
has_cells (Some v) n = nat_eq v.cells n

-- where a variable that was found stands, if it has so many cells
abbrev pub SpotOf : Option Holder → ℕ → Option Spot → Type 0
SpotOf found n None = has_cells found n ≡ false
SpotOf found n (Some spot) = (v : Holder) × (found ≡ Some v) × (v.cells ≡ n) × (spot ≡ v.spot)

-- the cells that were read of a variable are those of its value where the frame holds what is in scope; none were read where it has not so many
abbrev pub Reads : Scope → ℕ → ℕ → Memory → Bool → List ℤ → List ℤ → Type 0
Reads g id base m false old new = (has_cells (variable g id) (length old) ≡ false) × (new ≡ old)
Reads g id base m true old new =
    (top d n : ℕ) (s : State) → Holds top base d n g m s → d ≤ n → cells_of (look_up s.store id) ≡ new

-- a variable got a value with these cells, and the frame then holds it; it stays as it is where it has not so many
abbrev pub Writes : Scope → ℕ → ℕ → List ℤ → Memory → Bool → Memory → Type 0
Writes g id base cells m false m' = (has_cells (variable g id) (length cells) ≡ false) × (m' ≡ m)
Writes g id base cells m true m' =
    (top d n : ℕ) (v : Holder) (w : Val) (s : State) → Holds top base d n g m s → d ≤ n → variable g id ≡ Some v → SoleIn g id v →
    Shaped g.structs v.ty w → cells_of w ≡ cells → Holds top base d n g m' (assign id w s)
