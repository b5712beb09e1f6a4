-- That the code of initial values begins a program.
use Rattle.std.specs.Prelude.{ℕ, ◌<◌, ◌^◌, ◌+◌, List, true, Some, Result, Ok, Err, ◌≡◌}
use Rattle.zir_tree.specs.declared.value.Val.{Val}
use Rattle.zir_tree.specs.declared.ends.Trap.{Trap}
use Rattle.zir_tree.specs.declared.ends.End.TheVariants.{Trap as Trapped}
use Rattle.zir_tree.specs.declared.program.Core.{Core}
use Rattle.zir_meaning.specs.Trace.{State, spent, ends}
use Rattle.zir_meaning.specs.Instances.{means}
use Rattle.zir_meaning.specs.Run.{program_trace, start}
use Rattle.zir_expr.specs.Memory.Frames.{Memory}
use Rattle.zir_code.specs.Holding.{Holds}
use Rattle.zir_code.specs.Bodies.{FineAll}
use Rattle.zir_compile.specs.Made.{written}
use Rattle.zir_compile.specs.declared.made.Written.{Written}
use Rattle.zir_compile.specs.Signing.{no_signature, FineAfter}
use Rattle.zir_eval.specs.declared.evaluation.Stop.{Stop}
use Rattle.zir_eval.specs.declared.evaluation.Stop.TheVariants.{Trap as ByTrap, Spent}
use Rattle.zir_eval.specs.Ends.{Executes}
use Rattle.zir_eval.specs.Opening.{top_holders, top_cells, can_open, program_scope, initial_assignments, IsBlank, KnowsTypes}
use Rattle.zir_beginning.specs.Order.{BeginsInOrder}

-- a program whose initial values have code, which uses so many cells behind the top variables
pub record HasBeginning (core : Core) (room : ℕ) : Type 0 where
  pub order : BeginsInOrder core
  pub types : KnowsTypes core
  pub functions : FineAfter core.structs (top_holders core.structs 0 core.variables) no_signature 0 core.functions
  pub values : FineAll (program_scope core) 0 room (initial_assignments core.variables)
  pub opens : can_open core ≡ true
  pub few : room < 2 ^ 32

-- the frame holds the top variables of a state, from which the main component goes on
pub record Opened (core : Core) (room limit : ℕ) (m : Memory) : Type 0 where
  pub state : State
  pub holds : Holds (top_cells core) (top_cells core) 0 room (program_scope core) m state
  pub taken : state.taken ≡ 0
  pub limit_is : state.ticks + state.left ≡ limit
  pub goes_on : (xs : List Val) → program_trace core (start limit) xs ≡ means core core.main state xs

-- the program ends by this trap
pub record Fails (core : Core) (limit : ℕ) (w : Trap) (m : Memory) : Type 0 where
  pub state : State
  pub taken : state.taken ≡ 0
  pub used : m.used ≡ state.ticks
  pub ends_so : (xs : List Val) → program_trace core (start limit) xs ≡ ends (Trapped w) state xs

-- a run of the code of initial values ended as the program begins
abbrev pub Began : Core → ℕ → ℕ → Result (Unit {0}) Stop → Memory → Type 0
Began core room limit (Ok u) m = Opened core room limit m
Began core room limit (Err (ByTrap w)) m = Fails core limit w m
Began core room limit (Err Spent) m = (xs : List Val) → program_trace core (start limit) xs ≡ spent

-- over a new frame a run of the code of initial values ends as the program begins
abbrev pub CodeBegins : Type 0
CodeBegins =
    (core : Core) (room limit : ℕ) (made : Written) (m m' : Memory) (answer : Result (Unit {0}) Stop) →
    HasBeginning core room → IsBlank (program_scope core).tops room limit m →
    Some made ≡ written (program_scope core) (initial_assignments core.variables) 0 →
    Executes made (top_cells core) m answer m' → Began core room limit answer m'
