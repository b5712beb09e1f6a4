-- The law of costs: what a trace makes of its ticks.
use Rattle.std.specs.Prelude.{ℕ, ◌≤◌, List, ◌≡◌, length}
use Rattle.zir_tree.specs.declared.value.Val.{Val}
use Rattle.zir_tree.specs.declared.ends.End.TheVariants.{Starved}
use Rattle.zir_tree.specs.declared.comp.Comp.{Comp}
use Rattle.zir_tree.specs.declared.program.Core.{Core}
use Rattle.zir_meaning.specs.Trace.{State, Trace}
use Rattle.zir_meaning.specs.Instances.{means}

-- with so many ticks left over these elements: no more outputs than ticks, and where the trace starves no more elements
pub record CostsTicks (left : ℕ) (xs : List Val) (t : Trace) : Type 0 where
  pub outs : length t.outs ≤ left
  pub taken : t.end ≡ Starved → length xs ≤ left

-- each element taken and each output costs a tick
abbrev pub Costs : Type 0
Costs = (core : Core) (c : Comp) (s : State) (xs : List Val) → CostsTicks s.left xs (means core c s xs)
