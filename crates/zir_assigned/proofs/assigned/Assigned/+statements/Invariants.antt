use Rattle.std.proofs.Common.{ℕ, List, Bool, drop}
use Rattle.zir_meaning.specs.Assigned.{Assigning, all_assign}
use Rattle.zir_assigned.specs.Sets.{Adds, has, uncovered}
use Rattle.zir_assigned.specs.Assigned.{Agrees}
use Rattle.zir_assigned.proofs.assigned.Assigned.+statements.Given as goal

-- with what those from here on and something behind them add, all is added
abbrev pub invariant-statements-loop-a : goal.invariant-statements-loop-a
invariant-statements-loop-a l = (r : Assigning) → Agrees l.self r → (last : List ℕ) (set : ℕ → Bool) →
    Adds (all_assign r (drop l.a-index l.ss) last) (has l.ids) set → Adds (all_assign r l.ss last) (has l.initial.ids) (uncovered l.hidden.items set)
