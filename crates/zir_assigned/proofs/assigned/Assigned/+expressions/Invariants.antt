use Rattle.std.proofs.Common.{ℕ, Bool, drop}
use Rattle.zir_meaning.specs.Assigned.{Assigning, exprs_assign}
use Rattle.zir_assigned.specs.Sets.{Adds, has}
use Rattle.zir_assigned.specs.Assigned.{Agrees}
use Rattle.zir_assigned.proofs.assigned.Assigned.+expressions.Given as goal

-- with what those from here on add, all is added
abbrev pub invariant-expressions-loop-e : goal.invariant-expressions-loop-e
invariant-expressions-loop-e l = (r : Assigning) → Agrees l.self r → (set : ℕ → Bool) → Adds (exprs_assign r (drop l.e-index l.es)) (has l.ids) set →
    Adds (exprs_assign r l.es) (has l.initial.ids) set
