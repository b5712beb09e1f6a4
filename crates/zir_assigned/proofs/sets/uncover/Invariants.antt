use Rattle.std.proofs.Common.{◌≡◌, ℕ, vec_len}
use Rattle.zir_assigned.specs.Sets.{has, uncovered}
use Rattle.zir_assigned.proofs.sets.uncover.Given as goal

-- what is left to uncover
abbrev pub invariant-loop-last : goal.invariant-loop-last
invariant-loop-last l = (k : ℕ) → uncovered l.hidden.items (has l.ids) k ≡ uncovered l.initial.hidden.items (has l.initial.ids) k

abbrev pub decreases-loop-last : goal.decreases-loop-last
decreases-loop-last l = vec_len l.hidden
