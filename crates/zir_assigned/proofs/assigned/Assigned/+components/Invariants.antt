use Rattle.std.proofs.Common.{ℕ, [], Bool, drop}
use Rattle.zir_meaning.specs.Assigned.{Assigning}
use Rattle.zir_assigned.specs.Sets.{Adds, has, uncovered}
use Rattle.zir_assigned.specs.Assigned.{Agrees, members_then}
use Rattle.zir_assigned.proofs.assigned.Assigned.+components.Given as goal

-- with what those from here on add, all is added
abbrev pub invariant-members-loop-m : goal.invariant-members-loop-m
invariant-members-loop-m l = (r : Assigning) → Agrees l.self r → (set : ℕ → Bool) →
    Adds (members_then r (drop l.m-index l.ms) []) (has l.ids) set → Adds (members_then r l.ms []) (has l.initial.ids) (uncovered l.hidden.items set)
