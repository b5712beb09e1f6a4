use Rattle.std.proofs.Common.{ℕ, Bool, drop}
use Rattle.zir_meaning.specs.Assigned.{Assigning, path_assigns}
use Rattle.zir_assigned.specs.Sets.{Adds, has}
use Rattle.zir_assigned.specs.Assigned.{Agrees}
use Rattle.zir_assigned.proofs.assigned.Assigned.path.Given as goal

-- with what those from here on add, all is added
abbrev pub invariant-loop-access : goal.invariant-loop-access
invariant-loop-access l = (r : Assigning) → Agrees l.self r → (set : ℕ → Bool) → Adds (path_assigns r (drop l.access-index l.path)) (has l.ids) set →
    Adds (path_assigns r l.path) (has l.initial.ids) set
