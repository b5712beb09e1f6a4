use Rattle.std.proofs.Common.{◌≡◌, ℕ, ◌||◌, nat_eq}
use Rattle.std.specs.List.{list_any}
use Rattle.zir_assigned.specs.Sets.{has}
use Rattle.zir_assigned.proofs.sets.join.Given as goal

-- the variables so far and those that are left
abbrev pub invariant-loop-id : goal.invariant-loop-id
invariant-loop-id l = (k : ℕ) → (has l.ids k || list_any (nat_eq k) l.id-iterator) ≡ (has l.initial.ids k || has l.others k)
