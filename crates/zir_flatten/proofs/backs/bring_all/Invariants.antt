use Rattle.std.proofs.Common.{◌≡◌, ◌++◌, drop, ℕ, List}
use Rattle.zir_flow.specs.Flowing.{back_among}
use Rattle.zir_assigned.specs.Sets.{Holds}
use Rattle.zir_flatten.proofs.backs.bring_all.Given as goal

-- all that is brought back is what has come and what is to come
abbrev pub invariant-loop-holder : goal.invariant-loop-holder
invariant-loop-holder l = (ids : List ℕ) → Holds l.set ids → l.back.items ++ back_among ids (drop l.holder-index l.holders) ≡ l.initial.back.items ++ back_among ids l.holders
