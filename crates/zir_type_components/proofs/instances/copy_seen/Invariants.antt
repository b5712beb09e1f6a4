use Rattle.std.proofs.Common.{◌≡◌, take}
use Rattle.zir_type_components.proofs.instances.copy_seen.Given as goal

abbrev pub invariant-loop-variable : goal.invariant-loop-variable
invariant-loop-variable l = l.copies.items ≡ take l.variable-index l.seen
