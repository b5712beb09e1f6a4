use Rattle.std.proofs.Common.{◌≡◌, drop}
use Rattle.zir_bit_meaning.specs.Store.{look_up}
use Rattle.zir_machine.proofs.eval.value_at.Given as goal

abbrev pub invariant-loop-slot : goal.invariant-loop-slot
invariant-loop-slot l = look_up l.store l.id ≡ look_up (drop l.slot-index l.store) l.id
