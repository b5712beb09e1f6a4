use Rattle.std.proofs.Common.{◌≡◌, ◌+◌, ◌-◌, ◌*◌, drop, take}
use Rattle.zir_meaning.specs.Samples.{bits_of, number_of}
use Rattle.zir_samples.proofs.bits.whole_number.Given as goal

abbrev pub invariant-loop-i : goal.invariant-loop-i
invariant-loop-i l = l.number ≡ number_of (take (8 * (l.count - l.i)) (drop (l.at + 8 * l.i) (bits_of l.bytes)))
