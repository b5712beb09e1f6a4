use Rattle.std.proofs.Common.{◌≡◌, ◌<◌, ◌+◌, ◌*◌, ℕ, ℤ, get_or, drop, take}
use Rattle.zir_meaning.specs.Items.{width as width_of}
use Rattle.zir_meaning.specs.Samples.{bits_of, number_at}
use Rattle.zir_samples.proofs.bits.read_numbers.Given as goal

abbrev pub invariant-loop-i : goal.invariant-loop-i
invariant-loop-i l = (k : ℕ) (d : ℤ) → k < l.i → get_or l.into k d ≡ number_at l.base (take (width_of l.base) (drop (l.first + k * width_of l.base) (bits_of l.bytes)))
