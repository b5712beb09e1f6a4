use Rattle.std.proofs.Common.{◌≡◌, false}
use Rattle.zir_bit_samples.proofs.tests.copy.Given as goal

abbrev pub invariant-loop-i : goal.invariant-loop-i
invariant-loop-i l = l.reader.failed ≡ false
