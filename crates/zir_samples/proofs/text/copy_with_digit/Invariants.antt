use Rattle.std.proofs.Common.{◌≡◌, take}
use Rattle.zir_samples.proofs.text.copy_with_digit.Given as goal

abbrev pub invariant-loop-i : goal.invariant-loop-i
invariant-loop-i l = take l.i l.into ≡ take l.i l.bytes
