use Rattle.std.proofs.Common.{take}
use Rattle.zir_samples.specs.Reading.{IsUncut}
use Rattle.zir_samples.proofs.text.first_comma.Given as goal

abbrev pub invariant-loop-i : goal.invariant-loop-i
invariant-loop-i l = IsUncut (take l.i l.bytes)
