use Rattle.std.proofs.Common.{◌≡◌, ◌+◌, ◌*◌, ◌-◌, ◌^◌, min, take}
use Rattle.std.specs.Prelude.{fold}
use Rattle.zir_samples.proofs.text.magnitude.Given as goal

abbrev pub invariant-loop-digit : goal.invariant-loop-digit
invariant-loop-digit l = l.number ≡ min (fold (λ n digit. 10 * n + (digit - 48)) 0 (take l.digit-index l.digits)) (2 ^ 64 - 1)
