-- A step of the loop, and a number that is too great with only its first digits.
use Rattle.std.proofs.Common.{◌≡◌, ◌+◌, ◌*◌, ◌<◌, ℕ, List, length, take, get_or, arith, sym, ◌∙◌}
use Rattle.std.specs.Char.{digit_value}
use Rattle.zir_lex.specs.Classes.{number_of}
use Rattle.zir_lex.proofs.DigitSums.{number_more, number_front}
use Rattle.zir_lex.proofs.numbers.value_of.Goals as goal

-- the number of the digits so far, and one digit more
step : (base value digit : ℕ) (digits : List ℕ) (i : ℕ) → value ≡ number_of base (take i digits) → digit ≡ digit_value (get_or digits i 0) → i < length digits → value * base + digit ≡ number_of base (take (i + 1) digits)
step base value digit digits i value_is digit_is below = rw (value_is, digit_is) (sym (number_more base digits i below))

pub returns-in_err-value : goal.returns-in_err-value
returns-in_err-value c =
    let so_far = step c.args.base c.loop-digit.value c.digit_value.result c.args.digits.now c.loop-digit.digit-index c.loop-digit.invariant.so_far c.digit_value.ensures.value c.loop-digit-test.true in
    let front = number_front c.args.base c.args.digits.now (c.loop-digit.digit-index + 1) c.requires.base.0 in
    rw c.from_residual.ensures (omega (arith, c.in_err-value.ensures, so_far, front))

pub loop-digit-preserved : goal.loop-digit-preserved
loop-digit-preserved c = record {
  so_far = c.in_ok-value.ensures.0 ∙ step c.args.base c.loop-digit.value c.digit_value.result c.args.digits.now c.loop-digit.digit-index c.loop-digit.invariant.so_far c.digit_value.ensures.value c.loop-digit-test.true;
  small = c.in_ok-value.ensures.1;
}
