use Rattle.std.proofs.Common.{◌≡◌, ◌<◌, ◌+◌, ◌*◌, ◌/◌, ◌%◌, ◌∙◌, ap, sym, length, take, drop, pos, w64, FitsSigned, arith, rules}
use Rattle.std.proofs.lemmas.Int.{to_z-of_z}
use Rattle.zir_meaning.specs.Items.{width as width_of}
use Rattle.zir_meaning.specs.Samples.{bits_of, number_at, number_of, with_sign as signed_of}
use Rattle.zir_samples.proofs.Numbers.{number_at-signed, one-bit, whole-width}
use Rattle.zir_samples.proofs.bits.number_from.Goals as goal

pub returns-in-Bit : goal.returns-in-Bit
returns-in-Bit c =
    let at = c.args.at in
    let bytes = c.args.bytes.now in
    let one : width_of c.args.base ≡ 1 = ap width_of c.in-Bit.is in
    let near : at % 8 < 8 = omega arith in
    let inside : at / 8 < length bytes = omega (arith, one, c.requires.enough) in
    let place : 8 * (at / 8) + at % 8 ≡ at = omega arith in
    let fits : FitsSigned w64 c.from.result = search rules in
    to_z-of_z w64 c.from.result fits
    ∙ c.from.ensures
    ∙ ap (λ n. pos n) (sym (one-bit (at / 8) (at % 8) bytes near inside (λ k. (c.type_inv.bytes k).fits)))
    ∙ ap (λ k. pos (number_of (take 1 (drop k (bits_of bytes))))) place
    ∙ ap (λ base. number_at base (take (width_of base) (drop at (bits_of bytes)))) (sym c.in-Bit.is)

pub returns-in_default : goal.returns-in_default
returns-in_default c =
    let bits = bits_of c.args.bytes.now in
    let w = c.width-width.result in
    let whole : 8 * (w / 8) ≡ width_of c.args.base = ap (λ k. 8 * (k / 8)) c.width-width.ensures.width ∙ whole-width c.args.base c.in_default.not-Bit in
    let fits : FitsSigned w64 c.with_sign.result = search rules in
    to_z-of_z w64 c.with_sign.result fits
    ∙ c.with_sign.ensures
    ∙ ap (λ n. signed_of w n) (c.whole_number.ensures.number ∙ ap (λ k. number_of (take k (drop c.args.at bits))) whole)
    ∙ ap (λ k. signed_of k (number_of (take (width_of c.args.base) (drop c.args.at bits)))) c.width-width.ensures.width
    ∙ sym (number_at-signed c.args.base (take (width_of c.args.base) (drop c.args.at bits)) c.in_default.not-Bit)
