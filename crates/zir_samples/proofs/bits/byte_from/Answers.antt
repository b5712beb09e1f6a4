use Rattle.std.proofs.Common.{◌≡◌, ◌<◌, ◌+◌, ◌*◌, ◌/◌, ◌%◌, ◌^◌, ◌∙◌, ap, sym, length, get_or, take, drop, arith}
use Rattle.zir_meaning.specs.Samples.{bits_of, number_of}
use Rattle.zir_samples.proofs.Numbers.{split-byte, whole-byte}
use Rattle.zir_samples.proofs.bits.byte_from.Goals as goal

pub returns-then-skipped-eq0 : goal.returns-then-skipped-eq0
returns-then-skipped-eq0 c =
    let at : c.args.at ≡ 8 * (c.args.at / 8) = omega (arith, c.if-skipped-eq0.true) in
    let inside : c.args.at / 8 < length c.args.bytes.now = omega (arith, c.requires.enough) in
    sym (whole-byte (c.args.at / 8) c.args.bytes.now inside (λ k. (c.type_inv.bytes k).fits)) ∙ ap (λ k. number_of (take 8 (drop k (bits_of c.args.bytes.now)))) (sym at)

pub returns : goal.returns
returns c =
    let at : c.args.at ≡ 8 * (c.args.at / 8) + c.args.at % 8 = omega arith in
    let near : c.args.at % 8 < 8 = omega arith in
    let inside : c.args.at / 8 + 1 < length c.args.bytes.now = omega (arith, c.requires.enough, c.if-skipped-eq0.false) in
    ap (λ n. (n + 256 * c.from-2.result) / 2 ^ (c.args.at % 8) % 256) c.from.ensures
    ∙ ap (λ n. (get_or c.args.bytes.now (c.args.at / 8) 0 + 256 * n) / 2 ^ (c.args.at % 8) % 256) c.from-2.ensures
    ∙ sym (split-byte (c.args.at / 8) (c.args.at % 8) c.args.bytes.now near inside (λ k. (c.type_inv.bytes k).fits))
    ∙ ap (λ k. number_of (take 8 (drop k (bits_of c.args.bytes.now)))) (sym at)
