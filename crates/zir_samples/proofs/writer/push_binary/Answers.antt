use Rattle.std.proofs.Common.{◌≡◌, ◌*◌, ◌/◌, ◌++◌, false, inr, ap, sym, subst, ◌∙◌, w64, to_z, of_z}
use Rattle.std.proofs.lemmas.Int.{to_z-of_z}
use Rattle.std.proofs.lemmas.Result.{on_ok_weaker, on_err_weaker}
use Rattle.zir_meaning.specs.Items.{width as width_of}
use Rattle.zir_meaning.specs.Samples.{bits_at, low_bits, spell_bits, without_sign as unsigned_of}
use Rattle.zir_outside.specs.Sinks.{GrewPart}
use Rattle.zir_samples.specs.Output.{Puts}
use Rattle.zir_samples.proofs.Numbers.{whole-width}
use Rattle.zir_samples.proofs.writer.push_binary.Goals as goal

-- the bits of the number
bits : (g : _) (c : goal.After-push_number g) → low_bits (8 * (c.width-width.result / 8)) c.without_sign-in_default.result ≡ bits_at c.args.base c.args.number
bits g c =
    let base = c.args.base in
    let w = c.width-width.result in
    let number : to_z w64 (of_z w64 c.args.number) ≡ c.args.number = to_z-of_z w64 c.args.number c.ranges.number in
    ap (λ n. low_bits (8 * (w / 8)) n) (c.without_sign-in_default.ensures ∙ ap (unsigned_of w) number)
    ∙ ap (λ k. low_bits (8 * (k / 8)) (unsigned_of k c.args.number)) c.width-width.ensures.width
    ∙ ap (λ k. low_bits k (unsigned_of (width_of base) c.args.number)) (whole-width base c.in_default.not-Bit)

pub returns-in_default : goal.returns-in_default
returns-in_default g c = record {
  ok = on_ok_weaker c.push_number.result (λ puts. subst (λ bs. Puts g.K.Sink.stands_for c.args.sink.now c.push_number.new.sink (c.args.output.now ++ bs) c.push_number.new.self) (bits g c) puts) c.push_number.ensures.ok;
  failed = on_err_weaker c.push_number.result (λ part. subst (λ bs. GrewPart (spell_bits false (c.args.output.now ++ bs)) (g.K.Sink.stands_for c.args.sink.now) (g.K.Sink.stands_for c.push_number.new.sink)) (bits g c) part) c.push_number.ensures.failed;
  whole = inr c.push_number.ensures.whole;
  untold = c.push_number.ensures.untold;
  cause = c.push_number.ensures.cause;
}
