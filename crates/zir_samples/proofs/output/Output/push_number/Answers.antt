use Rattle.std.proofs.Common.{◌*◌, ◌%◌, ◌++◌, false, refl, sym, ap, ◌∙◌, append_assoc, arith, rules}
use Rattle.zir_meaning.specs.Samples.{low_bits, spell_bits}
use Rattle.zir_outside.specs.Sinks.{GrewPart}
use Rattle.zir_samples.proofs.Putting.{byte-behind, byte-within, left-behind, part_then, part_whole, puts_same, puts_then}
use Rattle.zir_samples.proofs.output.Output.push_number.Goals as goal

pub returns-in_err-push_byte-clause-failed : goal.returns-in_err-push_byte-clause-failed
returns-in_err-push_byte-clause-failed g c =
    let stands = g.K.Sink.stands_for in
    let n = c.args.number in
    let i = c.loop-i._i in
    let bits = low_bits 8 (c.loop-i.left % 256) in
    let part = part_then stands c.args.sink.now c.loop-i.sink c.push_byte.new.sink (c.args.self.now ++ low_bits (8 * i) n) bits c.loop-i.self c.loop-i.invariant.puts c.in_err-push_byte.ensures.failed in
    let whole : GrewPart (spell_bits false (c.args.self.now ++ low_bits (8 * c.args.count) n)) (stands c.args.sink.now) (stands c.push_byte.new.sink) = part_whole (stands c.args.sink.now) (stands c.push_byte.new.sink) c.args.self.now (low_bits (8 * i) n) bits _ (low_bits (8 * c.args.count) n) (byte-within c.args.count i n c.loop-i.left c.loop-i-test.true c.loop-i.invariant.left) part in
    search rules

pub loop-i-preserved : goal.loop-i-preserved
loop-i-preserved g c =
    let n = c.args.number in
    let i = c.loop-i._i in
    let bits = low_bits 8 (c.loop-i.left % 256) in
    let puts = puts_then g.K.Sink.stands_for c.args.sink.now c.loop-i.sink c.push_byte.new.sink (c.args.self.now ++ low_bits (8 * i) n) bits c.loop-i.self c.push_byte.new.self c.loop-i.invariant.puts c.in_ok-push_byte.ensures.ok in
    record {
      puts = puts_same g.K.Sink.stands_for c.args.sink.now c.push_byte.new.sink _ _ _ _ (ap (λ bs. c.args.self.now ++ bs) (byte-behind i n c.loop-i.left c.loop-i.invariant.left) ∙ sym (append_assoc c.args.self.now (low_bits (8 * i) n) bits)) refl puts;
      left = left-behind i n c.loop-i.left c.loop-i.invariant.left;
      whole = c.push_byte.ensures.whole;
      untold = λ told. c.loop-i.invariant.untold (c.push_byte.ensures.untold told);
      later = omega (arith, c.loop-i.invariant.later, c.push_byte.ensures.cause.later);
    }
