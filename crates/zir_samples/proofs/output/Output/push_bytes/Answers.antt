use Rattle.std.proofs.Common.{◌++◌, false, get_or, take, drop, suc, arith, rules}
use Rattle.zir_meaning.specs.Samples.{bits_of, low_bits, spell_bits}
use Rattle.zir_outside.specs.Sinks.{GrewPart}
use Rattle.zir_samples.proofs.Putting.{bits-at, bits-more, part_then, part_whole, puts_same, puts_then}
use Rattle.zir_samples.proofs.output.Output.push_bytes.Goals as goal
use Rattle.std.proofs.Common.{refl}

pub returns-in_err-push_byte-clause-failed : goal.returns-in_err-push_byte-clause-failed
returns-in_err-push_byte-clause-failed g c =
    let stands = g.K.Sink.stands_for in
    let bytes = c.args.bytes.now in
    let i = c.loop-byte.byte-index in
    let bits = low_bits 8 (get_or bytes i 0) in
    let part = part_then stands c.args.sink.now c.loop-byte.sink c.push_byte.new.sink (c.args.self.now ++ bits_of (take i bytes)) bits c.loop-byte.self c.loop-byte.invariant.puts c.in_err-push_byte.ensures.failed in
    let whole : GrewPart (spell_bits false (c.args.self.now ++ bits_of bytes)) (stands c.args.sink.now) (stands c.push_byte.new.sink) = part_whole (stands c.args.sink.now) (stands c.push_byte.new.sink) c.args.self.now (bits_of (take i bytes)) bits (bits_of (drop (suc i) bytes)) (bits_of bytes) (bits-at bytes i c.loop-byte-test.true) part in
    search rules

pub loop-byte-preserved : goal.loop-byte-preserved
loop-byte-preserved g c =
    let bytes = c.args.bytes.now in
    let i = c.loop-byte.byte-index in
    let bits = low_bits 8 (get_or bytes i 0) in
    let puts = puts_then g.K.Sink.stands_for c.args.sink.now c.loop-byte.sink c.push_byte.new.sink (c.args.self.now ++ bits_of (take i bytes)) bits c.loop-byte.self c.push_byte.new.self c.loop-byte.invariant.puts c.in_ok-push_byte.ensures.ok in
    record {
      puts = puts_same g.K.Sink.stands_for c.args.sink.now c.push_byte.new.sink _ _ _ _ (bits-more bytes i c.args.self.now c.loop-byte-test.true) refl puts;
      whole = c.push_byte.ensures.whole;
      untold = λ told. c.loop-byte.invariant.untold (c.push_byte.ensures.untold told);
      later = omega (arith, c.loop-byte.invariant.later, c.push_byte.ensures.cause.later);
    }
