-- The two bits.
use Rattle.std.proofs.Common.{arith, ◌<◌, length, sym, ◌∙◌, true, false}
use Rattle.zir_lex.proofs.Readers.{bit_front}
use Rattle.zir_lex.proofs.signs.read_bit.Goals as goal

pub returns-in-Some-eq48 : goal.returns-in-Some-eq48
returns-in-Some-eq48 c =
    let long : 1 < length c.args.text.now = c.in-Some-eq48.ensures.lookup.3.0 in
    bit_front c.args.text.now false (omega arith) c.requires.quote (sym (c.in-Some-eq48.ensures.lookup.3.1 0) ∙ c.in-Some-eq48.field-0-test)

pub returns-in-Some-eq49 : goal.returns-in-Some-eq49
returns-in-Some-eq49 c =
    let long : 1 < length c.args.text.now = c.in-Some-eq49.ensures.lookup.3.0 in
    bit_front c.args.text.now true (omega arith) c.requires.quote (sym (c.in-Some-eq49.ensures.lookup.3.1 0) ∙ c.in-Some-eq49.field-0-test)
