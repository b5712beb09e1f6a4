use Rattle.std.proofs.Common.{◌≡◌, ◌<◌, ◌+◌, ◌∷◌, [], ◌++◌, false, ap, sym, subst, ◌∙◌, add-one, arith}
use Rattle.std.specs.Prelude.{All}
use Rattle.std.proofs.lemmas.List.Elements.{All-push}
use Rattle.std.proofs.lemmas.Result.{on_ok_weaker, on_err_weaker}
use Rattle.zir_meaning.specs.Samples.{bits_of, spell_bits}
use Rattle.zir_outside.specs.Sinks.{GrewPart}
use Rattle.zir_samples.specs.Output.{pending}
use Rattle.zir_samples.proofs.Putting.{bit_more, byte_more, pending-none, puts_nothing, puts_same, spell-whole}
use Rattle.zir_samples.proofs.output.Output.push_bit.Goals as goal

pub invariant_of-self-2 : goal.invariant_of-self-2
invariant_of-self-2 g c = (record { short = c.add_byte.ensures.short; whole = c.add_byte.ensures.whole; few = omega arith; low = omega arith }, c.add_byte.ensures.room)

pub returns-then-self-lt7-clause-ok : goal.returns-then-self-lt7-clause-ok
returns-then-self-lt7-clause-ok g c =
    let bits : pending c.self.inside.piece.items c.self.inside.count c.self.inside.byte ++ c.args.bit ∷ [] ≡ pending c.self.inside.piece.items (c.self.inside.count + 1) c.with_bit-byte.result = rw add-one (bit_more c.self.inside.piece.items c.self.inside.count c.self.inside.byte c.with_bit-byte.result c.args.bit c.with_bit-byte.ensures.bits) in
    rw (← c.self.view_is) (puts_nothing g.K.Sink.stands_for c.args.sink.now _ _ bits)

-- the bits with one more are those of the piece with one more byte
bits : (g : _) (c : goal.After-add_byte g) → c.args.self.now ++ c.args.bit ∷ [] ≡ bits_of (c.self.inside.piece.items ++ c.with_bit-byte.result ∷ [])
bits g c =
    let full : c.self.inside.count ≡ 7 = omega (arith, c.self.invariant.0.few, c.if-self-lt7.false) in
    ap (λ bs. bs ++ c.args.bit ∷ []) (sym c.self.view_is)
    ∙ byte_more c.self.inside.piece.items c.self.inside.count c.self.inside.byte c.with_bit-byte.result c.args.bit full c.with_bit-byte.ensures.bits

pub returns-clause-ok : goal.returns-clause-ok
returns-clause-ok g c =
    on_ok_weaker c.add_byte.result (λ p. puts_same g.K.Sink.stands_for c.args.sink.now c.add_byte.new.sink _ _ _ _ (bits g c) (pending-none c.add_byte.new.piece.items) p) c.add_byte.ensures.ok

pub returns-clause-failed : goal.returns-clause-failed
returns-clause-failed g c =
    let whole : All (λ b. b < 256) (c.self.inside.piece.items ++ c.with_bit-byte.result ∷ []) = All-push (λ b. b < 256) c.self.inside.piece.items c.with_bit-byte.result c.self.invariant.0.whole c.with_bit-byte.type_inv in
    let spelled : spell_bits false (c.args.self.now ++ c.args.bit ∷ []) ≡ c.self.inside.piece.items ++ c.with_bit-byte.result ∷ [] = ap (spell_bits false) (bits g c) ∙ spell-whole false (c.self.inside.piece.items ++ c.with_bit-byte.result ∷ []) whole in
    on_err_weaker c.add_byte.result (λ part. subst (λ bs. GrewPart bs (g.K.Sink.stands_for c.args.sink.now) (g.K.Sink.stands_for c.add_byte.new.sink)) (sym spelled) part) c.add_byte.ensures.failed
