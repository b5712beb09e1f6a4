use Rattle.std.proofs.Common.{◌≡◌, ◌<◌, ◌+◌, ◌∷◌, [], ◌++◌, false, length, refl, sym, ap, ◌∙◌, inr, arith, add-one, length-append}
use Rattle.std.specs.Prelude.{All}
use Rattle.std.proofs.lemmas.Slice.{pushed}
use Rattle.std.proofs.lemmas.List.{append-nil}
use Rattle.std.proofs.lemmas.List.Elements.{All-push}
use Rattle.std.proofs.lemmas.Result.{on_ok_weaker, on_err_weaker}
use Rattle.zir_bit_meaning.specs.Samples.{bits_of}
use Rattle.zir_bit_samples.specs.Writing.{pending}
use Rattle.zir_bit_samples.proofs.Putting.{bit_more, byte_more, length-pending, puts_nothing, spell-whole}
use Rattle.zir_bit_samples.proofs.writer.BitWriter.push.Goals as goal

pub returns-then-self-lt7-clause-ok : goal.returns-then-self-lt7-clause-ok
returns-then-self-lt7-clause-ok g c =
    let bits : pending c.self.inside.piece.items c.self.inside.count c.self.inside.byte ++ c.args.bit ∷ [] ≡ pending c.self.inside.piece.items (c.self.inside.count + 1) c.with_bit-byte.result = rw add-one (bit_more c.self.inside.piece.items c.self.inside.count c.self.inside.byte c.with_bit-byte.result c.args.bit c.with_bit-byte.ensures.bits) in
    rw (← c.self.view_is) (puts_nothing g.K.Sink.stands_for c.args.sink.now _ _ bits)

pub returns-then-self-lt7-clause-within : goal.returns-then-self-lt7-clause-within
returns-then-self-lt7-clause-within g c = rw length-pending (omega (arith, c.self.invariant.0.short))

pub returns-then-len-lt-PIECE-clause-ok : goal.returns-then-len-lt-PIECE-clause-ok
returns-then-len-lt-PIECE-clause-ok g c =
    let full : c.self.inside.count ≡ 7 = omega (arith, c.self.invariant.0.few) in
    let items : c.push.new.self.items ≡ c.self.inside.piece.items ++ c.with_bit-byte.result ∷ [] = pushed (c.with_bit-byte.result ∷ []) refl c.unwrap.ensures c.push.ensures.items in
    let bits : pending c.self.inside.piece.items c.self.inside.count c.self.inside.byte ++ c.args.bit ∷ [] ≡ pending c.push.new.self.items 0 0 = byte_more c.self.inside.piece.items c.self.inside.count c.self.inside.byte c.with_bit-byte.result c.args.bit full c.with_bit-byte.ensures.bits ∙ ap bits_of (sym items) ∙ sym (append-nil (bits_of c.push.new.self.items)) in
    rw (← c.self.view_is) (puts_nothing g.K.Sink.stands_for c.args.sink.now _ _ bits)

pub returns-then-len-lt-PIECE-clause-within : goal.returns-then-len-lt-PIECE-clause-within
returns-then-len-lt-PIECE-clause-within g c = rw length-pending (omega arith)

pub returns-clause-ok : goal.returns-clause-ok
returns-clause-ok g c =
    let full : c.self.inside.count ≡ 7 = omega (arith, c.self.invariant.0.few) in
    let items : c.push.new.self.items ≡ c.self.inside.piece.items ++ c.with_bit-byte.result ∷ [] = pushed (c.with_bit-byte.result ∷ []) refl c.unwrap.ensures c.push.ensures.items in
    let bits : pending c.self.inside.piece.items c.self.inside.count c.self.inside.byte ++ c.args.bit ∷ [] ≡ bits_of c.push.new.self.items ++ [] = byte_more c.self.inside.piece.items c.self.inside.count c.self.inside.byte c.with_bit-byte.result c.args.bit full c.with_bit-byte.ensures.bits ∙ ap bits_of (sym items) ∙ sym (append-nil (bits_of c.push.new.self.items)) in
    let whole : All (λ b. b < 256) c.push.new.self.items = rw items (All-push (λ b. b < 256) c.self.inside.piece.items c.with_bit-byte.result c.self.invariant.0.whole c.with_bit-byte.type_inv) in
    let size : length c.push.new.self.items ≡ 4096 = omega (arith, ap length items, length-append c.self.inside.piece.items (c.with_bit-byte.result ∷ []), c.self.invariant.0.short) in
    on_ok_weaker c.put_piece.result (λ grew. record { front = c.push.new.self.items; whole = whole; bits = rw (← c.self.view_is, c.put_piece.ensures.empty) bits; grew = grew; piece = inr size }) c.put_piece.ensures.ok

pub returns-clause-failed : goal.returns-clause-failed
returns-clause-failed g c =
    let full : c.self.inside.count ≡ 7 = omega (arith, c.self.invariant.0.few) in
    let items : c.push.new.self.items ≡ c.self.inside.piece.items ++ c.with_bit-byte.result ∷ [] = pushed (c.with_bit-byte.result ∷ []) refl c.unwrap.ensures c.push.ensures.items in
    let bits : pending c.self.inside.piece.items c.self.inside.count c.self.inside.byte ++ c.args.bit ∷ [] ≡ bits_of c.push.new.self.items = byte_more c.self.inside.piece.items c.self.inside.count c.self.inside.byte c.with_bit-byte.result c.args.bit full c.with_bit-byte.ensures.bits ∙ ap bits_of (sym items) in
    let whole : All (λ b. b < 256) c.push.new.self.items = rw items (All-push (λ b. b < 256) c.self.inside.piece.items c.with_bit-byte.result c.self.invariant.0.whole c.with_bit-byte.type_inv) in
    on_err_weaker c.put_piece.result (λ part. rw (← c.self.view_is, bits, spell-whole false c.push.new.self.items whole) part) c.put_piece.ensures.failed
