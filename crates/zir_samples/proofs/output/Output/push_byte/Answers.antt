use Rattle.std.proofs.Common.{◌≡◌, ◌<◌, ◌∷◌, [], ◌++◌, false, ap, sym, subst, ◌∙◌, arith}
use Rattle.std.specs.Prelude.{All}
use Rattle.std.proofs.lemmas.List.Elements.{All-push}
use Rattle.std.proofs.lemmas.Result.{on_ok_weaker, on_err_weaker}
use Rattle.zir_meaning.specs.Samples.{bits_of, low_bits, spell_bits}
use Rattle.zir_outside.specs.Sinks.{GrewPart}
use Rattle.zir_samples.specs.Output.{pending}
use Rattle.zir_samples.proofs.Putting.{byte_whole, length-pending, no_bits, pending-none, puts_same, spell-whole}
use Rattle.zir_samples.proofs.output.Output.push_byte.Goals as goal

pub invariant_of-self : goal.invariant_of-self
invariant_of-self g c = (record { short = c.add_byte.ensures.short; whole = c.add_byte.ensures.whole; few = omega arith; low = omega arith }, c.add_byte.ensures.room)

-- the bits with those of the byte are those of the piece with the byte
bits : (g : _) (c : goal.After-add_byte g) → c.args.self.now ++ low_bits 8 c.args.byte ≡ bits_of (c.self.inside.piece.items ++ c.args.byte ∷ [])
bits g c =
    let none = no_bits c.self.inside.piece.items c.self.inside.count c.self.inside.byte c.self.invariant.0.few (rw c.self.view_is c.requires.whole) in
    ap (λ bs. bs ++ low_bits 8 c.args.byte) (sym c.self.view_is) ∙ byte_whole c.self.inside.piece.items c.self.inside.count c.self.inside.byte c.args.byte none

pub returns-clause-ok : goal.returns-clause-ok
returns-clause-ok g c =
    on_ok_weaker c.add_byte.result (λ p. puts_same g.K.Sink.stands_for c.args.sink.now c.add_byte.new.sink _ _ _ _ (bits g c) (pending-none c.add_byte.new.piece.items) p) c.add_byte.ensures.ok

pub returns-clause-failed : goal.returns-clause-failed
returns-clause-failed g c =
    let whole : All (λ b. b < 256) (c.self.inside.piece.items ++ c.args.byte ∷ []) = All-push (λ b. b < 256) c.self.inside.piece.items c.args.byte c.self.invariant.0.whole c.ranges.byte.fits in
    let spelled : spell_bits false (c.args.self.now ++ low_bits 8 c.args.byte) ≡ c.self.inside.piece.items ++ c.args.byte ∷ [] = ap (spell_bits false) (bits g c) ∙ spell-whole false (c.self.inside.piece.items ++ c.args.byte ∷ []) whole in
    on_err_weaker c.add_byte.result (λ part. subst (λ bs. GrewPart bs (g.K.Sink.stands_for c.args.sink.now) (g.K.Sink.stands_for c.add_byte.new.sink)) (sym spelled) part) c.add_byte.ensures.failed

pub returns-clause-spent : goal.returns-clause-spent
returns-clause-spent g c = on_err_weaker c.add_byte.result (λ e. ap (λ items. pending items 0 0) e) c.add_byte.ensures.spent

pub returns-clause-whole : goal.returns-clause-whole
returns-clause-whole g c = omega (arith, length-pending c.add_byte.new.piece.items 0 0)
