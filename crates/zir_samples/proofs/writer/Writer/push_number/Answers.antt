use Rattle.std.proofs.Common.{◌++◌, false, sym, subst, w64}
use Rattle.std.proofs.lemmas.Int.{to_z-of_z}
use Rattle.std.proofs.lemmas.Result.{on_err_weaker}
use Rattle.zir_tree.specs.declared.format.Format.TheVariants.{Binary, Text}
use Rattle.zir_meaning.specs.Samples.{spell_bits}
use Rattle.zir_outside.specs.Sinks.{GrewPart}
use Rattle.zir_samples.specs.Writing.{added, Kept}
use Rattle.zir_samples.proofs.writer.Writer.push_number.Goals as goal

pub returns-in-Binary-clause-failed : goal.returns-in-Binary-clause-failed
returns-in-Binary-clause-failed g c =
    on_err_weaker c.push_binary.result
    (λ part.
    subst (λ (kept : Kept). GrewPart (spell_bits false (kept.bits ++ added kept.format kept.base kept.some c.args.number)) (g.K.Sink.stands_for c.args.sink.now) (g.K.Sink.stands_for c.push_binary.new.sink)) c.self.view_is
    (subst (λ format. GrewPart (spell_bits false (c.self.inside.output ++ added format c.self.inside.base c.self.inside.some c.args.number)) (g.K.Sink.stands_for c.args.sink.now) (g.K.Sink.stands_for c.push_binary.new.sink)) (sym c.in-Binary.is)
    (subst (λ z. GrewPart (spell_bits false (c.self.inside.output ++ added Binary c.self.inside.base c.self.inside.some z)) (g.K.Sink.stands_for c.args.sink.now) (g.K.Sink.stands_for c.push_binary.new.sink)) (to_z-of_z w64 c.args.number c.ranges.number) part)))
    c.push_binary.ensures.failed

pub returns-in-Text-clause-failed : goal.returns-in-Text-clause-failed
returns-in-Text-clause-failed g c =
    on_err_weaker c.push_text.result
    (λ part.
    subst (λ (kept : Kept). GrewPart (spell_bits false (kept.bits ++ added kept.format kept.base kept.some c.args.number)) (g.K.Sink.stands_for c.args.sink.now) (g.K.Sink.stands_for c.push_text.new.sink)) c.self.view_is
    (subst (λ format. GrewPart (spell_bits false (c.self.inside.output ++ added format c.self.inside.base c.self.inside.some c.args.number)) (g.K.Sink.stands_for c.args.sink.now) (g.K.Sink.stands_for c.push_text.new.sink)) (sym c.in-Text.is)
    (subst (λ z. GrewPart (spell_bits false (c.self.inside.output ++ added Text c.self.inside.base c.self.inside.some z)) (g.K.Sink.stands_for c.args.sink.now) (g.K.Sink.stands_for c.push_text.new.sink)) (to_z-of_z w64 c.args.number c.ranges.number) part)))
    c.push_text.ensures.failed
