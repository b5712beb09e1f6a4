use Rattle.std.proofs.Common.{inl, inr, ap}
use Rattle.zir_meaning.specs.Answer.{Answer}
use Rattle.zir_bits.specs.Answers.{bits_answer}
use Rattle.zir_narrow.specs.Narrow.{narrow}
use Rattle.zir_run.specs.Keeping.{Keeps}
use Rattle.zir_run.proofs.Keep.{not_two, run_status, keeps_run}
use Rattle.zir_run.proofs.Verdicts.{run_means, unbuilt_means, unbuilt_fault}
use Rattle.zir_run.proofs.perform.run_accepted.Goals as goal

pub returns-in-Ok-clause-keeps : goal.returns-in-Ok-clause-keeps
returns-in-Ok-clause-keeps g c a m =
    run_means c.same_answers.ensures c.narrow_is_over.ensures c.args.words.ticks c.args.words.name.now c.args.program.now c.args.accepted.now (g.S.Source.left c.args.input.now) a c.in-Ok.narrowed
    (λ b. Keeps c.run.result b (g.K.Sink.stands_for c.args.out.now) (g.K.Sink.stands_for c.run.new.out) (g.K.Sink.faults c.args.out.now) (g.K.Sink.faults c.run.new.out) (g.N.Sink.stands_for c.args.notes.now) (g.N.Sink.stands_for c.run.new.notes))
    c.in-Ok.ensures m
    (λ bytes left. keeps_run c.run.result (bits_answer c.args.words.ticks c.in-Ok.narrowed bytes) (g.K.Sink.stands_for c.args.out.now) (g.K.Sink.stands_for c.run.new.out) (g.N.Sink.stands_for c.args.notes.now) (g.N.Sink.stands_for c.run.new.notes)
    (g.K.Sink.faults c.args.out.now) (g.K.Sink.faults c.run.new.out) c.run.ensures.statuses (c.run.ensures.ended bytes left) (c.run.ensures.prefix bytes left) (c.run.ensures.whole bytes left) (c.run.ensures.note_prefix bytes left) (c.run.ensures.told bytes left))

pub returns-in-Ok-clause-refused : goal.returns-in-Ok-clause-refused
returns-in-Ok-clause-refused g c two = absurd (not_two c.run.result c.run.ensures.statuses two)

pub returns-in-Ok-clause-statuses : goal.returns-in-Ok-clause-statuses
returns-in-Ok-clause-statuses g c = run_status c.run.result c.run.ensures.statuses

pub returns-in-Ok-clause-untouched : goal.returns-in-Ok-clause-untouched
returns-in-Ok-clause-untouched g c two = absurd (not_two c.run.result c.run.ensures.statuses two)
