use Rattle.std.proofs.Common.{◌∙◌, ap, sym, inl, inr}
use Rattle.zir_words.specs.Words.{asked_of}
use Rattle.zir_run.specs.Claim.{refused_answer}
use Rattle.zir_run.proofs.Keep.{note_status}
use Rattle.zir_run.proofs.Verdicts.{text_means, text_fault, text_note, told_two, refusal_noted}
use Rattle.zir_run.proofs.perform.perform_text.Goals as goal

pub returns-in-Ok-clause-keeps : goal.returns-in-Ok-clause-keeps
returns-in-Ok-clause-keeps g c a m =
    c.perform.ensures.keeps a (text_means c.one_verdict.ensures (asked_of c.args.job) c.args.text.now (g.S.Source.left c.args.input.now) a c.in-Ok.program c.in-Ok.ensures m)

pub returns-in-Ok-clause-refused : goal.returns-in-Ok-clause-refused
returns-in-Ok-clause-refused g c two =
    text_fault (asked_of c.args.job) c.args.text.now c.in-Ok.program c.in-Ok.ensures (c.perform.ensures.refused two)

pub returns-in-Err-clause-refused : goal.returns-in-Err-clause-refused
returns-in-Err-clause-refused g c two =
    record { why = c.in-Err.why; refuses = inl c.in-Err.ensures; is_verdict = told_two c.note.result c.in-Err.why c.note.ensures.verdict (inl two) }

pub returns-in-Err-clause-statuses : goal.returns-in-Err-clause-statuses
returns-in-Err-clause-statuses g c = note_status c.note.result c.note.ensures.status

pub returns-in-Err-clause-keeps : goal.returns-in-Err-clause-keeps
returns-in-Err-clause-keeps g c a m =
    refusal_noted g.N.Sink.stands_for c.note.result c.name.result.now a c.in-Err.why (g.K.Sink.stands_for c.args.out.now)
    (g.K.Sink.faults c.args.out.now) c.args.notes.now c.note.new.notes
    (λ told. text_note c.one_verdict.ensures (asked_of c.args.job) c.args.text.now (g.S.Source.left c.args.input.now) a c.in-Err.why told c.in-Err.ensures m
    ∙ ap (λ name. refused_answer name c.in-Err.why) (sym c.name.ensures))
    c.note.ensures.verdict c.note.ensures.status c.note.ensures.noted c.note.ensures.failed c.note.ensures.quiet
