use Rattle.std.proofs.Common.{◌∙◌, ap, sym, subst, inl, inr}
use Rattle.zir_accept.specs.Accepting.{Tells, judged}
use Rattle.zir_words.specs.Words.{asked_of}
use Rattle.zir_run.specs.Claim.{refused_answer}
use Rattle.zir_run.proofs.Keep.{note_status}
use Rattle.zir_run.proofs.Verdicts.{accepted_means, accepted_fault, refused_means, refused_fault, told_fault, told_two, refusal_noted}
use Rattle.zir_run.proofs.perform.perform_judged.Goals as goal

pub returns-in-Ok-clause-keeps : goal.returns-in-Ok-clause-keeps
returns-in-Ok-clause-keeps g c a m =
    let tells = subst (Tells (judged c.args.program.now)) c.in-Ok.is c.requires.told in
    c.perform_accepted.ensures.keeps a
    (accepted_means (asked_of c.args.job) c.args.program.now (judged c.args.program.now) (g.S.Source.left c.args.input.now) a c.in-Ok.accepted tells m)

pub returns-in-Ok-clause-refused : goal.returns-in-Ok-clause-refused
returns-in-Ok-clause-refused g c two =
    let tells = subst (Tells (judged c.args.program.now)) c.in-Ok.is c.requires.told in
    accepted_fault (asked_of c.args.job) c.args.program.now (judged c.args.program.now) c.in-Ok.accepted tells (c.perform_accepted.ensures.refused two)

pub returns-in-Err-clause-keeps : goal.returns-in-Err-clause-keeps
returns-in-Err-clause-keeps g c a m =
    let tells = subst (Tells (judged c.args.program.now)) c.in-Err.is c.requires.told in
    refusal_noted g.N.Sink.stands_for c.note.result c.name.result.now a c.in-Err.why (g.K.Sink.stands_for c.args.out.now)
    (g.K.Sink.faults c.args.out.now) c.args.notes.now c.note.new.notes
    (λ told. refused_means (asked_of c.args.job) c.args.program.now (judged c.args.program.now) (g.S.Source.left c.args.input.now) a c.in-Err.why
    (told_fault (judged c.args.program.now) c.in-Err.why told tells) m ∙ ap (λ name. refused_answer name c.in-Err.why) (sym c.name.ensures))
    c.note.ensures.verdict c.note.ensures.status c.note.ensures.noted c.note.ensures.failed c.note.ensures.quiet

pub returns-in-Err-clause-refused : goal.returns-in-Err-clause-refused
returns-in-Err-clause-refused g c two =
    let tells = subst (Tells (judged c.args.program.now)) c.in-Err.is c.requires.told in
    let told = told_two c.note.result c.in-Err.why c.note.ensures.verdict (inl two) in
    refused_fault (asked_of c.args.job) c.args.program.now (judged c.args.program.now) c.in-Err.why told
    (told_fault (judged c.args.program.now) c.in-Err.why told tells)

pub returns-in-Err-clause-statuses : goal.returns-in-Err-clause-statuses
returns-in-Err-clause-statuses g c = note_status c.note.result c.note.ensures.status
