use Rattle.std.proofs.Common.{inr, subst}
use Rattle.zir_bits.specs.Answers.{bits_answer}
use Rattle.zir_outside.specs.Sinks.{GrewPart}
use Rattle.zir_machine.specs.MachineOf.{standing_of}
use Rattle.zir_machine.specs.MachineStands.{Stands}
use Rattle.zir_machine.specs.Nodes.{comp_of}
use Rattle.zir_drive.specs.Runs.{RanPart, trace_of}
use Rattle.zir_run.proofs.Runs.{untouched_part, whole_part, prepared, ran_tells, note_same, ran_ends, ran_told}
use Rattle.zir_run.proofs.run.run.Goals as goal

pub returns-in_default-clause-prefix : goal.returns-in_default-clause-prefix
returns-in_default-clause-prefix g c bytes told broken = untouched_part (bits_answer c.args.ticks c.args.program.now bytes).out (g.K.Sink.stands_for c.args.out.now)

pub returns-in-Ok-drive-clause-ended : goal.returns-in-Ok-drive-clause-ended
returns-in-Ok-drive-clause-ended g c bytes left ended =
    let both = ran_tells (comp_of c.in-Ok.machine.node) c.args.program.now.main (Stands (standing_of c.in-Ok.machine)) (Stands (standing_of c.drive.new.worker)) (g.S.Source.left c.args.input.now) c.args.ticks bytes c.in-Ok-drive.outcome (g.K.Sink.stands_for c.args.out.now) (g.K.Sink.stands_for c.drive.new.out)
    c.in-Ok.ensures.component c.in-Ok.ensures.stands left c.in-Ok-drive.ensures.done c.in-Ok-drive.ensures.value in
    ran_ends c.report.result c.args.ticks c.args.program.now bytes (g.K.Sink.stands_for c.args.out.now) (g.K.Sink.stands_for c.drive.new.out) (g.N.Sink.stands_for c.args.notes.now) (g.N.Sink.stands_for c.report.new.notes)
    ended (c.report.ensures.told (trace_of c.args.program.now.main c.args.ticks bytes) both.1) both.0.out (c.report.ensures.ended (trace_of c.args.program.now.main c.args.ticks bytes) ended both.1)

pub returns-in-Ok-drive-clause-prefix : goal.returns-in-Ok-drive-clause-prefix
returns-in-Ok-drive-clause-prefix g c bytes left broken =
    let both = ran_tells (comp_of c.in-Ok.machine.node) c.args.program.now.main (Stands (standing_of c.in-Ok.machine)) (Stands (standing_of c.drive.new.worker)) (g.S.Source.left c.args.input.now) c.args.ticks bytes c.in-Ok-drive.outcome (g.K.Sink.stands_for c.args.out.now) (g.K.Sink.stands_for c.drive.new.out)
    c.in-Ok.ensures.component c.in-Ok.ensures.stands left c.in-Ok-drive.ensures.done c.in-Ok-drive.ensures.value in
    whole_part (bits_answer c.args.ticks c.args.program.now bytes).out (g.K.Sink.stands_for c.args.out.now) (g.K.Sink.stands_for c.drive.new.out) both.0.out

pub returns-in-Ok-drive-clause-whole : goal.returns-in-Ok-drive-clause-whole
returns-in-Ok-drive-clause-whole g c bytes left fault =
    let both = ran_tells (comp_of c.in-Ok.machine.node) c.args.program.now.main (Stands (standing_of c.in-Ok.machine)) (Stands (standing_of c.drive.new.worker)) (g.S.Source.left c.args.input.now) c.args.ticks bytes c.in-Ok-drive.outcome (g.K.Sink.stands_for c.args.out.now) (g.K.Sink.stands_for c.drive.new.out)
    c.in-Ok.ensures.component c.in-Ok.ensures.stands left c.in-Ok-drive.ensures.done c.in-Ok-drive.ensures.value in
    inr both.0.out

pub returns-in-Ok-drive-clause-note_prefix : goal.returns-in-Ok-drive-clause-note_prefix
returns-in-Ok-drive-clause-note_prefix g c bytes left fault =
    let both = ran_tells (comp_of c.in-Ok.machine.node) c.args.program.now.main (Stands (standing_of c.in-Ok.machine)) (Stands (standing_of c.drive.new.worker)) (g.S.Source.left c.args.input.now) c.args.ticks bytes c.in-Ok-drive.outcome (g.K.Sink.stands_for c.args.out.now) (g.K.Sink.stands_for c.drive.new.out)
    c.in-Ok.ensures.component c.in-Ok.ensures.stands left c.in-Ok-drive.ensures.done c.in-Ok-drive.ensures.value in
    subst (λ note. GrewPart note (g.N.Sink.stands_for c.args.notes.now) (g.N.Sink.stands_for c.report.new.notes)) (note_same c.args.ticks c.args.program.now bytes)
    (c.report.ensures.failed (trace_of c.args.program.now.main c.args.ticks bytes) fault both.1)

pub returns-in-Ok-drive-clause-told : goal.returns-in-Ok-drive-clause-told
returns-in-Ok-drive-clause-told g c bytes left =
    let both = ran_tells (comp_of c.in-Ok.machine.node) c.args.program.now.main (Stands (standing_of c.in-Ok.machine)) (Stands (standing_of c.drive.new.worker)) (g.S.Source.left c.args.input.now) c.args.ticks bytes c.in-Ok-drive.outcome (g.K.Sink.stands_for c.args.out.now) (g.K.Sink.stands_for c.drive.new.out)
    c.in-Ok.ensures.component c.in-Ok.ensures.stands left c.in-Ok-drive.ensures.done c.in-Ok-drive.ensures.value in
    ran_told c.report.result c.args.ticks c.args.program.now bytes (c.report.ensures.told (trace_of c.args.program.now.main c.args.ticks bytes) both.1)

pub returns-clause-prefix : goal.returns-clause-prefix
returns-clause-prefix g c bytes left broken =
    let p = c.args.program.now in
    let machine = c.in-Ok.machine in
    prepared (comp_of machine.node) p.main (Stands (standing_of machine)) (g.S.Source.left c.args.input.now) c.args.ticks bytes
    (λ t. RanPart t (g.K.Sink.stands_for c.args.out.now) (g.K.Sink.stands_for c.drive.new.out)) c.in-Ok.ensures.component c.in-Ok.ensures.stands left c.in-Err.ensures.failed
