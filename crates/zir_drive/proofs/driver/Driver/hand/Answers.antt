use Rattle.std.proofs.Common.{◌+◌, refl, ◌∙◌, arith}
use Rattle.zir_steps.specs.declared.answer.Answer.TheVariants.{Need}
use Rattle.zir_steps.specs.History.{receive}
use Rattle.zir_drive.specs.Runs.{history}
use Rattle.zir_drive.specs.Driving.{element_in}
use Rattle.zir_drive.proofs.Handing.{receive-more}
use Rattle.zir_drive.proofs.Traces.{received-few}
use Rattle.zir_drive.proofs.Turning.{fed_within, handed_worked, count_more, came_bit, final_need, moved_more}
use Rattle.zir_drive.proofs.driver.Driver.hand.Goals as goal

pub pass-requires-clause-few : goal.pass-requires-clause-few
pass-requires-clause-few g c =
    let live = c.requires.live in
    omega (arith, received-few (g.W.Worker.component c.args.worker.now) live.ticks live.received live.given live.says.0, live.few, live.kept.handed)

pub returns-in-Ok-Some-clause-handed : goal.returns-in-Ok-Some-clause-handed
returns-in-Ok-Some-clause-handed g c told n os f =
    let comp = g.W.Worker.component c.args.worker.now in
    let gives = rw c.in-Ok-Some.field-0-is at c.in-Ok-Some.ensures.bits in
    handed_worked (g.W.Worker.stands_for c.args.worker.now) (g.W.Worker.stands_for c.pass.new.worker) told (g.S.Source.left c.next.new.source) c.pass.new.self comp n (g.W.Worker.last c.pass.new.worker)
    (λ h. receive h (element_in (c.args.self.now.handed + 1) c.in-Ok-Some.bit)) (history comp n f.received os) _ os c.pass.result
    c.pass.ensures.worked f.kept.stands (receive-more comp n c.args.self.now.handed f.received os c.in-Ok-Some.bit f.kept.handed)
    (c.pass.ensures.handed ∙ count_more c.args.self.now.handed f.received _ f.kept.handed) (c.pass.ensures.given ∙ f.kept.given)
    (λ bytes e. rw c.pass.ensures.reader (came_bit bytes c.args.self.now.reader c.next.new.self (g.S.Source.left c.args.input.now) (g.S.Source.left c.next.new.source) f.received c.in-Ok-Some.bit (f.came bytes e) gives))
    (fed_within (g.W.Worker.stands_for c.args.worker.now) told (g.S.Source.left c.args.input.now) c.args.self.now comp n _ os (g.met.W.Worker.front c.args.worker.now) f)

pub returns-in-Ok-Some-clause-moved : goal.returns-in-Ok-Some-clause-moved
returns-in-Ok-Some-clause-moved g c =
    let live = c.requires.live in
    moved_more _ (g.W.Worker.stands_for c.args.worker.now) (g.W.Worker.stands_for c.pass.new.worker) Need (g.W.Worker.last c.pass.new.worker) c.args.self.now c.pass.new.self (g.W.Worker.own c.args.worker.now) (g.W.Worker.own c.pass.new.worker) c.pass.result
    c.pass.ensures.worked c.pass.ensures.last c.pass.ensures.counts
    (omega (arith, received-few (g.W.Worker.component c.args.worker.now) live.ticks live.received live.given live.says.0, live.few, live.kept.handed, c.pass.ensures.handed, c.pass.ensures.given))

pub returns-in-Ok-None-clause-handed : goal.returns-in-Ok-None-clause-handed
returns-in-Ok-None-clause-handed g c told n os f =
    let gives = rw c.in-Ok-None.field-0-is at c.in-Ok-None.ensures.bits in
    final_need (g.W.Worker.stands_for c.args.worker.now) told (g.S.Source.left c.args.input.now) (g.S.Source.left c.next.new.source) c.args.self.now _ (g.W.Worker.component c.args.worker.now) n (g.W.Worker.last c.args.worker.now) os
    c.requires.needed refl refl gives f

pub returns-in-Err-clause-handed : goal.returns-in-Err-clause-handed
returns-in-Err-clause-handed g c told n os f =
    fed_within (g.W.Worker.stands_for c.args.worker.now) told (g.S.Source.left c.args.input.now) c.args.self.now (g.W.Worker.component c.args.worker.now) n _ os (g.met.W.Worker.front c.args.worker.now) f
