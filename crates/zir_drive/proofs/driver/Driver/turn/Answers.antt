use Rattle.std.proofs.Common.{refl, subst}
use Rattle.zir_steps.specs.declared.answer.Answer.TheVariants.{Need}
use Rattle.zir_drive.specs.Runs.{history}
use Rattle.zir_drive.specs.Driving.{Goes}
use Rattle.zir_drive.proofs.Turning.{fed_within, handed_worked, handed_turned, over_ended}
use Rattle.zir_drive.proofs.driver.Driver.turn.Goals as goal

pub returns-in-Skip-clause-turned : goal.returns-in-Skip-clause-turned
returns-in-Skip-clause-turned g c before told n goes =
    let comp = g.W.Worker.component c.args.worker.now in
    let left = g.S.Source.left c.args.input.now in
    let f = goes.fed in
    handed_turned (g.W.Worker.stands_for c.work.new.worker) g.K.Sink.stands_for before c.args.out.now told left c.args.self.now comp n (g.W.Worker.last c.work.new.worker) goes.given c.work.result
    goes.gave
    (handed_worked (g.W.Worker.stands_for c.args.worker.now) (g.W.Worker.stands_for c.work.new.worker) told left c.args.self.now comp n (g.W.Worker.last c.work.new.worker)
    (λ h. h) (history comp n f.received goes.given) f.received goes.given c.work.result
    c.work.ensures.worked f.kept.stands refl f.kept.handed f.kept.given f.came
    (fed_within (g.W.Worker.stands_for c.args.worker.now) told left c.args.self.now comp n _ goes.given (g.met.W.Worker.front c.args.worker.now) f))

pub returns-in-Need-clause-turned : goal.returns-in-Need-clause-turned
returns-in-Need-clause-turned g c before told n goes =
    let comp = g.W.Worker.component c.args.worker.now in
    let left = g.S.Source.left c.args.input.now in
    let asked : Goes (g.W.Worker.stands_for c.args.worker.now) g.K.Sink.stands_for before c.args.out.now told left c.args.self.now comp n Need =
    subst (λ a. Goes (g.W.Worker.stands_for c.args.worker.now) g.K.Sink.stands_for before c.args.out.now told left c.args.self.now comp n a) c.in-Need.is goes in
    handed_turned (g.W.Worker.stands_for c.hand.new.worker) g.K.Sink.stands_for before c.args.out.now told (g.S.Source.left c.hand.new.input) c.hand.new.self comp n (g.W.Worker.last c.hand.new.worker) asked.given c.hand.result
    (rw c.hand.ensures.writer asked.gave) (c.hand.ensures.handed told n asked.given asked.fed)

pub returns-in-Done-clause-turned : goal.returns-in-Done-clause-turned
returns-in-Done-clause-turned g c before told n goes =
    over_ended (g.W.Worker.stands_for c.args.worker.now) g.K.Sink.stands_for before c.args.out.now told (g.S.Source.left c.args.input.now) c.args.self.now (g.W.Worker.component c.args.worker.now) n (g.W.Worker.last c.args.worker.now)
    c.args.answer c.in-Done.is c.requires.fits goes
