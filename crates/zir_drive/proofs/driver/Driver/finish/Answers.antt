use Rattle.zir_drive.specs.Runs.{history}
use Rattle.zir_drive.proofs.Handing.{history-rises}
use Rattle.zir_drive.proofs.Closing.{over_ran, over_done, over_failed}
use Rattle.zir_drive.proofs.driver.Driver.finish.Goals as goal

pub returns-in-Ok-clause-done : goal.returns-in-Ok-clause-done
returns-in-Ok-clause-done g c before told left comp n bytes e o =
    over_ran (g.W.Worker.stands_for c.args.worker.now) g.K.Sink.stands_for before c.args.out.now c.finish.new.sink told left c.args.self.now comp n (g.W.Worker.last c.args.worker.now) bytes _ _ e c.requires o
    (c.end_of-end.ensures (history comp n o.ends.fed.received o.given) o.ends.fed.kept.stands (history-rises comp n o.ends.fed.received o.given)) c.in-Ok.ensures.ok

pub returns-in-Ok-clause-ended : goal.returns-in-Ok-clause-ended
returns-in-Ok-clause-ended g c before told left comp n o is =
    over_done (g.W.Worker.stands_for c.args.worker.now) g.K.Sink.stands_for before c.args.out.now told left c.args.self.now comp n (g.W.Worker.last c.args.worker.now) _ _ c.requires o
    (c.end_of-end.ensures (history comp n o.ends.fed.received o.given) o.ends.fed.kept.stands (history-rises comp n o.ends.fed.received o.given)) is

pub returns-in-Err-clause-failed : goal.returns-in-Err-clause-failed
returns-in-Err-clause-failed g c before told left comp n bytes e o =
    over_failed (g.W.Worker.stands_for c.args.worker.now) g.K.Sink.stands_for before c.args.out.now c.finish.new.sink told left c.args.self.now comp n (g.W.Worker.last c.args.worker.now) bytes e c.requires o c.in-Err.ensures.failed
