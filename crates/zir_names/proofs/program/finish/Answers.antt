use Rattle.std.proofs.Common.{ap}
use Rattle.zir_names.specs.Walk.{and_then}
use Rattle.zir_names.specs.Programs.{finished}
use Rattle.zir_names.proofs.Told.{refuses_first}
use Rattle.zir_names.proofs.program.finish.Goals as goal

pub returns-in-Ok : goal.returns-in-Ok
returns-in-Ok c walk told =
    ap (λ w. and_then w (λ o. finished c.args.declarations c.args.input c.args.main o c.args.at)) (rw c.in-Ok.is at told)

pub returns-in-Err : goal.returns-in-Err
returns-in-Err c walk told =
    refuses_first walk (λ o. finished c.args.declarations c.args.input c.args.main o c.args.at) c.in-Err.error (rw c.in-Err.is at told)
