use Rattle.std.proofs.Common.{ap}
use Rattle.zir_types.specs.Limits.{limits}
use Rattle.zir_accept.specs.Accepting.{broken_limit}
use Rattle.zir_accept.proofs.Told.{limits_kept}
use Rattle.zir_accept.proofs.passes.keep_limits.Goals as goal

pub returns-in-Ok : goal.returns-in-Ok
returns-in-Ok c = ap broken_limit c.in-Ok.ensures

pub returns-in-Err : goal.returns-in-Err
returns-in-Err c = limits_kept (Unit {0}) (limits c.args.program.now c.args.core.now) c.in-Err.error c.limit_fault.result c.limit_fault.ensures c.in-Err.ensures
