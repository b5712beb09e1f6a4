use Rattle.zir_names.specs.Sharing.{refusal_of}
use Rattle.zir_accept.proofs.Told.{sharing_allowed, sharing_kept}
use Rattle.zir_accept.proofs.passes.keep_rules.Goals as goal

pub returns-in-Ok : goal.returns-in-Ok
returns-in-Ok c =
    sharing_allowed (refusal_of c.args.program.now) c.args.program.now.program c.args.core.now c.keep_limits.result c.in-Ok.ensures c.keep_limits.ensures

pub returns-in-Err : goal.returns-in-Err
returns-in-Err c =
    sharing_kept (Unit {0}) (refusal_of c.args.program.now) c.args.program.now.program c.args.core.now
    c.in-Err.error c.share_fault.result c.share_fault.ensures c.in-Err.ensures
