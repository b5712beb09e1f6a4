use Rattle.std.proofs.Common.{ap, None}
use Rattle.zir_names.specs.Sharing.{first_of, outers}
use Rattle.zir_sharing.proofs.Conflicts.{throughout-list}
use Rattle.zir_sharing.proofs.outer.check_outer.Goals as goal

pub loop-d-init : goal.loop-d-init
loop-d-init c =
    ap first_of (throughout-list (outers c.args.functions.now None) c.as_slice-ds.result.now c.args.p.now.main)
