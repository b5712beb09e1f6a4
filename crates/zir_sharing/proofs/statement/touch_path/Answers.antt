use Rattle.std.proofs.Common.{arith}
use Rattle.zir_names.specs.Touched.{both, all_of, in_access}
use Rattle.zir_sharing.proofs.Touching.{rest_step}
use Rattle.zir_sharing.proofs.statement.touch_path.Goals as goal

pub loop-access-preserved : goal.loop-access-preserved
loop-access-preserved c =
    rest_step (in_access c.args.functions.now) c.args.path.now c.loop-access.access-index c.access-item.result (both (all_of (in_access c.args.functions.now) c.args.path.now) c.args.touched.now) c.loop-access.touched c.touch_access.new.touched
    (omega arith) c.access-item.is c.loop-access.invariant c.in_ok-touch_access.ensures
