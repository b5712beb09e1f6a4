use Rattle.std.proofs.Common.{ap, sym}
use Rattle.zir_names.specs.Touched.{both, all_of, maybe_of, in_stmt, in_return, in_body}
use Rattle.zir_sharing.proofs.Touching.{two_parts}
use Rattle.zir_sharing.proofs.statement.touch_body.Goals as goal

pub returns : goal.returns
returns c =
    two_parts c.touch_return.result (all_of (in_stmt c.args.functions.now) c.as_slice.result.now) (maybe_of (in_return c.args.functions.now) c.args.body.now.result) (in_body c.args.functions.now c.args.body.now) c.args.touched.now c.touch_stmts.new.touched c.touch_return.new.touched
    (ap (λ ss. both (all_of (in_stmt c.args.functions.now) ss) (maybe_of (in_return c.args.functions.now) c.args.body.now.result)) (sym c.as_slice.ensures)) c.in_ok-touch_stmts.ensures c.touch_return.ensures
