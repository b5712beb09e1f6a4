use Rattle.std.proofs.Common.{refl}
use Rattle.zir_names.specs.Touched.{declares, maybe_of, in_expr, in_var}
use Rattle.zir_sharing.proofs.Touching.{two_parts}
use Rattle.zir_sharing.proofs.statement.touch_var.Goals as goal

pub returns : goal.returns
returns c =
    two_parts c.touch_initial.result (declares c.args.v.now.name) (maybe_of (in_expr c.args.functions.now) c.args.v.now.initial) (in_var c.args.functions.now c.args.v.now) c.args.touched.now c.declare.new.self c.touch_initial.new.touched
    refl c.in_ok-declare.ensures c.touch_initial.ensures
