use Rattle.std.proofs.Common.{◌∙◌, ap}
use Rattle.zir_types.specs.Walk.{and_then}
use Rattle.zir_types.specs.Statements.{var}
use Rattle.zir_type_components.specs.Blocks.{gathered_at, var_of}
use Rattle.zir_type_components.proofs.Reaching.{step_err}
use Rattle.zir_type_components.proofs.Forms.{declared_fine, declared_left}
use Rattle.zir_type_components.proofs.component.declared.Goals as goal

pub returns-in_err-v : goal.returns-in_err-v
returns-in_err-v c = λ is. step_err (var c.args.scope.now c.args.v.now) (var_of c.args.scope.now (gathered_at c.args.before is)) _ _ is _ _
    c.from_residual.ensures.1 c.in_err-v.ensures

pub returns : goal.returns
returns c = λ is. (
  ap (λ w. and_then w (var_of c.args.scope.now (gathered_at c.args.before is))) c.in_ok-v.ensures
      ∙ declared_fine c.args.scope.now _ (gathered_at c.args.before is) _ c.in_ok-v.v _ c.in_ok-seen.seen c.in_ok-seen.ensures c.as_slice.ensures
      (c.in_ok-made.ensures is) c.in_ok-enter.ensures,
  declared_left c.args.scope.now _ _ c.in_ok-enter.ensures,
)
