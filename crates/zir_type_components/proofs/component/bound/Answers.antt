use Rattle.std.proofs.Common.{refl}
use Rattle.zir_types.specs.Walk.{Fine}
use Rattle.zir_types.specs.Components.{with_comp}
use Rattle.zir_tree.specs.declared.comp.Member.{Bind}
use Rattle.zir_type_components.specs.Blocks.{name_in, gathered_at}
use Rattle.zir_type_components.proofs.Reaching.{step_err}
use Rattle.zir_type_components.proofs.Forms.{reached_at, bound_fine, name_left}
use Rattle.zir_type_components.proofs.component.bound.Goals as goal

pub returns-in_err-x : goal.returns-in_err-x
returns-in_err-x c = λ js is.
    step_err (name_in c.args.r.value c.args.scope.now c.args.x.now c.args.at)
    (λ h. Fine (record { members = with_comp (gathered_at c.args.before js) (Bind c.args.x.now c.args.r.what) (reached_at c.args.r is); scope = h }))
    _ _ is _ _ c.from_residual.ensures.1 c.in_err-x.ensures

pub returns : goal.returns
returns c = λ js is. (
  bound_fine c.args.scope.now _ c.args.x.now c.in_ok-x.x c.args.at (gathered_at c.args.before js) _ (reached_at c.args.r is) c.in_ok-x.ensures.0
      c.in_ok-x.ensures.1 (c.in_ok-made.ensures (reached_at c.args.r is) refl refl js),
  name_left c.args.r.value c.args.scope.now _ c.args.x.now c.args.at c.in_ok-x.ensures.0,
)
