use Rattle.zir_names.proofs.Declarations.{comp_params_err, comp_body_err, comp_function_made}
use Rattle.zir_names.proofs.program.resolve_comp_function.Goals as goal

pub returns-in_err-params : goal.returns-in_err-params
returns-in_err-params c =
    comp_params_err c.args.scope.now c.args.f.now _ _ _ _ _ c.in_ok-check_new.ensures c.in_ok-name.ensures c.from_residual-in_err-params.ensures.1
    (rw c.as_slice.ensures at c.in_err-params.ensures)

pub returns-in_err-body : goal.returns-in_err-body
returns-in_err-body c =
    comp_body_err c.args.scope.now c.args.f.now _ _ _ _ _ _ _ _ _ c.in_ok-check_new.ensures c.in_ok-name.ensures (rw c.as_slice.ensures at c.in_ok-params.ensures)
    c.in_ok-open.ensures (rw c.as_slice-2.ensures at c.in_ok-enter_params.ensures)
    c.from_residual-in_err-body.ensures.1 c.in_err-body.ensures

pub returns : goal.returns
returns c =
    comp_function_made c.args.scope.now c.args.f.now _ _ _ _ _ _ _ _ _ _ _ c.in_ok-check_new.ensures c.in_ok-name.ensures (rw c.as_slice.ensures at c.in_ok-params.ensures)
    c.in_ok-open.ensures (rw c.as_slice-2.ensures at c.in_ok-enter_params.ensures)
    (rw (← c.into_inner-body.ensures) at c.in_ok-body.ensures) c.len-before.ensures c.leave.ensures c.in_ok-open-2.ensures
