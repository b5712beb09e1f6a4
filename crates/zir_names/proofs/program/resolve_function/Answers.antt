use Rattle.zir_names.proofs.Declarations.{function_params_err, function_result_err, function_body_err, function_made}
use Rattle.zir_names.proofs.program.resolve_function.Goals as goal

pub returns-in_err-params : goal.returns-in_err-params
returns-in_err-params c =
    function_params_err c.args.scope.now c.args.f.now _ _ _ _ _ c.in_ok-check_new.ensures c.in_ok-name.ensures c.from_residual-in_err-params.ensures.1
    (rw c.as_slice.ensures at c.in_err-params.ensures)

pub returns-in_err-result : goal.returns-in_err-result
returns-in_err-result c =
    function_result_err c.args.scope.now c.args.f.now _ _ _ _ _ _ _ c.in_ok-check_new.ensures c.in_ok-name.ensures (rw c.as_slice.ensures at c.in_ok-params.ensures)
    c.from_residual-in_err-result.ensures.1 c.in_err-result.ensures

pub returns-in_err-body : goal.returns-in_err-body
returns-in_err-body c =
    function_body_err c.args.scope.now c.args.f.now _ _ _ _ _ _ _ _ _ _ c.in_ok-check_new.ensures c.in_ok-name.ensures (rw c.as_slice.ensures at c.in_ok-params.ensures)
    c.in_ok-result.ensures c.in_ok-open.ensures (rw c.as_slice-2.ensures at c.in_ok-enter_params.ensures)
    c.from_residual-in_err-body.ensures.1 c.in_err-body.ensures

pub returns : goal.returns
returns c =
    function_made c.args.scope.now c.args.f.now _ _ _ _ _ _ _ _ _ _ _ _ _ c.in_ok-check_new.ensures c.in_ok-name.ensures (rw c.as_slice.ensures at c.in_ok-params.ensures)
    c.in_ok-result.ensures c.in_ok-open.ensures (rw c.as_slice-2.ensures at c.in_ok-enter_params.ensures)
    c.in_ok-body.ensures c.len-before.ensures c.leave.ensures c.len.ensures c.in_ok-open-2.ensures
