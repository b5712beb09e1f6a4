use Rattle.zir_types.specs.Statements.{returned}
use Rattle.zir_type_expressions.proofs.Steps.{expr_err, expr_ok}
use Rattle.zir_type_bodies.proofs.body.some_result.Goals as goal

pub returns-in_err-x-in-Some : goal.returns-in_err-x-in-Some
returns-in_err-x-in-Some c = rw c.in-Some.is (expr_err c.args.scope.now _ _ c.in-Some.r.value (returned c.args.statements c.args.ty.now c.in-Some.r.at) _ _ c.wanted.ensures c.from_residual.ensures.1 c.in_err-x-in-Some.ensures)

pub returns-in_ok-x-in-Some : goal.returns-in_ok-x-in-Some
returns-in_ok-x-in-Some c = rw c.in-Some.is (expr_ok c.args.scope.now _ _ c.in-Some.r.value (returned c.args.statements c.args.ty.now c.in-Some.r.at) _ _ c.wanted.ensures c.in_ok-x-in-Some.ensures c.returned.ensures)
