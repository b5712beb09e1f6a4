use Rattle.zir_types.specs.Statements.{returning}
use Rattle.std.proofs.Common.{ap, sym}
use Rattle.zir_types.specs.Walk.{Fine}
use Rattle.zir_type_expressions.proofs.Steps.{expr_err}
use Rattle.zir_type_bodies.proofs.Steps.{expr_fine}
use Rattle.zir_type_bodies.proofs.body.do_end.Goals as goal

pub returns-in_err-x-in-Some : goal.returns-in_err-x-in-Some
returns-in_err-x-in-Some c = rw c.in-Some.is (expr_err c.args.scope.now _ _ c.in-Some.r.value (returning c.args.statements c.in-Some.r.at) _ _ c.unasked.ensures c.from_residual.ensures.1 c.in_err-x-in-Some.ensures)

pub returns-in_ok-x-in-Some : goal.returns-in_ok-x-in-Some
returns-in_ok-x-in-Some c = rw c.in-Some.is (expr_fine c.args.scope.now _ _ c.in-Some.r.value (returning c.args.statements c.in-Some.r.at) _ _ c.unasked.ensures c.in_ok-x-in-Some.ensures (ap Fine (sym c.returning.ensures)))
