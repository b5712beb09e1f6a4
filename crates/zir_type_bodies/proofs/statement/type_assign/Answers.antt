use Rattle.zir_types.specs.Statements.{assigned}
use Rattle.zir_type_expressions.proofs.Steps.{expr_err, expr_ok}
use Rattle.zir_type_bodies.proofs.Forms.{assign_typed}
use Rattle.zir_type_bodies.proofs.statement.type_assign.Goals as goal

pub returns-in_err-t : goal.returns-in_err-t
returns-in_err-t c =
    assign_typed c.args.scope.now c.args.x.now c.args.steps.now c.args.e.now _ c.in_ok-to.to _ c.in_ok-start.ensures c.in_ok-to.ensures
    (expr_err c.args.scope.now _ _ c.args.e.now (assigned c.args.x.now c.in_ok-to.to) _ _ c.wanted.ensures c.from_residual-in_err-t.ensures.1 c.in_err-t.ensures)

pub returns : goal.returns
returns c =
    assign_typed c.args.scope.now c.args.x.now c.args.steps.now c.args.e.now _ c.in_ok-to.to _ c.in_ok-start.ensures c.in_ok-to.ensures
    (expr_ok c.args.scope.now _ _ c.args.e.now (assigned c.args.x.now c.in_ok-to.to) _ _ c.wanted.ensures c.in_ok-t.ensures c.assigned.ensures)
