use Rattle.zir_types.specs.Statements.{index_step, slice_step}
use Rattle.zir_type_expressions.proofs.Steps.{expr_err, expr_ok}
use Rattle.zir_type_bodies.proofs.statement.type_access.Goals as goal

pub returns-in_err-t-in-Index : goal.returns-in_err-t-in-Index
returns-in_err-t-in-Index c = rw c.in-Index.is (expr_err c.args.scope.now _ _ c.in-Index.e (index_step c.in-Index.at c.args.path) _ _ c.unasked.ensures c.from_residual.ensures.1 c.in_err-t-in-Index.ensures)

pub returns-in_ok-t-in-Index : goal.returns-in_ok-t-in-Index
returns-in_ok-t-in-Index c = rw c.in-Index.is (expr_ok c.args.scope.now _ _ c.in-Index.e (index_step c.in-Index.at c.args.path) _ _ c.unasked.ensures c.in_ok-t-in-Index.ensures c.index_step.ensures)

pub returns-in_err-t-in-Slice : goal.returns-in_err-t-in-Slice
returns-in_err-t-in-Slice c = rw c.in-Slice.is (expr_err c.args.scope.now _ _ c.in-Slice.e (slice_step c.in-Slice.count c.in-Slice.at c.args.path) _ _ c.unasked-in-Slice.ensures c.from_residual-in_err-t-in-Slice.ensures.1 c.in_err-t-in-Slice.ensures)

pub returns-in_ok-t-in-Slice : goal.returns-in_ok-t-in-Slice
returns-in_ok-t-in-Slice c = rw c.in-Slice.is (expr_ok c.args.scope.now _ _ c.in-Slice.e (slice_step c.in-Slice.count c.in-Slice.at c.args.path) _ _ c.unasked-in-Slice.ensures c.in_ok-t-in-Slice.ensures c.slice_step.ensures)
