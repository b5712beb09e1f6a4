use Rattle.zir_types.proofs.Told.{told_err}
use Rattle.zir_type_bodies.proofs.Sequences.{left-stmts}
use Rattle.zir_type_expressions.proofs.Steps.{told_ok}
use Rattle.zir_type_bodies.proofs.Steps.{told_refused, then_fine}
use Rattle.zir_type_bodies.proofs.body.type_fun_body.Goals as goal

pub returns-in_err-statements-clause-told : goal.returns-in_err-statements-clause-told
returns-in_err-statements-clause-told c =
    told_err _ _ _ _ c.from_residual.ensures.1 (rw c.as_slice.ensures at c.in_err-statements.ensures)

pub returns-in_err-made-clause-told : goal.returns-in_err-made-clause-told
returns-in_err-made-clause-told c =
    told_ok _ _ _ _ (rw c.as_slice.ensures at c.in_ok-statements.ensures) (told_refused _ _ _ c.from_residual-in_err-made.ensures.1 c.in_err-made.ensures)

pub returns-clause-told : goal.returns-clause-told
returns-clause-told c = then_fine _ _ _ _ (rw c.as_slice.ensures at c.in_ok-statements.ensures) c.in_ok-made.ensures

pub returns-clause-seen : goal.returns-clause-seen
returns-clause-seen c =
    rw (c.leave.ensures, c.depth-before.ensures) (left-stmts c.args.scope.now c.args.body.now.statements c.in_ok-statements.statements _ (rw c.as_slice.ensures at c.in_ok-statements.ensures))
