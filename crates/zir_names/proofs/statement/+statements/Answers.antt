use Rattle.std.proofs.Common.{subst, refl}
use Rattle.zir_tree.specs.declared.stmt.Stmt.{If, While, For}
use Rattle.zir_names.specs.Scope.{ToldIn, closed}
use Rattle.zir_names.specs.Statements.{stmt, in_turn, indexed}
use Rattle.zir_names.proofs.Told.{told_in_err, refuses_closed}
use Rattle.zir_names.proofs.StatementEquations.{stmt-If, stmt-IfElse, stmt-While, stmt-For}
use Rattle.zir_names.proofs.statement.+statements.Goals as goal

pub resolve_if-returns-in_err-e : goal.resolve_if-returns-in_err-e
resolve_if-returns-in_err-e t c =
    rw (stmt-If) (told_in_err _ _ _ _ _ c.from_residual.ensures.1 c.in_err-e.ensures)

pub resolve_if-returns-in_err-body : goal.resolve_if-returns-in_err-body
resolve_if-returns-in_err-body t c =
    rw (stmt-If, c.in_ok-e.ensures) (told_in_err _ _ _ _ _ c.from_residual-in_err-body.ensures.1 c.in_err-body.ensures)

pub resolve_if-returns : goal.resolve_if-returns
resolve_if-returns t c =
    rw (stmt-If, c.in_ok-e.ensures, c.in_ok-body.ensures) refl

pub resolve_while-returns-in_err-e : goal.resolve_while-returns-in_err-e
resolve_while-returns-in_err-e t c =
    rw (stmt-While) (told_in_err _ _ _ _ _ c.from_residual.ensures.1 c.in_err-e.ensures)

pub resolve_while-returns-in_err-body : goal.resolve_while-returns-in_err-body
resolve_while-returns-in_err-body t c =
    rw (stmt-While, c.in_ok-e.ensures) (told_in_err _ _ _ _ _ c.from_residual-in_err-body.ensures.1 c.in_err-body.ensures)

pub resolve_while-returns : goal.resolve_while-returns
resolve_while-returns t c =
    rw (stmt-While, c.in_ok-e.ensures, c.in_ok-body.ensures) refl

pub resolve_for-returns-in_err-a : goal.resolve_for-returns-in_err-a
resolve_for-returns-in_err-a t c =
    rw (stmt-For) (told_in_err _ _ _ _ _ c.from_residual.ensures.1 c.in_err-a.ensures)

pub resolve_for-returns-in_err-n : goal.resolve_for-returns-in_err-n
resolve_for-returns-in_err-n t c =
    rw (stmt-For, c.in_ok-a.ensures) (told_in_err _ _ _ _ _ c.from_residual-in_err-n.ensures.1 c.in_err-n.ensures)

pub resolve_for-returns-in_err-body : goal.resolve_for-returns-in_err-body
resolve_for-returns-in_err-body t c =
    rw (stmt-For, c.in_ok-a.ensures, c.in_ok-n.ensures) (told_in_err (closed c.args.scope.now (in_turn stmt (indexed c.args.scope.now c.args.x.now) c.args.body.now)) _ _ _ _ c.from_residual-in_err-body.ensures.1 (refuses_closed c.args.scope.now (in_turn stmt (indexed c.args.scope.now c.args.x.now) c.args.body.now) _ (rw c.in_ok-x.ensures.seen at c.in_err-body.ensures)))

pub resolve_for-returns : goal.resolve_for-returns
resolve_for-returns t c =
    rw (c.in_ok-x.ensures.made, c.leave.ensures, c.len-before.ensures, stmt-For, c.in_ok-a.ensures, c.in_ok-n.ensures, (rw c.in_ok-x.ensures.seen at c.in_ok-body.ensures)) refl

pub resolve_stmt-returns-in-Var : goal.resolve_stmt-returns-in-Var
resolve_stmt-returns-in-Var t c =
    rw c.in-Var.is c.resolve_var_stmt.ensures

pub resolve_stmt-returns-in-Assign : goal.resolve_stmt-returns-in-Assign
resolve_stmt-returns-in-Assign t c =
    rw (c.in-Assign.is, ← c.as_slice.ensures) c.resolve_assign.ensures

pub resolve_stmt-returns-in-Call : goal.resolve_stmt-returns-in-Call
resolve_stmt-returns-in-Call t c =
    rw (c.in-Call.is, ← c.as_slice-in-Call.ensures) c.resolve_call.ensures

pub resolve_stmt-returns-in-Error : goal.resolve_stmt-returns-in-Error
resolve_stmt-returns-in-Error t c =
    rw c.in-Error.is c.copy_error.ensures

pub resolve_stmt-returns-in-If : goal.resolve_stmt-returns-in-If
resolve_stmt-returns-in-If t c =
    rw c.in-If.is (subst (λ v. ToldIn (stmt c.args.scope.now (If c.in-If.e v c.in-If.at)) c.resolve_if.result c.resolve_if.new.scope) c.as_slice-in-If.ensures c.resolve_if.ensures)

pub resolve_stmt-returns-in-While : goal.resolve_stmt-returns-in-While
resolve_stmt-returns-in-While t c =
    rw c.in-While.is (subst (λ v. ToldIn (stmt c.args.scope.now (While c.in-While.e v c.in-While.at)) c.resolve_while.result c.resolve_while.new.scope) c.as_slice-in-While.ensures c.resolve_while.ensures)

pub resolve_stmt-returns-in-For : goal.resolve_stmt-returns-in-For
resolve_stmt-returns-in-For t c =
    rw c.in-For.is (subst (λ v. ToldIn (stmt c.args.scope.now (For c.in-For.x c.in-For.a c.in-For.n v c.in-For.at)) c.resolve_for.result c.resolve_for.new.scope) c.as_slice-in-For.ensures c.resolve_for.ensures)

pub resolve_stmt-returns-in_err-body-in-IfElse : goal.resolve_stmt-returns-in_err-body-in-IfElse
resolve_stmt-returns-in_err-body-in-IfElse t c =
    rw (c.in-IfElse.is, stmt-IfElse, c.in_ok-e-in-IfElse.ensures) (told_in_err _ _ _ _ _ c.from_residual-in_err-body-in-IfElse.ensures.1 (rw c.as_slice-in-IfElse.ensures at c.in_err-body-in-IfElse.ensures))

pub resolve_stmt-returns-in_err-other-in-IfElse : goal.resolve_stmt-returns-in_err-other-in-IfElse
resolve_stmt-returns-in_err-other-in-IfElse t c =
    rw (c.in-IfElse.is, stmt-IfElse, c.in_ok-e-in-IfElse.ensures, (rw c.as_slice-in-IfElse.ensures at c.in_ok-body-in-IfElse.ensures)) (told_in_err _ _ _ _ _ c.from_residual-in_err-other-in-IfElse.ensures.1 (rw c.as_slice-in-IfElse-2.ensures at c.in_err-other-in-IfElse.ensures))

pub resolve_stmt-returns-in_ok-other-in-IfElse : goal.resolve_stmt-returns-in_ok-other-in-IfElse
resolve_stmt-returns-in_ok-other-in-IfElse t c =
    rw (c.in-IfElse.is, stmt-IfElse, c.in_ok-e-in-IfElse.ensures, (rw c.as_slice-in-IfElse.ensures at c.in_ok-body-in-IfElse.ensures), (rw c.as_slice-in-IfElse-2.ensures at c.in_ok-other-in-IfElse.ensures)) refl
