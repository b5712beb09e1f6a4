use Rattle.zir_types.proofs.Told.{told_err}
use Rattle.zir_type_expressions.proofs.Steps.{told_as, told_ok}
use Rattle.zir_type_bodies.proofs.Steps.{told_memory, stmt-Call, stmt-Call-none}
use Rattle.zir_type_bodies.proofs.statement.type_call.Goals as goal

pub returns-in_err-function : goal.returns-in_err-function
returns-in_err-function c = told_memory _ _ _ c.from_residual.ensures.1 c.in_err-function.ensures

pub returns-in-None : goal.returns-in-None
returns-in-None c = stmt-Call-none c.args.scope.now c.args.f.now c.args.n c.args.es.now _ c.in_ok-function.ensures c.in-None.is

pub returns-in_err-args-in-Some : goal.returns-in_err-args-in-Some
returns-in_err-args-in-Some c =
    told_as _ _ _ (stmt-Call c.args.scope.now c.args.f.now c.args.n c.args.es.now _ c.in-Some.callee c.in_ok-function.ensures c.in-Some.is)
    (told_err _ _ _ _ c.from_residual-in_err-args-in-Some.ensures.1 (rw c.as_slice.ensures at c.in_err-args-in-Some.ensures))

pub returns-in_ok-args-in-Some : goal.returns-in_ok-args-in-Some
returns-in_ok-args-in-Some c =
    told_as _ _ _ (stmt-Call c.args.scope.now c.args.f.now c.args.n c.args.es.now _ c.in-Some.callee c.in_ok-function.ensures c.in-Some.is)
    (told_ok _ _ _ _ (rw c.as_slice.ensures at c.in_ok-args-in-Some.ensures) c.call_step.ensures)
