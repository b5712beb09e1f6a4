use Rattle.std.proofs.Common.{◌∙◌, ◌∷◌, [], subst, refl}
use Rattle.zir_tree.specs.declared.types.Base.TheVariants.{Int32}
use Rattle.zir_tree.specs.declared.stmt.Stmt.{If, While, For}
use Rattle.zir_types.specs.Walk.{Told, and_then}
use Rattle.zir_types.specs.Scope.{variable}
use Rattle.zir_types.specs.Kinds.{scalar}
use Rattle.zir_types.specs.Statements.{stmt, with_index, if_step, if_else_step, while_step, for_step}
use Rattle.zir_types.proofs.Told.{told_err}
use Rattle.zir_type_expressions.proofs.Steps.{told_ok}
use Rattle.zir_type_bodies.specs.Sequences.{block}
use Rattle.zir_type_bodies.proofs.Forms.{if_refused, if_typed, while_refused, while_typed, if_else_refused, if_else_typed, for_refused, for_count_refused, for_count_typed}
use Rattle.zir_type_bodies.proofs.Scopes.{left_again}
use Rattle.zir_type_bodies.proofs.Sequences.{left-stmts}
use Rattle.zir_type_bodies.proofs.Steps.{then_fine, on_ok}
use Rattle.zir_type_bodies.proofs.statement.+statements.Goals as goal

pub type_if-returns-in_err-t-clause-told : goal.type_if-returns-in_err-t-clause-told
type_if-returns-in_err-t-clause-told t c =
    if_refused c.args.scope.now c.args.e.now c.args.thens.now c.args.at _ _ _ c.unasked.ensures c.from_residual.ensures.1 c.in_err-t.ensures

pub type_if-returns-in_err-thens-clause-told : goal.type_if-returns-in_err-thens-clause-told
type_if-returns-in_err-thens-clause-told t c =
    if_typed c.args.scope.now c.args.e.now c.args.thens.now c.args.at _ _ _ c.unasked.ensures c.in_ok-t.ensures
    (told_err (block c.args.scope.now c.args.thens.now) (if_step c.args.at c.in_ok-t.t) _ _ c.from_residual-in_err-thens.ensures.1 c.in_err-thens.ensures.told)

pub type_if-returns-clause-told : goal.type_if-returns-clause-told
type_if-returns-clause-told t c =
    if_typed c.args.scope.now c.args.e.now c.args.thens.now c.args.at _ _ _ c.unasked.ensures c.in_ok-t.ensures
    (told_ok (block c.args.scope.now c.args.thens.now) (if_step c.args.at c.in_ok-t.t) _ _ c.in_ok-thens.ensures.told c.if_step.ensures)

pub type_if-returns-clause-seen : goal.type_if-returns-clause-seen
type_if-returns-clause-seen t c = on_ok _ c.in_ok-thens.ensures.seen

pub type_while-returns-in_err-t-clause-told : goal.type_while-returns-in_err-t-clause-told
type_while-returns-in_err-t-clause-told t c =
    while_refused c.args.scope.now c.args.e.now c.args.body.now c.args.at _ _ _ c.unasked.ensures c.from_residual.ensures.1 c.in_err-t.ensures

pub type_while-returns-in_err-body-clause-told : goal.type_while-returns-in_err-body-clause-told
type_while-returns-in_err-body-clause-told t c =
    while_typed c.args.scope.now c.args.e.now c.args.body.now c.args.at _ _ _ c.unasked.ensures c.in_ok-t.ensures
    (told_err (block c.args.scope.now c.args.body.now) (while_step c.args.at c.in_ok-t.t) _ _ c.from_residual-in_err-body.ensures.1 c.in_err-body.ensures.told)

pub type_while-returns-clause-told : goal.type_while-returns-clause-told
type_while-returns-clause-told t c =
    while_typed c.args.scope.now c.args.e.now c.args.body.now c.args.at _ _ _ c.unasked.ensures c.in_ok-t.ensures
    (told_ok (block c.args.scope.now c.args.body.now) (while_step c.args.at c.in_ok-t.t) _ _ c.in_ok-body.ensures.told c.while_step.ensures)

pub type_while-returns-clause-seen : goal.type_while-returns-clause-seen
type_while-returns-clause-seen t c = on_ok _ c.in_ok-body.ensures.seen

pub type_for-returns-in_err-first-clause-told : goal.type_for-returns-in_err-first-clause-told
type_for-returns-in_err-first-clause-told t c =
    for_refused c.args.scope.now c.args.x.now c.args.a.now c.args.n.now c.args.body.now c.args.at _ _ _ c.unasked.ensures c.from_residual.ensures.1 c.in_err-first.ensures

pub type_for-returns-in_err-turns-clause-told : goal.type_for-returns-in_err-turns-clause-told
type_for-returns-in_err-turns-clause-told t c =
    for_count_refused c.args.scope.now c.args.x.now c.args.a.now c.args.n.now c.args.body.now c.args.at _ _ _ _ _ c.unasked.ensures c.in_ok-first.ensures c.unasked-2.ensures
    c.from_residual-in_err-turns.ensures.1 c.in_err-turns.ensures

pub type_for-returns-in_err-body-clause-told : goal.type_for-returns-in_err-body-clause-told
type_for-returns-in_err-body-clause-told t c =
    for_count_typed c.args.scope.now c.args.x.now c.args.a.now c.args.n.now c.args.body.now c.args.at _ _ _ _ _ c.unasked.ensures c.in_ok-first.ensures c.unasked-2.ensures c.in_ok-turns.ensures
    (told_err (block (with_index c.args.x.now c.args.scope.now) c.args.body.now) (for_step c.args.x.now c.args.at c.in_ok-first.first c.in_ok-turns.turns) _ _
    c.from_residual-in_err-body.ensures.1 (rw c.in_ok-enter_index.ensures at c.in_err-body.ensures.told))

pub type_for-returns-clause-told : goal.type_for-returns-clause-told
type_for-returns-clause-told t c =
    for_count_typed c.args.scope.now c.args.x.now c.args.a.now c.args.n.now c.args.body.now c.args.at _ _ _ _ _ c.unasked.ensures c.in_ok-first.ensures c.unasked-2.ensures c.in_ok-turns.ensures
    (told_ok (block (with_index c.args.x.now c.args.scope.now) c.args.body.now) (for_step c.args.x.now c.args.at c.in_ok-first.first c.in_ok-turns.turns) _ _
    (rw c.in_ok-enter_index.ensures at c.in_ok-body.ensures.told) c.for_step.ensures)

pub type_for-returns-clause-seen : goal.type_for-returns-clause-seen
type_for-returns-clause-seen t c =
    on_ok _
    (left_again c.args.scope.now _ _ _ (variable c.args.x.now.id (scalar Int32) ∷ []) _ c.depth-before.ensures c.in_ok-enter_index.ensures c.in_ok-body.ensures.seen c.leave.ensures)

pub type_stmt-returns-in-Var-clause-told : goal.type_stmt-returns-in-Var-clause-told
type_stmt-returns-in-Var-clause-told t c = rw c.in-Var.is c.type_declaration.ensures

pub type_stmt-returns-in-Assign-clause-told : goal.type_stmt-returns-in-Assign-clause-told
type_stmt-returns-in-Assign-clause-told t c = rw (c.in-Assign.is, ← c.as_slice.ensures) c.type_assign.ensures

pub type_stmt-returns-in-Call-clause-told : goal.type_stmt-returns-in-Call-clause-told
type_stmt-returns-in-Call-clause-told t c = rw (c.in-Call.is, ← c.as_slice-in-Call.ensures) c.type_call.ensures

pub type_stmt-returns-in-If-clause-told : goal.type_stmt-returns-in-If-clause-told
type_stmt-returns-in-If-clause-told t c =
    rw c.in-If.is (subst (λ v. Told (stmt c.args.scope.now (If c.in-If.e v c.in-If.at)) c.type_if.result) c.as_slice-in-If.ensures c.type_if.ensures.told)

pub type_stmt-returns-in-While-clause-told : goal.type_stmt-returns-in-While-clause-told
type_stmt-returns-in-While-clause-told t c =
    rw c.in-While.is (subst (λ v. Told (stmt c.args.scope.now (While c.in-While.e v c.in-While.at)) c.type_while.result) c.as_slice-in-While.ensures c.type_while.ensures.told)

pub type_stmt-returns-in-For-clause-told : goal.type_stmt-returns-in-For-clause-told
type_stmt-returns-in-For-clause-told t c =
    rw c.in-For.is (subst (λ v. Told (stmt c.args.scope.now (For c.in-For.x c.in-For.a c.in-For.n v c.in-For.at)) c.type_for.result) c.as_slice-in-For.ensures c.type_for.ensures.told)

pub type_stmt-returns-in_err-e-in-IfElse-clause-told : goal.type_stmt-returns-in_err-e-in-IfElse-clause-told
type_stmt-returns-in_err-e-in-IfElse-clause-told t c =
    rw c.in-IfElse.is (if_else_refused c.args.scope.now c.in-IfElse.e c.in-IfElse.thens c.in-IfElse.elses c.in-IfElse.at _ _ _ c.unasked.ensures c.from_residual-in_err-e-in-IfElse.ensures.1 c.in_err-e-in-IfElse.ensures)

pub type_stmt-returns-in_err-thens-in-IfElse-clause-told : goal.type_stmt-returns-in_err-thens-in-IfElse-clause-told
type_stmt-returns-in_err-thens-in-IfElse-clause-told t c =
    rw c.in-IfElse.is (if_else_typed c.args.scope.now c.in-IfElse.e c.in-IfElse.thens c.in-IfElse.elses c.in-IfElse.at _ _ _ c.unasked.ensures c.in_ok-e-in-IfElse.ensures
    (told_err (block c.args.scope.now c.in-IfElse.thens) (λ thens. and_then (block c.args.scope.now c.in-IfElse.elses) (if_else_step c.in-IfElse.at c.in_ok-e-in-IfElse.e thens)) _ _
    c.from_residual-in_err-thens-in-IfElse.ensures.1 (rw c.as_slice-in-IfElse.ensures at c.in_err-thens-in-IfElse.ensures.told)))

pub type_stmt-returns-in_err-elses-in-IfElse-clause-told : goal.type_stmt-returns-in_err-elses-in-IfElse-clause-told
type_stmt-returns-in_err-elses-in-IfElse-clause-told t c =
    rw c.in-IfElse.is (if_else_typed c.args.scope.now c.in-IfElse.e c.in-IfElse.thens c.in-IfElse.elses c.in-IfElse.at _ _ _ c.unasked.ensures c.in_ok-e-in-IfElse.ensures
    (told_ok (block c.args.scope.now c.in-IfElse.thens) (λ thens. and_then (block c.args.scope.now c.in-IfElse.elses) (if_else_step c.in-IfElse.at c.in_ok-e-in-IfElse.e thens)) _ _ (rw c.as_slice-in-IfElse.ensures at c.in_ok-thens-in-IfElse.ensures.told)
    (told_err (block c.args.scope.now c.in-IfElse.elses) (if_else_step c.in-IfElse.at c.in_ok-e-in-IfElse.e c.in_ok-thens-in-IfElse.thens) _ _
    c.from_residual-in_err-elses-in-IfElse.ensures.1
    (rw (c.as_slice-in-IfElse-2.ensures, c.in_ok-thens-in-IfElse.ensures.seen) at c.in_err-elses-in-IfElse.ensures.told))))

pub type_stmt-returns-in_ok-elses-in-IfElse-clause-told : goal.type_stmt-returns-in_ok-elses-in-IfElse-clause-told
type_stmt-returns-in_ok-elses-in-IfElse-clause-told t c =
    rw c.in-IfElse.is (if_else_typed c.args.scope.now c.in-IfElse.e c.in-IfElse.thens c.in-IfElse.elses c.in-IfElse.at _ _ _ c.unasked.ensures c.in_ok-e-in-IfElse.ensures
    (told_ok (block c.args.scope.now c.in-IfElse.thens) (λ thens. and_then (block c.args.scope.now c.in-IfElse.elses) (if_else_step c.in-IfElse.at c.in_ok-e-in-IfElse.e thens)) _ _ (rw c.as_slice-in-IfElse.ensures at c.in_ok-thens-in-IfElse.ensures.told)
    (told_ok (block c.args.scope.now c.in-IfElse.elses) (if_else_step c.in-IfElse.at c.in_ok-e-in-IfElse.e c.in_ok-thens-in-IfElse.thens) _ _
    (rw (c.as_slice-in-IfElse-2.ensures, c.in_ok-thens-in-IfElse.ensures.seen) at c.in_ok-elses-in-IfElse.ensures.told) c.if_else_step.ensures)))

pub type_stmt-returns-in_ok-elses-in-IfElse-clause-seen : goal.type_stmt-returns-in_ok-elses-in-IfElse-clause-seen
type_stmt-returns-in_ok-elses-in-IfElse-clause-seen t c = on_ok _ (c.in_ok-elses-in-IfElse.ensures.seen ∙ c.in_ok-thens-in-IfElse.ensures.seen)

pub type_block-returns-clause-told : goal.type_block-returns-clause-told
type_block-returns-clause-told t c = then_fine _ _ _ _ c.in_ok-made.ensures refl

pub type_block-returns-clause-seen : goal.type_block-returns-clause-seen
type_block-returns-clause-seen t c =
    rw (c.leave.ensures, c.depth-before.ensures) (left-stmts c.args.scope.now c.args.ss.now c.in_ok-made.made _ c.in_ok-made.ensures)
