use Rattle.std.proofs.Common.{◌∙◌, ap, sym, arith}
use Rattle.zir_names.specs.Touched.{both, all_of, call_of, assigns_to, in_expr, in_access, in_stmt}
use Rattle.zir_sharing.proofs.Touching.{two_parts, three_parts, rest_step, stmt-If, stmt-IfElse, stmt-While, stmt-For}
use Rattle.zir_sharing.proofs.statement.+statements.Goals as goal

pub touch_stmt-returns-in_ok-touch_path-in-Assign : goal.touch_stmt-returns-in_ok-touch_path-in-Assign
touch_stmt-returns-in_ok-touch_path-in-Assign t c =
    three_parts c.touch_expr.result (assigns_to c.in-Assign.x) (all_of (in_access c.args.functions.now) c.as_slice.result.now) (in_expr c.args.functions.now c.in-Assign.e) (in_stmt c.args.functions.now c.args.s.now) c.args.touched.now c.assign.new.self c.touch_path.new.touched c.touch_expr.new.touched
    (ap (in_stmt c.args.functions.now) c.in-Assign.is ∙ ap (λ p. both (assigns_to c.in-Assign.x) (both (all_of (in_access c.args.functions.now) p) (in_expr c.args.functions.now c.in-Assign.e))) (sym c.as_slice.ensures))
    c.in_ok-assign-in-Assign.ensures c.in_ok-touch_path-in-Assign.ensures c.touch_expr.ensures

pub touch_stmt-returns-in_ok-touch_call-in-Call : goal.touch_stmt-returns-in_ok-touch_call-in-Call
touch_stmt-returns-in_ok-touch_call-in-Call t c =
    two_parts c.touch_exprs.result (call_of c.args.functions.now c.in-Call.f.id) (all_of (in_expr c.args.functions.now) c.as_slice-in-Call.result.now) (in_stmt c.args.functions.now c.args.s.now) c.args.touched.now c.touch_call.new.touched c.touch_exprs.new.touched
    (ap (in_stmt c.args.functions.now) c.in-Call.is ∙ ap (λ p. both (call_of c.args.functions.now c.in-Call.f.id) (all_of (in_expr c.args.functions.now) p)) (sym c.as_slice-in-Call.ensures))
    c.in_ok-touch_call-in-Call.ensures c.touch_exprs.ensures

pub touch_stmt-returns-in_ok-touch_expr-in-If : goal.touch_stmt-returns-in_ok-touch_expr-in-If
touch_stmt-returns-in_ok-touch_expr-in-If t c =
    two_parts c.touch_stmts.result (in_expr c.args.functions.now c.in-If.e) (all_of (in_stmt c.args.functions.now) c.as_slice-in-If.result.now) (in_stmt c.args.functions.now c.args.s.now) c.args.touched.now c.touch_expr-in-If.new.touched c.touch_stmts.new.touched
    (ap (in_stmt c.args.functions.now) c.in-If.is ∙ stmt-If c.args.functions.now c.in-If.e c.in-If.body c.in-If.field-2 ∙ ap (λ p. both (in_expr c.args.functions.now c.in-If.e) (all_of (in_stmt c.args.functions.now) p)) (sym c.as_slice-in-If.ensures))
    c.in_ok-touch_expr-in-If.ensures c.touch_stmts.ensures

pub touch_stmt-returns-in_ok-touch_expr-in-While : goal.touch_stmt-returns-in_ok-touch_expr-in-While
touch_stmt-returns-in_ok-touch_expr-in-While t c =
    two_parts c.touch_stmts-in-While.result (in_expr c.args.functions.now c.in-While.e) (all_of (in_stmt c.args.functions.now) c.as_slice-in-While.result.now) (in_stmt c.args.functions.now c.args.s.now) c.args.touched.now c.touch_expr-in-While.new.touched c.touch_stmts-in-While.new.touched
    (ap (in_stmt c.args.functions.now) c.in-While.is ∙ stmt-While c.args.functions.now c.in-While.e c.in-While.body c.in-While.field-2 ∙ ap (λ p. both (in_expr c.args.functions.now c.in-While.e) (all_of (in_stmt c.args.functions.now) p)) (sym c.as_slice-in-While.ensures))
    c.in_ok-touch_expr-in-While.ensures c.touch_stmts-in-While.ensures

pub touch_stmt-returns-in_ok-touch_stmts-in-IfElse : goal.touch_stmt-returns-in_ok-touch_stmts-in-IfElse
touch_stmt-returns-in_ok-touch_stmts-in-IfElse t c =
    three_parts c.touch_stmts-in-IfElse-2.result (in_expr c.args.functions.now c.in-IfElse.e) (all_of (in_stmt c.args.functions.now) c.as_slice-in-IfElse.result.now) (all_of (in_stmt c.args.functions.now) c.as_slice-in-IfElse-2.result.now) (in_stmt c.args.functions.now c.args.s.now) c.args.touched.now c.touch_expr-in-IfElse.new.touched c.touch_stmts-in-IfElse.new.touched c.touch_stmts-in-IfElse-2.new.touched
    (ap (in_stmt c.args.functions.now) c.in-IfElse.is ∙ stmt-IfElse c.args.functions.now c.in-IfElse.e c.in-IfElse.body c.in-IfElse.other c.in-IfElse.field-3
    ∙ ap (λ p. both (in_expr c.args.functions.now c.in-IfElse.e) (both (all_of (in_stmt c.args.functions.now) p) (all_of (in_stmt c.args.functions.now) c.in-IfElse.other))) (sym c.as_slice-in-IfElse.ensures)
    ∙ ap (λ p. both (in_expr c.args.functions.now c.in-IfElse.e) (both (all_of (in_stmt c.args.functions.now) c.as_slice-in-IfElse.result.now) (all_of (in_stmt c.args.functions.now) p))) (sym c.as_slice-in-IfElse-2.ensures))
    c.in_ok-touch_expr-in-IfElse.ensures c.in_ok-touch_stmts-in-IfElse.ensures c.touch_stmts-in-IfElse-2.ensures

pub touch_stmt-returns-in_ok-touch_expr-in-For-2 : goal.touch_stmt-returns-in_ok-touch_expr-in-For-2
touch_stmt-returns-in_ok-touch_expr-in-For-2 t c =
    three_parts c.touch_stmts-in-For.result (in_expr c.args.functions.now c.in-For.a) (in_expr c.args.functions.now c.in-For.n) (all_of (in_stmt c.args.functions.now) c.as_slice-in-For.result.now) (in_stmt c.args.functions.now c.args.s.now) c.args.touched.now c.touch_expr-in-For.new.touched c.touch_expr-in-For-2.new.touched c.touch_stmts-in-For.new.touched
    (ap (in_stmt c.args.functions.now) c.in-For.is ∙ stmt-For c.args.functions.now c.in-For.field-0 c.in-For.a c.in-For.n c.in-For.body c.in-For.field-4
    ∙ ap (λ p. both (in_expr c.args.functions.now c.in-For.a) (both (in_expr c.args.functions.now c.in-For.n) (all_of (in_stmt c.args.functions.now) p))) (sym c.as_slice-in-For.ensures))
    c.in_ok-touch_expr-in-For.ensures c.in_ok-touch_expr-in-For-2.ensures c.touch_stmts-in-For.ensures

pub touch_stmts-loop-s-preserved : goal.touch_stmts-loop-s-preserved
touch_stmts-loop-s-preserved t c =
    rest_step (in_stmt c.args.functions.now) c.args.ss.now c.loop-s.s-index c.s-item.result (both (all_of (in_stmt c.args.functions.now) c.args.ss.now) c.args.touched.now) c.loop-s.touched c.touch_stmt.new.touched
    (omega arith) c.s-item.is c.loop-s.invariant c.in_ok-touch_stmt.ensures
