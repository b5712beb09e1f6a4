use Rattle.std.proofs.Common.{◌∙◌, [], ◌∷◌, ap, sym, refl, arith, subst}
use Rattle.std.proofs.lemmas.List.{drop_all}
use Rattle.zir_meaning.specs.Assigned.{expr_assigns, exprs_assign, path_assigns, declares, stmt_assigns, all_assign}
use Rattle.zir_assigned.specs.Sets.{Adds, has}
use Rattle.zir_assigned.proofs.Covering.{opens_item, two_parts, three_parts}
use Rattle.zir_assigned.proofs.Forms.{stmt-If, stmt-IfElse, stmt-While, stmt-For}
use Rattle.zir_assigned.proofs.assigned.Assigned.+statements.Goals as goal

pub statement-returns-in_ok-expression-in-Assign : goal.statement-returns-in_ok-expression-in-Assign
statement-returns-in_ok-expression-in-Assign t c = λ r agrees.
    three_parts c.path.result _ (c.in-Assign.name.id ∷ []) (expr_assigns r c.in-Assign.e) (path_assigns r c.in-Assign.path) (has c.args.ids.now) (has c.insert.new.ids) (has c.expression.new.ids) (has c.path.new.ids)
    (ap (stmt_assigns r) c.in-Assign.is)
    c.in_ok-insert-in-Assign.ensures (c.in_ok-expression-in-Assign.ensures r agrees) (rw c.as_slice.ensures at (c.path.ensures r agrees))

pub statement-returns-in_ok-expressions-in-Call : goal.statement-returns-in_ok-expressions-in-Call
statement-returns-in_ok-expressions-in-Call t c = λ r agrees.
    two_parts c.function.result _ (exprs_assign r c.in-Call.es) (r.by_fun c.in-Call.k) (has c.args.ids.now) (has c.expressions.new.ids) (has c.function.new.ids)
    (ap (stmt_assigns r) c.in-Call.is)
    (rw c.as_slice-in-Call.ensures at (c.in_ok-expressions-in-Call.ensures r agrees)) (c.function.ensures r agrees)

pub statement-returns-in_ok-expression-in-If : goal.statement-returns-in_ok-expression-in-If
statement-returns-in_ok-expression-in-If t c = λ r agrees.
    two_parts c.block.result _ (expr_assigns r c.in-If.e) (all_assign r c.in-If.a []) (has c.args.ids.now) (has c.expression-in-If.new.ids) (has c.block.new.ids)
    (ap (stmt_assigns r) c.in-If.is ∙ stmt-If r c.in-If.e c.in-If.a c.in-If.field-2)
    (c.in_ok-expression-in-If.ensures r agrees) (rw c.as_slice-in-If.ensures at (c.block.ensures r agrees))

pub statement-returns-in_ok-expression-in-While : goal.statement-returns-in_ok-expression-in-While
statement-returns-in_ok-expression-in-While t c = λ r agrees.
    two_parts c.block-in-While.result _ (expr_assigns r c.in-While.e) (all_assign r c.in-While.a []) (has c.args.ids.now) (has c.expression-in-While.new.ids) (has c.block-in-While.new.ids)
    (ap (stmt_assigns r) c.in-While.is ∙ stmt-While r c.in-While.e c.in-While.a c.in-While.field-2)
    (c.in_ok-expression-in-While.ensures r agrees) (rw c.as_slice-in-While.ensures at (c.block-in-While.ensures r agrees))

pub statement-returns-in_ok-block-in-IfElse : goal.statement-returns-in_ok-block-in-IfElse
statement-returns-in_ok-block-in-IfElse t c = λ r agrees.
    three_parts c.block-in-IfElse-2.result _ (expr_assigns r c.in-IfElse.e) (all_assign r c.in-IfElse.a []) (all_assign r c.in-IfElse.b []) (has c.args.ids.now) (has c.expression-in-IfElse.new.ids) (has c.block-in-IfElse.new.ids) (has c.block-in-IfElse-2.new.ids)
    (ap (stmt_assigns r) c.in-IfElse.is ∙ stmt-IfElse r c.in-IfElse.e c.in-IfElse.a c.in-IfElse.b c.in-IfElse.field-3)
    (c.in_ok-expression-in-IfElse.ensures r agrees) (rw c.as_slice-in-IfElse.ensures at (c.in_ok-block-in-IfElse.ensures r agrees)) (rw c.as_slice-in-IfElse-2.ensures at (c.block-in-IfElse-2.ensures r agrees))

pub statement-returns-in_ok-expression-in-For-2 : goal.statement-returns-in_ok-expression-in-For-2
statement-returns-in_ok-expression-in-For-2 t c = λ r agrees.
    three_parts c.block-in-For.result _ (expr_assigns r c.in-For.a) (expr_assigns r c.in-For.n) (all_assign r c.in-For.b []) (has c.args.ids.now) (has c.expression-in-For.new.ids) (has c.expression-in-For-2.new.ids) (has c.block-in-For.new.ids)
    (ap (stmt_assigns r) c.in-For.is ∙ stmt-For r c.in-For.field-0 c.in-For.a c.in-For.n c.in-For.b c.in-For.field-4)
    (c.in_ok-expression-in-For.ensures r agrees) (c.in_ok-expression-in-For-2.ensures r agrees) (rw c.as_slice-in-For.ensures at (c.block-in-For.ensures r agrees))

pub statements-loop-a-preserved : goal.statements-loop-a-preserved
statements-loop-a-preserved t c = λ r agrees last set h.
    opens_item (stmt_assigns r) declares (λ ss. all_assign r ss last) (λ x xs. refl) c.args.ss.now c.loop-a.a-index c.a-item.result (omega arith) c.a-item.is
    c.loop-a.hidden.items c.declare.new.hidden.items (all_assign r c.args.ss.now last) (has c.args.ids.now) (has c.loop-a.ids) (has c.statement.new.ids) set
    c.in_ok-declare.ensures (c.in_ok-statement.ensures r agrees) h (λ s. c.loop-a.invariant r agrees last s)

pub statements-returns : goal.statements-returns
statements-returns t c = λ r agrees last set h.
    c.loop-a.invariant r agrees last set
    (subst (λ ss. Adds (all_assign r ss last) (has c.loop-a.ids) set) (sym (drop_all c.loop-a.a-index c.args.ss.now (omega arith))) h)
