use Rattle.std.proofs.Common.{◌∙◌, ap, sym, refl, arith, subst}
use Rattle.std.proofs.lemmas.List.{drop_all}
use Rattle.zir_meaning.specs.Assigned.{expr_assigns, exprs_assign, callee_assigns}
use Rattle.zir_assigned.specs.Sets.{Adds, has}
use Rattle.zir_assigned.proofs.Covering.{adds_none, adds_item, one_part, two_parts}
use Rattle.zir_assigned.proofs.Forms.{expr-Unary, expr-Binary, expr-Index, expr-Slice, expr-Part, expr-Call, expr-Array, expr-Convert, expr-Complex}
use Rattle.zir_assigned.proofs.assigned.Assigned.+expressions.Goals as goal

pub expression-returns-in-Unary : goal.expression-returns-in-Unary
expression-returns-in-Unary t c = λ r agrees.
    one_part c.expression.result _ (expr_assigns r c.in-Unary.a) (has c.args.ids.now) (has c.expression.new.ids)
    (ap (expr_assigns r) c.in-Unary.is ∙ expr-Unary r c.in-Unary.field-0 c.in-Unary.field-1 c.in-Unary.a c.in-Unary.field-3)
    (rw c.get.ensures at (c.expression.ensures r agrees))

pub expression-returns-in_ok-expression-in-Binary : goal.expression-returns-in_ok-expression-in-Binary
expression-returns-in_ok-expression-in-Binary t c = λ r agrees.
    two_parts c.expression-in-Binary-2.result _ (expr_assigns r c.in-Binary.a) (expr_assigns r c.in-Binary.b) (has c.args.ids.now) (has c.expression-in-Binary.new.ids) (has c.expression-in-Binary-2.new.ids)
    (ap (expr_assigns r) c.in-Binary.is ∙ expr-Binary r c.in-Binary.field-0 c.in-Binary.field-1 c.in-Binary.a c.in-Binary.b c.in-Binary.field-4)
    (rw c.get-in-Binary.ensures at (c.in_ok-expression-in-Binary.ensures r agrees)) (rw c.get-in-Binary-2.ensures at (c.expression-in-Binary-2.ensures r agrees))

pub expression-returns-in_ok-expression-in-Index : goal.expression-returns-in_ok-expression-in-Index
expression-returns-in_ok-expression-in-Index t c = λ r agrees.
    two_parts c.expression-in-Index-2.result _ (expr_assigns r c.in-Index.a) (expr_assigns r c.in-Index.i) (has c.args.ids.now) (has c.expression-in-Index.new.ids) (has c.expression-in-Index-2.new.ids)
    (ap (expr_assigns r) c.in-Index.is ∙ expr-Index r c.in-Index.a c.in-Index.i c.in-Index.field-2)
    (rw c.get-in-Index.ensures at (c.in_ok-expression-in-Index.ensures r agrees)) (rw c.get-in-Index-2.ensures at (c.expression-in-Index-2.ensures r agrees))

pub expression-returns-in_ok-expression-in-Slice : goal.expression-returns-in_ok-expression-in-Slice
expression-returns-in_ok-expression-in-Slice t c = λ r agrees.
    two_parts c.expression-in-Slice-2.result _ (expr_assigns r c.in-Slice.a) (expr_assigns r c.in-Slice.i) (has c.args.ids.now) (has c.expression-in-Slice.new.ids) (has c.expression-in-Slice-2.new.ids)
    (ap (expr_assigns r) c.in-Slice.is ∙ expr-Slice r c.in-Slice.a c.in-Slice.i c.in-Slice.field-2 c.in-Slice.field-3)
    (rw c.get-in-Slice.ensures at (c.in_ok-expression-in-Slice.ensures r agrees)) (rw c.get-in-Slice-2.ensures at (c.expression-in-Slice-2.ensures r agrees))

pub expression-returns-in-Part : goal.expression-returns-in-Part
expression-returns-in-Part t c = λ r agrees.
    one_part c.expression-in-Part.result _ (expr_assigns r c.in-Part.a) (has c.args.ids.now) (has c.expression-in-Part.new.ids)
    (ap (expr_assigns r) c.in-Part.is ∙ expr-Part r c.in-Part.a c.in-Part.field-1 c.in-Part.field-2 c.in-Part.field-3)
    (rw c.get-in-Part.ensures at (c.expression-in-Part.ensures r agrees))

pub expression-returns-in_ok-expressions-in-Call : goal.expression-returns-in_ok-expressions-in-Call
expression-returns-in_ok-expressions-in-Call t c = λ r agrees.
    two_parts c.callee.result _ (exprs_assign r c.in-Call.es) (callee_assigns r c.in-Call.callee) (has c.args.ids.now) (has c.expressions.new.ids) (has c.callee.new.ids)
    (ap (expr_assigns r) c.in-Call.is ∙ expr-Call r c.in-Call.field-0 c.in-Call.callee c.in-Call.es)
    (rw c.as_slice.ensures at (c.in_ok-expressions-in-Call.ensures r agrees)) (c.callee.ensures r agrees)

pub expression-returns-in-Array : goal.expression-returns-in-Array
expression-returns-in-Array t c = λ r agrees.
    one_part c.expressions-in-Array.result _ (exprs_assign r c.in-Array.es) (has c.args.ids.now) (has c.expressions-in-Array.new.ids)
    (ap (expr_assigns r) c.in-Array.is ∙ expr-Array r c.in-Array.es c.in-Array.field-1)
    (rw c.as_slice-in-Array.ensures at (c.expressions-in-Array.ensures r agrees))

pub expression-returns-in-Convert : goal.expression-returns-in-Convert
expression-returns-in-Convert t c = λ r agrees.
    one_part c.expression-in-Convert.result _ (expr_assigns r c.in-Convert.a) (has c.args.ids.now) (has c.expression-in-Convert.new.ids)
    (ap (expr_assigns r) c.in-Convert.is ∙ expr-Convert r c.in-Convert.field-0 c.in-Convert.a c.in-Convert.field-2)
    (rw c.get-in-Convert.ensures at (c.expression-in-Convert.ensures r agrees))

pub expression-returns-in_ok-expression-in-Complex : goal.expression-returns-in_ok-expression-in-Complex
expression-returns-in_ok-expression-in-Complex t c = λ r agrees.
    two_parts c.expression-in-Complex-2.result _ (expr_assigns r c.in-Complex.a) (expr_assigns r c.in-Complex.b) (has c.args.ids.now) (has c.expression-in-Complex.new.ids) (has c.expression-in-Complex-2.new.ids)
    (ap (expr_assigns r) c.in-Complex.is ∙ expr-Complex r c.in-Complex.field-0 c.in-Complex.a c.in-Complex.b c.in-Complex.field-3)
    (rw c.get-in-Complex.ensures at (c.in_ok-expression-in-Complex.ensures r agrees)) (rw c.get-in-Complex-2.ensures at (c.expression-in-Complex-2.ensures r agrees))

pub expressions-loop-e-preserved : goal.expressions-loop-e-preserved
expressions-loop-e-preserved t c = λ r agrees set h.
    c.loop-e.invariant r agrees set (adds_item (expr_assigns r) (exprs_assign r) (λ x xs. refl) c.args.es.now c.loop-e.e-index c.e-item.result (omega arith) c.e-item.is
    (has c.loop-e.ids) (has c.expression.new.ids) set (c.in_ok-expression.ensures r agrees) h)

pub expressions-returns : goal.expressions-returns
expressions-returns t c = λ r agrees.
    c.loop-e.invariant r agrees (has c.loop-e.ids)
    (subst (λ es. Adds (exprs_assign r es) (has c.loop-e.ids) (has c.loop-e.ids)) (sym (drop_all c.loop-e.e-index c.args.es.now (omega arith))) (adds_none (has c.loop-e.ids)))
