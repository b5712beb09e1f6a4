use Rattle.std.proofs.Common.{◌∙◌, ap, sym, arith}
use Rattle.zir_names.specs.Touched.{both, all_of, call_of, in_expr}
use Rattle.zir_sharing.proofs.Touching.{one_part, two_parts, rest_step, expr-Unary, expr-Binary, expr-Index, expr-Slice, expr-Part, expr-Call, expr-Array, expr-Convert, expr-Complex}
use Rattle.zir_sharing.proofs.expression.+expressions.Goals as goal

pub touch_expr-returns-in-Unary : goal.touch_expr-returns-in-Unary
touch_expr-returns-in-Unary t c =
    one_part c.touch_expr.result (in_expr c.args.functions.now c.get.result.now) (in_expr c.args.functions.now c.args.e.now) c.args.touched.now c.touch_expr.new.touched (ap (in_expr c.args.functions.now) c.in-Unary.is ∙ expr-Unary c.args.functions.now c.in-Unary.field-0 c.in-Unary.field-1 c.in-Unary.inner c.in-Unary.field-3 ∙ ap (in_expr c.args.functions.now) (sym c.get.ensures)) c.touch_expr.ensures

pub touch_expr-returns-in_ok-touch_expr-in-Binary : goal.touch_expr-returns-in_ok-touch_expr-in-Binary
touch_expr-returns-in_ok-touch_expr-in-Binary t c =
    two_parts c.touch_expr-in-Binary-2.result (in_expr c.args.functions.now c.get-in-Binary.result.now) (in_expr c.args.functions.now c.get-in-Binary-2.result.now) (in_expr c.args.functions.now c.args.e.now) c.args.touched.now c.touch_expr-in-Binary.new.touched c.touch_expr-in-Binary-2.new.touched
    (ap (in_expr c.args.functions.now) c.in-Binary.is ∙ expr-Binary c.args.functions.now c.in-Binary.field-0 c.in-Binary.field-1 c.in-Binary.a c.in-Binary.b c.in-Binary.field-4 ∙ ap (λ x. both (in_expr c.args.functions.now x) (in_expr c.args.functions.now c.in-Binary.b)) (sym c.get-in-Binary.ensures) ∙ ap (λ x. both (in_expr c.args.functions.now c.get-in-Binary.result.now) (in_expr c.args.functions.now x)) (sym c.get-in-Binary-2.ensures))
    c.in_ok-touch_expr-in-Binary.ensures c.touch_expr-in-Binary-2.ensures

pub touch_expr-returns-in_ok-touch_expr-in-Index : goal.touch_expr-returns-in_ok-touch_expr-in-Index
touch_expr-returns-in_ok-touch_expr-in-Index t c =
    two_parts c.touch_expr-in-Index-2.result (in_expr c.args.functions.now c.get-in-Index.result.now) (in_expr c.args.functions.now c.get-in-Index-2.result.now) (in_expr c.args.functions.now c.args.e.now) c.args.touched.now c.touch_expr-in-Index.new.touched c.touch_expr-in-Index-2.new.touched
    (ap (in_expr c.args.functions.now) c.in-Index.is ∙ expr-Index c.args.functions.now c.in-Index.a c.in-Index.i c.in-Index.field-2 ∙ ap (λ x. both (in_expr c.args.functions.now x) (in_expr c.args.functions.now c.in-Index.i)) (sym c.get-in-Index.ensures) ∙ ap (λ x. both (in_expr c.args.functions.now c.get-in-Index.result.now) (in_expr c.args.functions.now x)) (sym c.get-in-Index-2.ensures))
    c.in_ok-touch_expr-in-Index.ensures c.touch_expr-in-Index-2.ensures

pub touch_expr-returns-in_ok-touch_expr-in-Slice : goal.touch_expr-returns-in_ok-touch_expr-in-Slice
touch_expr-returns-in_ok-touch_expr-in-Slice t c =
    two_parts c.touch_expr-in-Slice-2.result (in_expr c.args.functions.now c.get-in-Slice.result.now) (in_expr c.args.functions.now c.get-in-Slice-2.result.now) (in_expr c.args.functions.now c.args.e.now) c.args.touched.now c.touch_expr-in-Slice.new.touched c.touch_expr-in-Slice-2.new.touched
    (ap (in_expr c.args.functions.now) c.in-Slice.is ∙ expr-Slice c.args.functions.now c.in-Slice.a c.in-Slice.i c.in-Slice.field-2 c.in-Slice.field-3 ∙ ap (λ x. both (in_expr c.args.functions.now x) (in_expr c.args.functions.now c.in-Slice.i)) (sym c.get-in-Slice.ensures) ∙ ap (λ x. both (in_expr c.args.functions.now c.get-in-Slice.result.now) (in_expr c.args.functions.now x)) (sym c.get-in-Slice-2.ensures))
    c.in_ok-touch_expr-in-Slice.ensures c.touch_expr-in-Slice-2.ensures

pub touch_expr-returns-in-Part : goal.touch_expr-returns-in-Part
touch_expr-returns-in-Part t c =
    one_part c.touch_expr-in-Part.result (in_expr c.args.functions.now c.get-in-Part.result.now) (in_expr c.args.functions.now c.args.e.now) c.args.touched.now c.touch_expr-in-Part.new.touched (ap (in_expr c.args.functions.now) c.in-Part.is ∙ expr-Part c.args.functions.now c.in-Part.inner c.in-Part.field-1 c.in-Part.field-2 c.in-Part.field-3 ∙ ap (in_expr c.args.functions.now) (sym c.get-in-Part.ensures)) c.touch_expr-in-Part.ensures

pub touch_expr-returns-in_ok-touch_call-in-Call : goal.touch_expr-returns-in_ok-touch_call-in-Call
touch_expr-returns-in_ok-touch_call-in-Call t c =
    two_parts c.touch_exprs.result (call_of c.args.functions.now c.in-Call.f.id) (all_of (in_expr c.args.functions.now) c.as_slice.result.now) (in_expr c.args.functions.now c.args.e.now) c.args.touched.now c.touch_call.new.touched c.touch_exprs.new.touched
    (ap (in_expr c.args.functions.now) c.in-Call.is ∙ expr-Call c.args.functions.now c.in-Call.f c.in-Call.field-1 c.in-Call.args ∙ ap (λ x. both (call_of c.args.functions.now c.in-Call.f.id) (all_of (in_expr c.args.functions.now) x)) (sym c.as_slice.ensures))
    c.in_ok-touch_call-in-Call.ensures c.touch_exprs.ensures

pub touch_expr-returns-in-Array : goal.touch_expr-returns-in-Array
touch_expr-returns-in-Array t c =
    one_part c.touch_exprs-in-Array.result (all_of (in_expr c.args.functions.now) c.as_slice-in-Array.result.now) (in_expr c.args.functions.now c.args.e.now) c.args.touched.now c.touch_exprs-in-Array.new.touched
    (ap (in_expr c.args.functions.now) c.in-Array.is ∙ expr-Array c.args.functions.now c.in-Array.parts c.in-Array.field-1 ∙ ap (all_of (in_expr c.args.functions.now)) (sym c.as_slice-in-Array.ensures)) c.touch_exprs-in-Array.ensures

pub touch_expr-returns-in-Convert : goal.touch_expr-returns-in-Convert
touch_expr-returns-in-Convert t c =
    one_part c.touch_expr-in-Convert.result (in_expr c.args.functions.now c.get-in-Convert.result.now) (in_expr c.args.functions.now c.args.e.now) c.args.touched.now c.touch_expr-in-Convert.new.touched (ap (in_expr c.args.functions.now) c.in-Convert.is ∙ expr-Convert c.args.functions.now c.in-Convert.field-0 c.in-Convert.inner c.in-Convert.field-2 ∙ ap (in_expr c.args.functions.now) (sym c.get-in-Convert.ensures)) c.touch_expr-in-Convert.ensures

pub touch_expr-returns-in_ok-touch_expr-in-Complex : goal.touch_expr-returns-in_ok-touch_expr-in-Complex
touch_expr-returns-in_ok-touch_expr-in-Complex t c =
    two_parts c.touch_expr-in-Complex-2.result (in_expr c.args.functions.now c.get-in-Complex.result.now) (in_expr c.args.functions.now c.get-in-Complex-2.result.now) (in_expr c.args.functions.now c.args.e.now) c.args.touched.now c.touch_expr-in-Complex.new.touched c.touch_expr-in-Complex-2.new.touched
    (ap (in_expr c.args.functions.now) c.in-Complex.is ∙ expr-Complex c.args.functions.now c.in-Complex.field-0 c.in-Complex.a c.in-Complex.b c.in-Complex.field-3 ∙ ap (λ x. both (in_expr c.args.functions.now x) (in_expr c.args.functions.now c.in-Complex.b)) (sym c.get-in-Complex.ensures) ∙ ap (λ x. both (in_expr c.args.functions.now c.get-in-Complex.result.now) (in_expr c.args.functions.now x)) (sym c.get-in-Complex-2.ensures))
    c.in_ok-touch_expr-in-Complex.ensures c.touch_expr-in-Complex-2.ensures

pub touch_exprs-loop-e-preserved : goal.touch_exprs-loop-e-preserved
touch_exprs-loop-e-preserved t c =
    rest_step (in_expr c.args.functions.now) c.args.es.now c.loop-e.e-index c.e-item.result (both (all_of (in_expr c.args.functions.now) c.args.es.now) c.args.touched.now) c.loop-e.touched c.touch_expr.new.touched
    (omega arith) c.e-item.is c.loop-e.invariant c.in_ok-touch_expr.ensures
