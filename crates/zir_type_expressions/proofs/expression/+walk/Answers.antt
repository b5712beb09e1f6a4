use Rattle.std.proofs.Common.{sym, ◌∙◌, ◌&&◌, ap, refl}
use Rattle.zir_types.specs.Walk.{Fine}
use Rattle.zir_types.specs.Wants.{asked_ty}
use Rattle.zir_types.specs.Scope.{called_in}
use Rattle.zir_types.specs.Expressions.{Alike, expr, args_of, no_args, call, unary, kept, signs, is_literal, joined, indexed, sliced, paired, selected, converted, prefixed, element_asked, gathered}
use Rattle.zir_types.proofs.Told.{told_err}
use Rattle.zir_types.proofs.Fine.{same_fine}
use Rattle.zir_types.proofs.Equations.{expr-Unary, expr-Index, expr-Slice, expr-Part, expr-Convert, expr-Complex, expr-Array, expr-Call}
use Rattle.zir_type_expressions.proofs.Steps.{one_err, one_ok, told_as, told_ok, expr_err, expr_ok, shifted, shifted_args, right_walk, left_walk}
use Rattle.zir_type_expressions.proofs.expression.+walk.Goals as goal

pub type_unary-returns-in-Some : goal.type_unary-returns-in-Some
type_unary-returns-in-Some t c =
    c.in-Some.ensures _

pub type_unary-returns-in_err-t-in-None : goal.type_unary-returns-in_err-t-in-None
type_unary-returns-in_err-t-in-None t c =
    told_as _ _ _ (ap (λ q. unary q c.args.op (asked_ty c.args.want) c.args.at (expr c.args.scope.now (kept (signs c.args.op && is_literal c.args.inner.now) (asked_ty c.args.want)) c.args.inner.now)) c.in-None.ensures)
    (expr_err c.args.scope.now _ _ c.args.inner.now (prefixed c.args.op c.args.at) _ _ c.operand_asked.ensures c.from_residual.ensures.1 c.in_err-t-in-None.ensures)

pub type_unary-returns-in_ok-t-in-None : goal.type_unary-returns-in_ok-t-in-None
type_unary-returns-in_ok-t-in-None t c =
    told_as _ _ _ (ap (λ q. unary q c.args.op (asked_ty c.args.want) c.args.at (expr c.args.scope.now (kept (signs c.args.op && is_literal c.args.inner.now) (asked_ty c.args.want)) c.args.inner.now)) c.in-None.ensures)
    (expr_ok c.args.scope.now _ _ c.args.inner.now (prefixed c.args.op c.args.at) _ _ c.operand_asked.ensures c.in_ok-t-in-None.ensures c.prefixed.ensures)

pub type_left-returns-in_err-s : goal.type_left-returns-in_err-s
type_left-returns-in_err-s t c =
    expr_err c.args.scope.now _ _ c.args.a.now (λ s. joined c.args.op c.args.at s c.args.t) _ _ c.lent.ensures c.from_residual.ensures.1 c.in_err-s.ensures

pub type_left-returns : goal.type_left-returns
type_left-returns t c =
    expr_ok c.args.scope.now _ _ c.args.a.now (λ s. joined c.args.op c.args.at s c.args.t) _ _ c.lent.ensures c.in_ok-s.ensures c.joined.ensures

pub type_index-returns-in_err-t : goal.type_index-returns-in_err-t
type_index-returns-in_err-t t c =
    expr_err c.args.scope.now _ _ c.args.i.now (indexed c.args.at c.args.s) _ _ c.unasked.ensures c.from_residual.ensures.1 c.in_err-t.ensures

pub type_index-returns : goal.type_index-returns
type_index-returns t c =
    expr_ok c.args.scope.now _ _ c.args.i.now (indexed c.args.at c.args.s) _ _ c.unasked.ensures c.in_ok-t.ensures c.indexed.ensures

pub type_slice-returns-in_err-t : goal.type_slice-returns-in_err-t
type_slice-returns-in_err-t t c =
    expr_err c.args.scope.now _ _ c.args.i.now (sliced c.args.count c.args.at c.args.s) _ _ c.unasked.ensures c.from_residual.ensures.1 c.in_err-t.ensures

pub type_slice-returns : goal.type_slice-returns
type_slice-returns t c =
    expr_ok c.args.scope.now _ _ c.args.i.now (sliced c.args.count c.args.at c.args.s) _ _ c.unasked.ensures c.in_ok-t.ensures c.sliced.ensures

pub type_imaginary-returns-in_err-t : goal.type_imaginary-returns-in_err-t
type_imaginary-returns-in_err-t t c =
    expr_err c.args.scope.now _ _ c.args.y.now (paired c.args.to c.args.at c.args.s) _ _ c.unasked.ensures c.from_residual.ensures.1 c.in_err-t.ensures

pub type_imaginary-returns : goal.type_imaginary-returns
type_imaginary-returns t c =
    expr_ok c.args.scope.now _ _ c.args.y.now (paired c.args.to c.args.at c.args.s) _ _ c.unasked.ensures c.in_ok-t.ensures c.paired.ensures

pub type_right-returns-in_err-t : goal.type_right-returns-in_err-t
type_right-returns-in_err-t t c =
    expr_err c.args.scope.now (asked_ty c.args.want) (asked_ty c.args.want) c.args.b.now (joined c.args.op c.args.at c.args.s) _ _ refl c.from_residual.ensures.1 c.in_err-t.ensures

pub type_right-returns : goal.type_right-returns
type_right-returns t c =
    expr_ok c.args.scope.now (asked_ty c.args.want) (asked_ty c.args.want) c.args.b.now (joined c.args.op c.args.at c.args.s) _ _ refl c.in_ok-t.ensures c.joined.ensures

pub type_part-returns-in_err-s : goal.type_part-returns-in_err-s
type_part-returns-in_err-s t c =
    expr_err c.args.scope.now _ _ c.args.a.now (selected c.args.scope.now c.args.name.now c.args.at) _ _ c.unasked.ensures c.from_residual.ensures.1 c.in_err-s.ensures

pub type_part-returns : goal.type_part-returns
type_part-returns t c =
    expr_ok c.args.scope.now _ _ c.args.a.now (selected c.args.scope.now c.args.name.now c.args.at) _ _ c.unasked.ensures c.in_ok-s.ensures c.selected.ensures

pub type_convert-returns-in_err-t : goal.type_convert-returns-in_err-t
type_convert-returns-in_err-t t c =
    expr_err c.args.scope.now _ _ c.args.inner.now (converted c.args.to c.args.at) _ _ c.wanted_base.ensures c.from_residual.ensures.1 c.in_err-t.ensures

pub type_convert-returns : goal.type_convert-returns
type_convert-returns t c =
    expr_ok c.args.scope.now _ _ c.args.inner.now (converted c.args.to c.args.at) _ _ c.wanted_base.ensures c.in_ok-t.ensures c.converted.ensures

pub type_array-returns-in_err-ts : goal.type_array-returns-in_err-ts
type_array-returns-in_err-ts t c =
    shifted_args c.args.scope.now (Alike (asked_ty c.element_asked.result)) (Alike (element_asked (asked_ty c.args.want))) c.args.parts.now c.args.parts.now (gathered c.args.at) _
    (ap Alike c.element_asked.ensures) refl (told_err (args_of c.args.scope.now (Alike (asked_ty c.element_asked.result)) no_args c.args.parts.now) (gathered c.args.at) _ _ c.from_residual.ensures.1 c.in_err-ts.ensures)

pub type_array-returns : goal.type_array-returns
type_array-returns t c =
    shifted_args c.args.scope.now (Alike (asked_ty c.element_asked.result)) (Alike (element_asked (asked_ty c.args.want))) c.args.parts.now c.args.parts.now (gathered c.args.at) _
    (ap Alike c.element_asked.ensures) refl (told_ok (args_of c.args.scope.now (Alike (asked_ty c.element_asked.result)) no_args c.args.parts.now) (gathered c.args.at) _ _ c.in_ok-ts.ensures c.gathered.ensures)

pub type_application-returns-in_err-called : goal.type_application-returns-in_err-called
type_application-returns-in_err-called t c =
    told_err (Fine (called_in c.args.scope.now c.args.f.now.id)) (λ q. call q c.args.f.now (λ asks. args_of c.args.scope.now asks no_args c.args.es.now)) _ _ c.from_residual.ensures.1 c.in_err-called.ensures

pub type_application-returns-in-None : goal.type_application-returns-in-None
type_application-returns-in-None t c =
    ap (λ q. call q c.args.f.now (λ asks. args_of c.args.scope.now asks no_args c.args.es.now)) (same_fine _ _ c.in_ok-called.ensures ∙ c.in-None.is)

pub type_application-returns-in_err-ts-in-Some : goal.type_application-returns-in_err-ts-in-Some
type_application-returns-in_err-ts-in-Some t c =
    told_as _ _ _ (ap (λ q. call q c.args.f.now (λ asks. args_of c.args.scope.now asks no_args c.args.es.now)) (same_fine _ _ c.in_ok-called.ensures ∙ c.in-Some.is)) (told_err _ _ _ _ c.from_residual-in_err-ts-in-Some.ensures.1 (rw c.as_slice.ensures at c.in_err-ts-in-Some.ensures))

pub type_application-returns-in_ok-ts-in-Some : goal.type_application-returns-in_ok-ts-in-Some
type_application-returns-in_ok-ts-in-Some t c =
    told_as _ _ _ (ap (λ q. call q c.args.f.now (λ asks. args_of c.args.scope.now asks no_args c.args.es.now)) (same_fine _ _ c.in_ok-called.ensures ∙ c.in-Some.is)) (told_ok _ _ _ _ (rw c.as_slice.ensures at c.in_ok-ts-in-Some.ensures) c.called-in-Some.ensures)

pub type_expr-returns-in-Unary : goal.type_expr-returns-in-Unary
type_expr-returns-in-Unary t c =
    rw c.in-Unary.is (told_as _ _ _ (expr-Unary c.args.scope.now (asked_ty c.args.want) c.in-Unary.op c.in-Unary.field-1 c.in-Unary.inner c.in-Unary.at) (rw c.get.ensures at c.type_unary.ensures))

pub type_expr-returns-in_err-t-in-Binary : goal.type_expr-returns-in_err-t-in-Binary
type_expr-returns-in_err-t-in-Binary t c =
    rw c.in-Binary.is (one_err _ _ _ _ _ _ _ _ _ (right_walk _ (asked_ty c.args.want) c.in-Binary.op c.in-Binary.field-1 c.in-Binary.a c.in-Binary.b _ _ c.in-Binary.at _ _ _ c.get-in-Binary.ensures c.get-in-Binary-2.ensures c.is_literal-left.ensures c.is_literal-right.ensures c.right_first.ensures c.if-right_first.true) c.unasked.ensures c.get-then-right_first.ensures c.from_residual.ensures.1 c.in_err-t-in-Binary.ensures)

pub type_expr-returns-then-right_first : goal.type_expr-returns-then-right_first
type_expr-returns-then-right_first t c =
    rw c.in-Binary.is (one_ok _ _ _ _ _ _ _ _ _ (right_walk _ (asked_ty c.args.want) c.in-Binary.op c.in-Binary.field-1 c.in-Binary.a c.in-Binary.b _ _ c.in-Binary.at _ _ _ c.get-in-Binary.ensures c.get-in-Binary-2.ensures c.is_literal-left.ensures c.is_literal-right.ensures c.right_first.ensures c.if-right_first.true) c.unasked.ensures c.get-then-right_first.ensures c.in_ok-t-in-Binary.ensures (rw c.get-then-right_first-2.ensures at c.type_left.ensures))

pub type_expr-returns-in_err-s-in-Binary : goal.type_expr-returns-in_err-s-in-Binary
type_expr-returns-in_err-s-in-Binary t c =
    rw c.in-Binary.is (one_err _ _ _ _ _ _ _ _ _ (left_walk _ (asked_ty c.args.want) c.in-Binary.op c.in-Binary.field-1 c.in-Binary.a c.in-Binary.b _ _ c.in-Binary.at _ _ _ c.get-in-Binary.ensures c.get-in-Binary-2.ensures c.is_literal-left.ensures c.is_literal-right.ensures c.right_first.ensures c.if-right_first.false) c.left_asked.ensures c.get-in-Binary-3.ensures c.from_residual-in_err-s-in-Binary.ensures.1 c.in_err-s-in-Binary.ensures)

pub type_expr-returns-in_ok-s-in-Binary : goal.type_expr-returns-in_ok-s-in-Binary
type_expr-returns-in_ok-s-in-Binary t c =
    rw c.in-Binary.is (one_ok _ _ _ _ _ _ _ _ _ (left_walk _ (asked_ty c.args.want) c.in-Binary.op c.in-Binary.field-1 c.in-Binary.a c.in-Binary.b _ _ c.in-Binary.at _ _ _ c.get-in-Binary.ensures c.get-in-Binary-2.ensures c.is_literal-left.ensures c.is_literal-right.ensures c.right_first.ensures c.if-right_first.false) c.left_asked.ensures c.get-in-Binary-3.ensures c.in_ok-s-in-Binary.ensures (shifted _ _ _ _ _ _ _ c.asked-beside.ensures c.get-in-Binary-4.ensures c.type_right.ensures))

pub type_expr-returns-in_err-s-in-Index : goal.type_expr-returns-in_err-s-in-Index
type_expr-returns-in_err-s-in-Index t c =
    rw c.in-Index.is (one_err _ _ _ _ _ _ _ _ _ (expr-Index _ (asked_ty c.args.want) c.in-Index.a c.in-Index.i c.in-Index.at) c.unasked-in-Index.ensures c.get-in-Index.ensures c.from_residual-in_err-s-in-Index.ensures.1 c.in_err-s-in-Index.ensures)

pub type_expr-returns-in_ok-s-in-Index : goal.type_expr-returns-in_ok-s-in-Index
type_expr-returns-in_ok-s-in-Index t c =
    rw c.in-Index.is (one_ok _ _ _ _ _ _ _ _ _ (expr-Index _ (asked_ty c.args.want) c.in-Index.a c.in-Index.i c.in-Index.at) c.unasked-in-Index.ensures c.get-in-Index.ensures c.in_ok-s-in-Index.ensures (rw c.get-in-Index-2.ensures at c.type_index.ensures))

pub type_expr-returns-in_err-s-in-Slice : goal.type_expr-returns-in_err-s-in-Slice
type_expr-returns-in_err-s-in-Slice t c =
    rw c.in-Slice.is (one_err _ _ _ _ _ _ _ _ _ (expr-Slice _ (asked_ty c.args.want) c.in-Slice.a c.in-Slice.i c.in-Slice.count c.in-Slice.at) c.unasked-in-Slice.ensures c.get-in-Slice.ensures c.from_residual-in_err-s-in-Slice.ensures.1 c.in_err-s-in-Slice.ensures)

pub type_expr-returns-in_ok-s-in-Slice : goal.type_expr-returns-in_ok-s-in-Slice
type_expr-returns-in_ok-s-in-Slice t c =
    rw c.in-Slice.is (one_ok _ _ _ _ _ _ _ _ _ (expr-Slice _ (asked_ty c.args.want) c.in-Slice.a c.in-Slice.i c.in-Slice.count c.in-Slice.at) c.unasked-in-Slice.ensures c.get-in-Slice.ensures c.in_ok-s-in-Slice.ensures (rw c.get-in-Slice-2.ensures at c.type_slice.ensures))

pub type_expr-returns-in_err-s-in-Complex : goal.type_expr-returns-in_err-s-in-Complex
type_expr-returns-in_err-s-in-Complex t c =
    rw c.in-Complex.is (one_err _ _ _ _ _ _ _ _ _ (expr-Complex _ (asked_ty c.args.want) c.in-Complex.to c.in-Complex.x c.in-Complex.y c.in-Complex.at) c.unasked-in-Complex.ensures c.get-in-Complex.ensures c.from_residual-in_err-s-in-Complex.ensures.1 c.in_err-s-in-Complex.ensures)

pub type_expr-returns-in_ok-s-in-Complex : goal.type_expr-returns-in_ok-s-in-Complex
type_expr-returns-in_ok-s-in-Complex t c =
    rw c.in-Complex.is (one_ok _ _ _ _ _ _ _ _ _ (expr-Complex _ (asked_ty c.args.want) c.in-Complex.to c.in-Complex.x c.in-Complex.y c.in-Complex.at) c.unasked-in-Complex.ensures c.get-in-Complex.ensures c.in_ok-s-in-Complex.ensures (rw c.get-in-Complex-2.ensures at c.type_imaginary.ensures))

pub type_expr-returns-in-Part : goal.type_expr-returns-in-Part
type_expr-returns-in-Part t c =
    rw c.in-Part.is (told_as _ _ _ (expr-Part c.args.scope.now (asked_ty c.args.want) c.in-Part.a c.in-Part.name c.in-Part.field-2 c.in-Part.at) (rw c.get-in-Part.ensures at c.type_part.ensures))

pub type_expr-returns-in-Call : goal.type_expr-returns-in-Call
type_expr-returns-in-Call t c =
    rw c.in-Call.is (told_as _ _ _ (expr-Call c.args.scope.now (asked_ty c.args.want) c.in-Call.f c.in-Call.field-1 c.in-Call.es) (rw c.as_slice.ensures at c.type_application.ensures))

pub type_expr-returns-in-Array : goal.type_expr-returns-in-Array
type_expr-returns-in-Array t c =
    rw c.in-Array.is (told_as _ _ _ (expr-Array c.args.scope.now (asked_ty c.args.want) c.in-Array.parts c.in-Array.at) (rw c.as_slice-in-Array.ensures at c.type_array.ensures))

pub type_expr-returns-in-Convert : goal.type_expr-returns-in-Convert
type_expr-returns-in-Convert t c =
    rw c.in-Convert.is (told_as _ _ _ (expr-Convert c.args.scope.now (asked_ty c.args.want) c.in-Convert.to c.in-Convert.inner c.in-Convert.at) (rw c.get-in-Convert.ensures at c.type_convert.ensures))

pub type_expr-returns-in-Unit : goal.type_expr-returns-in-Unit
type_expr-returns-in-Unit t c = rw c.in-Unit.is (ap Fine (sym c.constant.ensures))

pub type_expr-returns-in-Bit : goal.type_expr-returns-in-Bit
type_expr-returns-in-Bit t c = rw c.in-Bit.is (ap Fine (sym c.constant-in-Bit.ensures))

pub type_expr-returns-in-Bool : goal.type_expr-returns-in-Bool
type_expr-returns-in-Bool t c = rw c.in-Bool.is (ap Fine (sym c.constant-in-Bool.ensures))
