use Rattle.std.proofs.Common.{refl}
use Rattle.zir_names.proofs.Told.{told_err}
use Rattle.zir_names.proofs.ExpressionEquations.{expr-Unary, expr-Binary, expr-Index, expr-Slice, expr-Part, expr-Convert, expr-Complex, expr-Call, expr-Array}
use Rattle.zir_names.proofs.expression.+expressions.Goals as goal

pub resolve_expr-returns-in_err-inner-in-Unary : goal.resolve_expr-returns-in_err-inner-in-Unary
resolve_expr-returns-in_err-inner-in-Unary t c =
    rw (c.in-Unary.is, expr-Unary) (told_err _ _ _ _ c.from_residual-in_err-inner-in-Unary.ensures.1 (rw c.get.ensures at c.in_err-inner-in-Unary.ensures))

pub resolve_expr-returns-in_ok-inner-in-Unary : goal.resolve_expr-returns-in_ok-inner-in-Unary
resolve_expr-returns-in_ok-inner-in-Unary t c =
    rw (c.in-Unary.is, expr-Unary, (rw c.get.ensures at c.in_ok-inner-in-Unary.ensures)) refl

pub resolve_expr-returns-in_err-a-in-Binary : goal.resolve_expr-returns-in_err-a-in-Binary
resolve_expr-returns-in_err-a-in-Binary t c =
    rw (c.in-Binary.is, expr-Binary) (told_err _ _ _ _ c.from_residual-in_err-a-in-Binary.ensures.1 (rw c.get-in-Binary.ensures at c.in_err-a-in-Binary.ensures))

pub resolve_expr-returns-in_err-b-in-Binary : goal.resolve_expr-returns-in_err-b-in-Binary
resolve_expr-returns-in_err-b-in-Binary t c =
    rw (c.in-Binary.is, expr-Binary, (rw c.get-in-Binary.ensures at c.in_ok-a-in-Binary.ensures)) (told_err _ _ _ _ c.from_residual-in_err-b-in-Binary.ensures.1 (rw c.get-in-Binary-2.ensures at c.in_err-b-in-Binary.ensures))

pub resolve_expr-returns-in_ok-b-in-Binary : goal.resolve_expr-returns-in_ok-b-in-Binary
resolve_expr-returns-in_ok-b-in-Binary t c =
    rw (c.in-Binary.is, expr-Binary, (rw c.get-in-Binary.ensures at c.in_ok-a-in-Binary.ensures), (rw c.get-in-Binary-2.ensures at c.in_ok-b-in-Binary.ensures)) refl

pub resolve_expr-returns-in_err-a-in-Index : goal.resolve_expr-returns-in_err-a-in-Index
resolve_expr-returns-in_err-a-in-Index t c =
    rw (c.in-Index.is, expr-Index) (told_err _ _ _ _ c.from_residual-in_err-a-in-Index.ensures.1 (rw c.get-in-Index.ensures at c.in_err-a-in-Index.ensures))

pub resolve_expr-returns-in_err-i-in-Index : goal.resolve_expr-returns-in_err-i-in-Index
resolve_expr-returns-in_err-i-in-Index t c =
    rw (c.in-Index.is, expr-Index, (rw c.get-in-Index.ensures at c.in_ok-a-in-Index.ensures)) (told_err _ _ _ _ c.from_residual-in_err-i-in-Index.ensures.1 (rw c.get-in-Index-2.ensures at c.in_err-i-in-Index.ensures))

pub resolve_expr-returns-in_ok-i-in-Index : goal.resolve_expr-returns-in_ok-i-in-Index
resolve_expr-returns-in_ok-i-in-Index t c =
    rw (c.in-Index.is, expr-Index, (rw c.get-in-Index.ensures at c.in_ok-a-in-Index.ensures), (rw c.get-in-Index-2.ensures at c.in_ok-i-in-Index.ensures)) refl

pub resolve_expr-returns-in_err-a-in-Slice : goal.resolve_expr-returns-in_err-a-in-Slice
resolve_expr-returns-in_err-a-in-Slice t c =
    rw (c.in-Slice.is, expr-Slice) (told_err _ _ _ _ c.from_residual-in_err-a-in-Slice.ensures.1 (rw c.get-in-Slice.ensures at c.in_err-a-in-Slice.ensures))

pub resolve_expr-returns-in_err-i-in-Slice : goal.resolve_expr-returns-in_err-i-in-Slice
resolve_expr-returns-in_err-i-in-Slice t c =
    rw (c.in-Slice.is, expr-Slice, (rw c.get-in-Slice.ensures at c.in_ok-a-in-Slice.ensures)) (told_err _ _ _ _ c.from_residual-in_err-i-in-Slice.ensures.1 (rw c.get-in-Slice-2.ensures at c.in_err-i-in-Slice.ensures))

pub resolve_expr-returns-in_ok-i-in-Slice : goal.resolve_expr-returns-in_ok-i-in-Slice
resolve_expr-returns-in_ok-i-in-Slice t c =
    rw (c.in-Slice.is, expr-Slice, (rw c.get-in-Slice.ensures at c.in_ok-a-in-Slice.ensures), (rw c.get-in-Slice-2.ensures at c.in_ok-i-in-Slice.ensures)) refl

pub resolve_expr-returns-in_err-inner-in-Convert : goal.resolve_expr-returns-in_err-inner-in-Convert
resolve_expr-returns-in_err-inner-in-Convert t c =
    rw (c.in-Convert.is, expr-Convert) (told_err _ _ _ _ c.from_residual-in_err-inner-in-Convert.ensures.1 (rw c.get-in-Convert.ensures at c.in_err-inner-in-Convert.ensures))

pub resolve_expr-returns-in_ok-inner-in-Convert : goal.resolve_expr-returns-in_ok-inner-in-Convert
resolve_expr-returns-in_ok-inner-in-Convert t c =
    rw (c.in-Convert.is, expr-Convert, (rw c.get-in-Convert.ensures at c.in_ok-inner-in-Convert.ensures)) refl

pub resolve_expr-returns-in_err-a-in-Complex : goal.resolve_expr-returns-in_err-a-in-Complex
resolve_expr-returns-in_err-a-in-Complex t c =
    rw (c.in-Complex.is, expr-Complex) (told_err _ _ _ _ c.from_residual-in_err-a-in-Complex.ensures.1 (rw c.get-in-Complex.ensures at c.in_err-a-in-Complex.ensures))

pub resolve_expr-returns-in_err-b-in-Complex : goal.resolve_expr-returns-in_err-b-in-Complex
resolve_expr-returns-in_err-b-in-Complex t c =
    rw (c.in-Complex.is, expr-Complex, (rw c.get-in-Complex.ensures at c.in_ok-a-in-Complex.ensures)) (told_err _ _ _ _ c.from_residual-in_err-b-in-Complex.ensures.1 (rw c.get-in-Complex-2.ensures at c.in_err-b-in-Complex.ensures))

pub resolve_expr-returns-in_ok-b-in-Complex : goal.resolve_expr-returns-in_ok-b-in-Complex
resolve_expr-returns-in_ok-b-in-Complex t c =
    rw (c.in-Complex.is, expr-Complex, (rw c.get-in-Complex.ensures at c.in_ok-a-in-Complex.ensures), (rw c.get-in-Complex-2.ensures at c.in_ok-b-in-Complex.ensures)) refl

pub resolve_expr-returns-in_err-inner-in-Part : goal.resolve_expr-returns-in_err-inner-in-Part
resolve_expr-returns-in_err-inner-in-Part t c =
    rw (c.in-Part.is, expr-Part) (told_err _ _ _ _ c.from_residual-in_err-inner-in-Part.ensures.1 (rw c.get-in-Part.ensures at c.in_err-inner-in-Part.ensures))

pub resolve_expr-returns-in_ok-field-in-Part : goal.resolve_expr-returns-in_ok-field-in-Part
resolve_expr-returns-in_ok-field-in-Part t c =
    rw (c.in-Part.is, expr-Part, (rw c.get-in-Part.ensures at c.in_ok-inner-in-Part.ensures), c.in_ok-field-in-Part.ensures, c.as_slice.ensures) refl

pub resolve_expr-returns-in_err-args-in-Call : goal.resolve_expr-returns-in_err-args-in-Call
resolve_expr-returns-in_err-args-in-Call t c =
    rw (c.in-Call.is, expr-Call, c.in_ok-f-in-Call.ensures) (told_err _ _ _ _ c.from_residual-in_err-args-in-Call.ensures.1 (rw c.as_slice-in-Call.ensures at c.in_err-args-in-Call.ensures))

pub resolve_expr-returns-in_ok-args-in-Call : goal.resolve_expr-returns-in_ok-args-in-Call
resolve_expr-returns-in_ok-args-in-Call t c =
    rw (c.in-Call.is, expr-Call, c.in_ok-f-in-Call.ensures, (rw c.as_slice-in-Call.ensures at c.in_ok-args-in-Call.ensures)) refl

pub resolve_expr-returns-in_err-parts-in-Array : goal.resolve_expr-returns-in_err-parts-in-Array
resolve_expr-returns-in_err-parts-in-Array t c =
    rw (c.in-Array.is, expr-Array) (told_err _ _ _ _ c.from_residual-in_err-parts-in-Array.ensures.1 (rw c.as_slice-in-Array.ensures at c.in_err-parts-in-Array.ensures))

pub resolve_expr-returns-in_ok-parts-in-Array : goal.resolve_expr-returns-in_ok-parts-in-Array
resolve_expr-returns-in_ok-parts-in-Array t c =
    rw (c.in-Array.is, expr-Array, (rw c.as_slice-in-Array.ensures at c.in_ok-parts-in-Array.ensures)) refl
