use Rattle.std.proofs.Common.{◌≡◌, ◌∙◌, ap, sym, ◌+◌}
use Rattle.zir_types.specs.Needs.{Needs, expr_need, exprs_need, call_need, counted}
use Rattle.zir_limits.specs.Facts.{told, needs_in}
use Rattle.zir_limits.proofs.ExpressionEquations.{need-Unary, need-Binary, need-Index, need-Slice, need-Part, need-Convert, need-Complex, need-Call, need-Array}
use Rattle.zir_limits.proofs.Rows.{of_greater}
use Rattle.zir_limits.proofs.need.+expressions.Goals as goal

pub expr_need-returns-in-Unary : goal.expr_need-returns-in-Unary
expr_need-returns-in-Unary t c =
    let n : Needs = needs_in (told c.args.facts.now) in
    c.expr_need.ensures ∙ ap (expr_need n) c.get.ensures ∙ sym (need-Unary n c.in-Unary.field-0 c.in-Unary.field-1 c.in-Unary.a c.in-Unary.field-3) ∙ ap (expr_need n) (sym c.in-Unary.is)

pub expr_need-returns-in-Binary : goal.expr_need-returns-in-Binary
expr_need-returns-in-Binary t c =
    let n : Needs = needs_in (told c.args.facts.now) in
    of_greater c.greater.ensures (c.expr_need-left.ensures ∙ ap (expr_need n) c.get-in-Binary.ensures) (c.expr_need-right.ensures ∙ ap (expr_need n) c.get-in-Binary-2.ensures)
    ∙ sym (need-Binary n c.in-Binary.field-0 c.in-Binary.field-1 c.in-Binary.a c.in-Binary.b c.in-Binary.field-4) ∙ ap (expr_need n) (sym c.in-Binary.is)

pub expr_need-returns-in-Index : goal.expr_need-returns-in-Index
expr_need-returns-in-Index t c =
    let n : Needs = needs_in (told c.args.facts.now) in
    of_greater c.greater-in-Index.ensures (c.expr_need-left-in-Index.ensures ∙ ap (expr_need n) c.get-in-Index.ensures) (c.expr_need-right-in-Index.ensures ∙ ap (expr_need n) c.get-in-Index-2.ensures)
    ∙ sym (need-Index n c.in-Index.a c.in-Index.i c.in-Index.field-2) ∙ ap (expr_need n) (sym c.in-Index.is)

pub expr_need-returns-in-Slice : goal.expr_need-returns-in-Slice
expr_need-returns-in-Slice t c =
    let n : Needs = needs_in (told c.args.facts.now) in
    of_greater c.greater-in-Slice.ensures (c.expr_need-left-in-Slice.ensures ∙ ap (expr_need n) c.get-in-Slice.ensures) (c.expr_need-right-in-Slice.ensures ∙ ap (expr_need n) c.get-in-Slice-2.ensures)
    ∙ sym (need-Slice n c.in-Slice.a c.in-Slice.i c.in-Slice.field-2 c.in-Slice.field-3) ∙ ap (expr_need n) (sym c.in-Slice.is)

pub expr_need-returns-in-Part : goal.expr_need-returns-in-Part
expr_need-returns-in-Part t c =
    let n : Needs = needs_in (told c.args.facts.now) in
    c.expr_need-in-Part.ensures ∙ ap (expr_need n) c.get-in-Part.ensures ∙ sym (need-Part n c.in-Part.a c.in-Part.field-1 c.in-Part.field-2 c.in-Part.field-3) ∙ ap (expr_need n) (sym c.in-Part.is)

pub expr_need-returns-in-Convert : goal.expr_need-returns-in-Convert
expr_need-returns-in-Convert t c =
    let n : Needs = needs_in (told c.args.facts.now) in
    c.expr_need-in-Convert.ensures ∙ ap (expr_need n) c.get-in-Convert.ensures ∙ sym (need-Convert n c.in-Convert.field-0 c.in-Convert.a c.in-Convert.field-2) ∙ ap (expr_need n) (sym c.in-Convert.is)

pub expr_need-returns-in-Complex : goal.expr_need-returns-in-Complex
expr_need-returns-in-Complex t c =
    let n : Needs = needs_in (told c.args.facts.now) in
    of_greater c.greater-in-Complex.ensures (c.expr_need-left-in-Complex.ensures ∙ ap (expr_need n) c.get-in-Complex.ensures) (c.expr_need-right-in-Complex.ensures ∙ ap (expr_need n) c.get-in-Complex-2.ensures)
    ∙ sym (need-Complex n c.in-Complex.field-0 c.in-Complex.a c.in-Complex.b c.in-Complex.field-3) ∙ ap (expr_need n) (sym c.in-Complex.is)

pub expr_need-returns-in-Call : goal.expr_need-returns-in-Call
expr_need-returns-in-Call t c =
    let n : Needs = needs_in (told c.args.facts.now) in
    c.counted.ensures ∙ ap (λ x. counted (x + c.call_need.result)) (c.exprs_need-arguments.ensures ∙ ap (exprs_need n) c.as_slice.ensures)
    ∙ ap (λ x. counted (exprs_need n c.in-Call.es + x)) c.call_need.ensures
    ∙ sym (need-Call n c.in-Call.field-0 c.in-Call.callee c.in-Call.es) ∙ ap (expr_need n) (sym c.in-Call.is)

pub expr_need-returns-in-Array : goal.expr_need-returns-in-Array
expr_need-returns-in-Array t c =
    let n : Needs = needs_in (told c.args.facts.now) in
    c.exprs_need.ensures ∙ ap (exprs_need n) c.as_slice-in-Array.ensures
    ∙ sym (need-Array n c.in-Array.es c.in-Array.field-1) ∙ ap (expr_need n) (sym c.in-Array.is)
