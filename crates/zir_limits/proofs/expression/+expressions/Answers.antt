use Rattle.std.proofs.Common.{◌≡◌, ◌∙◌, ap, sym, List, [], ◌∷◌, ◌++◌, ◌+◌, ◌-◌, ◌*◌, ℕ, drop, take, length}
use Rattle.zir_tree.specs.declared.expr.Expr.{Expr, Array}
use Rattle.zir_types.specs.Scope.{Visible, capped, cells_in}
use Rattle.zir_types.specs.Known.{type_of}
use Rattle.zir_types.specs.Measures.{Measure, Spans, Holds, in_expr, in_exprs, in_callee}
use Rattle.zir_limits.specs.Facts.{told, sight}
use Rattle.zir_limits.specs.Lists.{array_ty, first_ty}
use Rattle.zir_limits.specs.Notes.{noted}
use Rattle.zir_limits.proofs.Noted.{carried, carried_two, noted_two, noted_next, noted-none, noted-late}
use Rattle.zir_limits.proofs.Rows.{at_place, no_more, first-behind, first_type, same_answer}
use Rattle.zir_limits.proofs.ExpressionEquations.{in-Unary, in-Binary, in-Index, in-Slice, in-Part, in-Convert, in-Complex, in-Call, in-Literal, type-Array}
use Rattle.zir_limits.proofs.expression.+expressions.Goals as goal

pub note_expr-returns-in-Unit : goal.note_expr-returns-in-Unit
note_expr-returns-in-Unit t c =
    let g : Visible = sight (told c.args.facts.now) c.args.scope.now in
    sym (noted-none c.args.notes.now) ∙ ap (λ x. noted (in_expr g x) c.args.notes.now) (sym c.in-Unit.is)

pub note_expr-returns-in-Bit : goal.note_expr-returns-in-Bit
note_expr-returns-in-Bit t c =
    let g : Visible = sight (told c.args.facts.now) c.args.scope.now in
    sym (noted-none c.args.notes.now) ∙ ap (λ x. noted (in_expr g x) c.args.notes.now) (sym c.in-Bit.is)

pub note_expr-returns-in-Bool : goal.note_expr-returns-in-Bool
note_expr-returns-in-Bool t c =
    let g : Visible = sight (told c.args.facts.now) c.args.scope.now in
    sym (noted-none c.args.notes.now) ∙ ap (λ x. noted (in_expr g x) c.args.notes.now) (sym c.in-Bool.is)

pub note_expr-returns-in-Int : goal.note_expr-returns-in-Int
note_expr-returns-in-Int t c =
    let g : Visible = sight (told c.args.facts.now) c.args.scope.now in
    sym (noted-none c.args.notes.now) ∙ ap (λ x. noted (in_expr g x) c.args.notes.now) (sym c.in-Int.is)

pub note_expr-returns-in-Variable : goal.note_expr-returns-in-Variable
note_expr-returns-in-Variable t c =
    let g : Visible = sight (told c.args.facts.now) c.args.scope.now in
    sym (noted-none c.args.notes.now) ∙ ap (λ x. noted (in_expr g x) c.args.notes.now) (sym c.in-Variable.is)

pub note_expr-returns-in-Unary : goal.note_expr-returns-in-Unary
note_expr-returns-in-Unary t c =
    let g : Visible = sight (told c.args.facts.now) c.args.scope.now in
    carried c.note_expr.result (in_expr g c.args.e.now) (in_expr g c.get.result.now) c.args.notes.now c.note_expr.new.notes
    (ap (in_expr g) c.in-Unary.is ∙ in-Unary g c.in-Unary.field-0 c.in-Unary.field-1 c.in-Unary.a c.in-Unary.field-3 ∙ ap (in_expr g) (sym c.get.ensures)) c.note_expr.ensures

pub note_expr-returns-in_ok-note_expr-in-Binary : goal.note_expr-returns-in_ok-note_expr-in-Binary
note_expr-returns-in_ok-note_expr-in-Binary t c =
    let g : Visible = sight (told c.args.facts.now) c.args.scope.now in
    carried_two c.note_expr-in-Binary-2.result (in_expr g c.args.e.now) (in_expr g c.get-in-Binary.result.now) (in_expr g c.get-in-Binary-2.result.now)
    c.args.notes.now c.note_expr-in-Binary.new.notes c.note_expr-in-Binary-2.new.notes
    (ap (in_expr g) c.in-Binary.is ∙ in-Binary g c.in-Binary.field-0 c.in-Binary.field-1 c.in-Binary.a c.in-Binary.b c.in-Binary.field-4
    ∙ ap (λ x. in_expr g x ++ in_expr g c.in-Binary.b) (sym c.get-in-Binary.ensures)
    ∙ ap (λ x. in_expr g c.get-in-Binary.result.now ++ in_expr g x) (sym c.get-in-Binary-2.ensures))
    c.in_ok-note_expr-in-Binary.ensures c.note_expr-in-Binary-2.ensures

pub note_expr-returns-in_ok-note_expr-in-Index : goal.note_expr-returns-in_ok-note_expr-in-Index
note_expr-returns-in_ok-note_expr-in-Index t c =
    let g : Visible = sight (told c.args.facts.now) c.args.scope.now in
    carried_two c.note_expr-in-Index-2.result (in_expr g c.args.e.now) (in_expr g c.get-in-Index.result.now) (in_expr g c.get-in-Index-2.result.now)
    c.args.notes.now c.note_expr-in-Index.new.notes c.note_expr-in-Index-2.new.notes
    (ap (in_expr g) c.in-Index.is ∙ in-Index g c.in-Index.a c.in-Index.i c.in-Index.field-2
    ∙ ap (λ x. in_expr g x ++ in_expr g c.in-Index.i) (sym c.get-in-Index.ensures)
    ∙ ap (λ x. in_expr g c.get-in-Index.result.now ++ in_expr g x) (sym c.get-in-Index-2.ensures))
    c.in_ok-note_expr-in-Index.ensures c.note_expr-in-Index-2.ensures

pub note_expr-returns-in_ok-note_expr-in-Slice : goal.note_expr-returns-in_ok-note_expr-in-Slice
note_expr-returns-in_ok-note_expr-in-Slice t c =
    let g : Visible = sight (told c.args.facts.now) c.args.scope.now in
    let s : List Measure = Spans c.in-Slice.count c.in-Slice.at ∷ [] in
    carried_two c.note_expr-in-Slice-2.result (in_expr g c.args.e.now) (s ++ in_expr g c.get-in-Slice.result.now) (in_expr g c.get-in-Slice-2.result.now)
    c.args.notes.now c.note_expr-in-Slice.new.notes c.note_expr-in-Slice-2.new.notes
    (ap (in_expr g) c.in-Slice.is ∙ in-Slice g c.in-Slice.a c.in-Slice.i c.in-Slice.count c.in-Slice.at
    ∙ ap (λ x. s ++ in_expr g x ++ in_expr g c.in-Slice.i) (sym c.get-in-Slice.ensures)
    ∙ ap (λ x. s ++ in_expr g c.get-in-Slice.result.now ++ in_expr g x) (sym c.get-in-Slice-2.ensures))
    (noted_two s (in_expr g c.get-in-Slice.result.now) c.args.notes.now c.spans.new.self c.note_expr-in-Slice.new.notes c.spans.ensures c.in_ok-note_expr-in-Slice.ensures)
    c.note_expr-in-Slice-2.ensures

pub note_expr-returns-in-Part : goal.note_expr-returns-in-Part
note_expr-returns-in-Part t c =
    let g : Visible = sight (told c.args.facts.now) c.args.scope.now in
    carried c.note_expr-in-Part.result (in_expr g c.args.e.now) (in_expr g c.get-in-Part.result.now) c.args.notes.now c.note_expr-in-Part.new.notes
    (ap (in_expr g) c.in-Part.is ∙ in-Part g c.in-Part.a c.in-Part.field-1 c.in-Part.field-2 c.in-Part.field-3 ∙ ap (in_expr g) (sym c.get-in-Part.ensures)) c.note_expr-in-Part.ensures

pub note_expr-returns-in-Convert : goal.note_expr-returns-in-Convert
note_expr-returns-in-Convert t c =
    let g : Visible = sight (told c.args.facts.now) c.args.scope.now in
    carried c.note_expr-in-Convert.result (in_expr g c.args.e.now) (in_expr g c.get-in-Convert.result.now) c.args.notes.now c.note_expr-in-Convert.new.notes
    (ap (in_expr g) c.in-Convert.is ∙ in-Convert g c.in-Convert.field-0 c.in-Convert.a c.in-Convert.field-2 ∙ ap (in_expr g) (sym c.get-in-Convert.ensures)) c.note_expr-in-Convert.ensures

pub note_expr-returns-in_ok-note_expr-in-Complex : goal.note_expr-returns-in_ok-note_expr-in-Complex
note_expr-returns-in_ok-note_expr-in-Complex t c =
    let g : Visible = sight (told c.args.facts.now) c.args.scope.now in
    carried_two c.note_expr-in-Complex-2.result (in_expr g c.args.e.now) (in_expr g c.get-in-Complex.result.now) (in_expr g c.get-in-Complex-2.result.now)
    c.args.notes.now c.note_expr-in-Complex.new.notes c.note_expr-in-Complex-2.new.notes
    (ap (in_expr g) c.in-Complex.is ∙ in-Complex g c.in-Complex.field-0 c.in-Complex.a c.in-Complex.b c.in-Complex.field-3
    ∙ ap (λ x. in_expr g x ++ in_expr g c.in-Complex.b) (sym c.get-in-Complex.ensures)
    ∙ ap (λ x. in_expr g c.get-in-Complex.result.now ++ in_expr g x) (sym c.get-in-Complex-2.ensures))
    c.in_ok-note_expr-in-Complex.ensures c.note_expr-in-Complex-2.ensures

pub note_expr-returns-in_ok-note_callee-in-Call : goal.note_expr-returns-in_ok-note_callee-in-Call
note_expr-returns-in_ok-note_callee-in-Call t c =
    let g : Visible = sight (told c.args.facts.now) c.args.scope.now in
    carried_two c.note_exprs.result (in_expr g c.args.e.now) (in_callee c.in-Call.callee c.in-Call.f.at) (in_exprs g c.as_slice.result.now)
    c.args.notes.now c.note_callee.new.notes c.note_exprs.new.notes
    (ap (in_expr g) c.in-Call.is ∙ in-Call g c.in-Call.f c.in-Call.callee c.in-Call.es
    ∙ ap (λ x. in_callee c.in-Call.callee c.in-Call.f.at ++ in_exprs g x) (sym c.as_slice.ensures))
    c.in_ok-note_callee-in-Call.ensures c.note_exprs.ensures

pub note_expr-returns-in_ok-note_array-in-Array : goal.note_expr-returns-in_ok-note_array-in-Array
note_expr-returns-in_ok-note_array-in-Array t c =
    let g : Visible = sight (told c.args.facts.now) c.args.scope.now in
    c.in_ok-note_array-in-Array.ensures.noted ∙ ap (λ l. noted (in_expr g (Array l c.in-Array.at)) c.args.notes.now) c.as_slice-in-Array.ensures
    ∙ ap (λ x. noted (in_expr g x) c.args.notes.now) (sym c.in-Array.is)

pub note_array-returns-in-empty-clause-noted : goal.note_array-returns-in-empty-clause-noted
note_array-returns-in-empty-clause-noted t c =
    let g : Visible = sight (told c.args.facts.now) c.args.scope.now in
    c.note_literal.ensures.noted ∙ ap (λ ms. noted ms c.args.notes.now) (sym (in-Literal g [] c.args.at))
    ∙ ap (λ l. noted (in_expr g (Array l c.args.at)) c.args.notes.now) (sym (no_more c.args.es.now c.in-empty.len_below))

pub note_array-returns-in_ok-note_exprs-in-len1-up-clause-noted : goal.note_array-returns-in_ok-note_exprs-in-len1-up-clause-noted
note_array-returns-in_ok-note_exprs-in-len1-up-clause-noted t c =
    let g : Visible = sight (told c.args.facts.now) c.args.scope.now in
    let es : List Expr = c.args.es.now in
    let e : Expr = c.first-item.result in
    let more : List Expr = take (length es - 1) (drop 1 es) in
    let k : ℕ = length es in
    let cells : ℕ = c.in_ok-element-in-len1-up.element in
    let known : cells ≡ cells_in g.shapes (first_ty g es) = c.in_ok-element-in-len1-up.ensures.cells
    ∙ ap (cells_in g.shapes) (first_type g es e c.in-len1-up.len_at_least c.first-item.is) in
    let parts : c.note_exprs.new.notes ≡ noted (in_exprs g es) c.args.notes.now =
    noted_two (in_expr g e) (in_exprs g more) c.args.notes.now c.note_element.new.notes c.note_exprs.new.notes
    c.in_ok-element-in-len1-up.ensures.noted c.in_ok-note_exprs-in-len1-up.ensures
    ∙ ap (λ l. noted (in_exprs g l) c.args.notes.now) (first-behind es e c.in-len1-up.len_at_least c.first-item.is) in
    c.note_literal-in-len1-up.ensures.noted ∙ ap (noted (Spans k c.args.at ∷ Holds (capped (k * cells)) c.args.at ∷ [])) parts
    ∙ noted-late (in_exprs g es) k (capped (k * cells)) c.args.at c.args.notes.now
    ∙ ap (λ n. noted (Spans k c.args.at ∷ Holds (capped (k * n)) c.args.at ∷ in_exprs g es) c.args.notes.now) known
    ∙ ap (λ ms. noted ms c.args.notes.now) (sym (in-Literal g es c.args.at))

pub note_element-returns-in-Array-clause-cells : goal.note_element-returns-in-Array-clause-cells
note_element-returns-in-Array-clause-cells t c =
    let g : Visible = sight (told c.args.facts.now) c.args.scope.now in
    same_answer c.note_array.result _ _ (ap (λ l. cells_in g.shapes (array_ty g l)) c.as_slice.ensures
    ∙ ap (cells_in g.shapes) (sym (type-Array g c.in-Array.es c.in-Array.at) ∙ ap (type_of g) (sym c.in-Array.is))) c.note_array.ensures.cells

pub note_exprs-loop-e-preserved : goal.note_exprs-loop-e-preserved
note_exprs-loop-e-preserved t c =
    let g : Visible = sight (told c.args.facts.now) c.args.scope.now in
    let es : List Expr = c.args.es.now in
    c.loop-e.invariant ∙ ap (λ l. noted (in_exprs g l) c.loop-e.notes) (at_place es c.loop-e.e-index c.e-item.result c.loop-e-test.true c.e-item.is)
    ∙ noted_next (in_expr g c.e-item.result) (in_exprs g (drop (c.loop-e.e-index + 1) es)) c.loop-e.notes c.note_expr.new.notes c.in_ok-note_expr.ensures
