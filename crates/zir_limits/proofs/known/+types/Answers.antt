use Rattle.std.proofs.Common.{◌∙◌, ap, sym, ℕ, List, length}
use Rattle.zir_tree.specs.declared.expr.Expr.{Expr}
use Rattle.zir_types.specs.Kinds.{arr}
use Rattle.zir_types.specs.Scope.{Visible, part_in}
use Rattle.zir_types.specs.Known.{type_of, element_of, part_ty}
use Rattle.zir_limits.specs.Facts.{told, sight}
use Rattle.zir_limits.specs.Lists.{array_ty, nested}
use Rattle.zir_limits.proofs.ExpressionEquations.{type-Index, type-Slice, type-Part, type-Array}
use Rattle.zir_limits.proofs.Rows.{first_type, nested-more, same_answer}
use Rattle.zir_limits.proofs.known.+types.Goals as goal

pub type_of-returns-in_ok-ty-in-Index : goal.type_of-returns-in_ok-ty-in-Index
type_of-returns-in_ok-ty-in-Index t c =
    let g : Visible = sight (told c.args.facts.now) c.args.scope.now in
    same_answer c.element_of.result _ _ (ap element_of (c.in_ok-ty-in-Index.ensures ∙ ap (type_of g) c.get.ensures)
    ∙ sym (type-Index g c.in-Index.a c.in-Index.field-1 c.in-Index.field-2) ∙ ap (type_of g) (sym c.in-Index.is)) c.element_of.ensures

pub type_of-returns-in_ok-element-in-Slice : goal.type_of-returns-in_ok-element-in-Slice
type_of-returns-in_ok-element-in-Slice t c =
    let g : Visible = sight (told c.args.facts.now) c.args.scope.now in
    same_answer c.array_of.result _ _ (ap (arr c.in-Slice.count) (c.in_ok-element-in-Slice.ensures ∙ ap element_of (c.in_ok-ty-in-Slice.ensures ∙ ap (type_of g) c.get-in-Slice.ensures))
    ∙ sym (type-Slice g c.in-Slice.a c.in-Slice.field-1 c.in-Slice.count c.in-Slice.field-3) ∙ ap (type_of g) (sym c.in-Slice.is)) c.array_of.ensures

pub type_of-returns-in_ok-ty-in-Part : goal.type_of-returns-in_ok-ty-in-Part
type_of-returns-in_ok-ty-in-Part t c =
    let g : Visible = sight (told c.args.facts.now) c.args.scope.now in
    same_answer c.part_type.result _ _ (ap (λ s. part_ty (part_in s c.in_ok-ty-in-Part.ty c.as_slice.result.now)) c.shapes.ensures
    ∙ ap (λ x. part_ty (part_in g.shapes x c.as_slice.result.now)) (c.in_ok-ty-in-Part.ensures ∙ ap (type_of g) c.get-in-Part.ensures)
    ∙ ap (λ n. part_ty (part_in g.shapes (type_of g c.in-Part.a) n)) c.as_slice.ensures
    ∙ sym (type-Part g c.in-Part.a c.in-Part.name c.in-Part.field-2 c.in-Part.field-3) ∙ ap (type_of g) (sym c.in-Part.is)) c.part_type.ensures

pub type_of-returns-in-Array : goal.type_of-returns-in-Array
type_of-returns-in-Array t c =
    let g : Visible = sight (told c.args.facts.now) c.args.scope.now in
    same_answer c.array_type.result _ _ (ap (λ ns. nested ns (array_ty g c.as_slice-in-Array.result.now)) c.new.ensures
    ∙ ap (array_ty g) c.as_slice-in-Array.ensures ∙ sym (type-Array g c.in-Array.es c.in-Array.field-1) ∙ ap (type_of g) (sym c.in-Array.is))
    c.array_type.ensures

pub array_type-returns-in-Array : goal.array_type-returns-in-Array
array_type-returns-in-Array t c =
    let g : Visible = sight (told c.args.facts.now) c.args.scope.now in
    let es : List Expr = c.args.es.now in
    let outer : List ℕ = c.args.outer in
    same_answer c.array_type.result _ _ (ap (λ ns. nested ns (array_ty g c.as_slice.result.now)) c.in_ok-push.ensures.ok
    ∙ nested-more outer (length es) (array_ty g c.as_slice.result.now)
    ∙ ap (λ l. nested outer (arr (length es) (array_ty g l))) c.as_slice.ensures
    ∙ ap (λ s. nested outer (arr (length es) s)) (sym (type-Array g c.in-Array.inner c.in-Array.field-1) ∙ ap (type_of g) (sym c.in-Array.is)
    ∙ first_type g es c.e-item.result c.in-len1-up.len_at_least c.e-item.is))
    c.array_type.ensures
