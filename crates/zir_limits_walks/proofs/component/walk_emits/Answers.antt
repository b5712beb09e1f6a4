use Rattle.std.proofs.Common.{◌≡◌, ◌∙◌, ap, [], ◌∷◌, ◌+◌, refl}
use Rattle.std.specs.Prelude.{Some}
use Rattle.zir_types.specs.Scope.{Visible}
use Rattle.zir_types.specs.Known.{type_of, element_of}
use Rattle.zir_types.specs.Needs.{counted}
use Rattle.zir_types.specs.Measures.{Sends, in_expr}
use Rattle.zir_limits.specs.Facts.{CoreFacts, told, sight}
use Rattle.zir_limits.specs.Notes.{noted}
use Rattle.zir_limits.proofs.Noted.{noted_two}
use Rattle.zir_limits.proofs.Rows.{cells_same}
use Rattle.zir_limits_walks.proofs.ComponentEquations.{found}
use Rattle.zir_limits_walks.proofs.component.walk_emits.Goals as goal

pub returns : goal.returns
returns c =
    let f : CoreFacts = told c.args.facts.now in
    let g : Visible = sight f c.args.scope.now in
    let e : c.in_ok-ty.ty ≡ element_of (type_of g c.args.e.now) = c.in_ok-ty.ensures ∙ ap element_of c.in_ok-whole.ensures in
    let k = cells_same _ _ _ _ _ c.cells.ensures c.shapes.ensures e in
    let n = c.counted.ensures ∙ ap (λ x. counted (1 + x)) c.expr_need.ensures in
    λ a. (
      λ i. found (Some (e i)) (Some (c.scalar.ensures i)) (n i),
      noted_two (in_expr g c.args.e.now) (Sends _ c.args.at ∷ []) c.args.notes.now c.note_expr.new.notes c.sends.new.self c.in_ok-note_expr.ensures
          (c.sends.ensures ∙ ap (λ x. noted (Sends x c.args.at ∷ []) c.note_expr.new.notes) k),
      refl,
    )
