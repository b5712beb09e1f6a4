use Rattle.std.proofs.Common.{◌≡◌, ◌∙◌, ap, [], ◌∷◌, refl}
use Rattle.std.specs.Prelude.{Some, None}
use Rattle.zir_types.specs.Kinds.{arr}
use Rattle.zir_types.specs.Measures.{Spans, Holds}
use Rattle.zir_limits.specs.Facts.{CoreFacts, told}
use Rattle.zir_limits.specs.Notes.{noted}
use Rattle.zir_limits.proofs.Noted.{noted_two}
use Rattle.zir_limits.proofs.Rows.{cells_same}
use Rattle.zir_limits_walks.proofs.ComponentEquations.{found}
use Rattle.zir_limits_walks.proofs.component.walk_takes.Goals as goal

pub returns : goal.returns
returns c =
    let f : CoreFacts = told c.args.facts.now in
    let e : c.in_ok-ty.ty ≡ arr c.args.count c.args.a.now = c.in_ok-ty.ensures ∙ ap (arr c.args.count) c.in_ok-element.ensures in
    let k = cells_same _ _ _ _ _ c.cells.ensures c.shapes.ensures e in
    λ vs. (
      λ i. found None (Some (e i)) 1,
      noted_two (Spans c.args.count c.args.at ∷ []) (Holds _ c.args.at ∷ []) c.args.notes.now c.spans.new.self c.holds.new.self c.spans.ensures
          (c.holds.ensures ∙ ap (λ x. noted (Holds x c.args.at ∷ []) c.spans.new.self) k),
      refl,
    )
