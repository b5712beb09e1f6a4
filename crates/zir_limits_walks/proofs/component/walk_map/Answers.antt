use Rattle.std.proofs.Common.{◌∙◌, ap, [], ◌∷◌, ◌+◌, refl}
use Rattle.std.specs.Prelude.{Some, None}
use Rattle.zir_types.specs.Needs.{counted}
use Rattle.zir_types.specs.Measures.{Sends, Calls, ToFunction}
use Rattle.zir_limits.specs.Notes.{noted}
use Rattle.zir_limits.proofs.Noted.{noted_two}
use Rattle.zir_limits.proofs.Rows.{cells_same}
use Rattle.zir_limits_walks.proofs.ComponentEquations.{found}
use Rattle.zir_limits_walks.proofs.component.walk_map.Goals as goal

pub returns : goal.returns
returns c =
    let e = c.in_ok-ty.ensures in
    let k = cells_same _ _ _ _ _ c.cells.ensures c.shapes.ensures e in
    let n = c.counted.ensures ∙ ap (λ x. counted (1 + x)) c.function_need.ensures in
    λ vs a f. (
      λ i. found (Some (e i)) None (n i),
      noted_two (Calls (ToFunction c.args.k) c.args.at ∷ []) (Sends _ c.args.at ∷ []) c.args.notes.now c.call.new.self c.sends.new.self c.in_ok-call.ensures
          (c.sends.ensures ∙ ap (λ x. noted (Sends x c.args.at ∷ []) c.call.new.self) k),
      refl,
    )
