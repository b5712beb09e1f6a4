use Rattle.std.proofs.Common.{◌∙◌, ap, ◌+◌}
use Rattle.std.specs.Prelude.{Some, None}
use Rattle.zir_types.specs.Needs.{counted}
use Rattle.zir_limits_walks.proofs.ComponentEquations.{found}
use Rattle.zir_limits_walks.proofs.component.walk_do.Goals as goal

pub returns : goal.returns
returns c =
    let n = c.counted.ensures ∙ ap (λ x. counted (1 + x)) c.body_need.ensures in
    let e = c.in_ok-ty.ensures.gives in
    λ a at. (λ i. found None (Some (e i)) (n i), c.in_ok-ty.ensures.noted, c.in_ok-ty.ensures.left)
