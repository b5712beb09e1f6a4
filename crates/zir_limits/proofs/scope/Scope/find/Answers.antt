use Rattle.std.proofs.Common.{◌≡◌, ◌∙◌, ◌<◌, ◌≤◌, ap, arith, length}
use Rattle.zir_types.specs.Scope.{type_in}
use Rattle.zir_limits.specs.Places.{place_from}
use Rattle.zir_limits.proofs.Placed.{none_found, one_found, place-most}
use Rattle.std.specs.Prelude.{slice_index}
use Rattle.zir_limits.proofs.scope.Scope.find.Goals as goal
use Rattle.zir_limits.proofs.scope.Scope.find.Goals.{then-place-eq0-via-then-place-eq0, then-place-eq0-via-else-place-eq0+then-place-len}

pub returns-then-place-eq0 : goal.returns-then-place-eq0
returns-then-place-eq0 c =
    let vs = c.self.inside.variables.items in
    let id = c.args.id in
    let placed : c.place_at-place.result ≡ place_from 0 vs id =
    c.place_at-place.ensures ∙ ap (λ ps. slice_index ps id) c.as_slice.ensures.value ∙ c.self.invariant id in
    none_found vs id c.place_at-place.result placed (elim c.then-place-eq0.branch [
      | then-place-eq0-via-then-place-eq0 w ↦ w.if-place-eq0.true
      | then-place-eq0-via-else-place-eq0+then-place-len w ↦ absurd (omega (arith, place-most 0 vs id, placed, w.if-place-len.true, w.len.ensures, c.self.inside.variables.ok.0))
    ]) ∙ ap (λ seen. type_in seen id) c.self.view_is

pub returns : goal.returns
returns c =
    let vs = c.self.inside.variables.items in
    let id = c.args.id in
    let placed : c.place_at-place.result ≡ place_from 0 vs id =
    c.place_at-place.ensures ∙ ap (λ ps. slice_index ps id) c.as_slice.ensures.value ∙ c.self.invariant id in
    let some : 0 < c.place_at-place.result = omega (arith, c.if-place-eq0.false) in
    one_found vs id c.place_at-place.result c.index.result.now placed some c.index.ensures ∙ ap (λ seen. type_in seen id) c.self.view_is
