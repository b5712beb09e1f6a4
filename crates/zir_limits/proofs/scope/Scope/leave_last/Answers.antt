use Rattle.std.proofs.Common.{◌≡◌, ◌∙◌, ap, sym, arith, length, suc, [], ◌∷◌, ◌++◌}
use Rattle.std.proofs.lemmas.List.{length_push}
use Rattle.std.specs.Prelude.{slice_index}
use Rattle.zir_limits.specs.Places.{place_from}
use Rattle.zir_limits.proofs.Placed.{forgotten}
use Rattle.zir_limits.proofs.scope.Scope.leave_last.Goals as goal

pub invariant_of-self : goal.invariant_of-self
invariant_of-self c = λ q.
    let vs = c.pop.new.self.items in
    let count : c.len-place.result ≡ suc (length vs) =
    omega (arith, c.len-place.ensures, ap length c.in-Some.ensures.items, length_push vs c.in-Some.last, c.self.inside.variables.ok.0) in
    forgotten vs c.in-Some.last (slice_index c.self.inside.places.items q) (slice_index c.forget.new.places.items q) q c.len-place.result
    (c.self.invariant q ∙ ap (λ xs. place_from 0 xs q) c.in-Some.ensures.items) count (c.forget.ensures q)
