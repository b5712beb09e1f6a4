use Rattle.std.proofs.Common.{◌≡◌, ◌∙◌, ap, arith, length, suc, [], ◌∷◌, ◌++◌}
use Rattle.std.specs.Prelude.{slice_index}
use Rattle.zir_types.specs.Scope.{variable}
use Rattle.zir_limits.specs.Places.{place_from}
use Rattle.zir_limits.proofs.Placed.{settled}
use Rattle.zir_limits.proofs.scope.Scope.declare.Goals as goal

pub invariant_of-self-2 : goal.invariant_of-self-2
invariant_of-self-2 c = λ q.
    let vs = c.self.inside.variables.items in
    let w = variable c.args.id c.args.ty in
    let count : c.len.result ≡ suc (length vs) = omega (arith, c.len.ensures, c.in_ok-push.ensures.len, c.self.inside.variables.ok.0) in
    settled vs w (slice_index c.widen.new.places.items q) (slice_index c.settle.new.places.items q) q c.len.result
    (c.widen.ensures.same q ∙ c.self.invariant q) count (c.settle.ensures q)
    ∙ ap (λ xs. place_from 0 xs q) (let e : vs ++ w ∷ [] ≡ c.push.new.self.items = cc (c.in_ok-push.ensures.items) in e)
