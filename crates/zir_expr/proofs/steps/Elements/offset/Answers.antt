use Rattle.std.proofs.Common.{arith, ap, subst, ◌≡◌, ◌∙◌, pos, negsuc, ℤ, ◌+ℤ◌, ◌*ℤ◌, Ok, true, refl, to_z, of_z, w64}
use Rattle.std.specs.Int.{int_wrap}
use Rattle.std.specs.Int.RustNames.{int_lt, int_le}
use Rattle.std.proofs.lemmas.Int.{ints, to_z-of_z}
use Rattle.zir_expr.specs.declared.steps.Elements.{Elements}
use Rattle.zir_expr.specs.Running.{offset_of}
use Rattle.zir_expr.proofs.steps.Elements.offset.Goals as goal

-- an index that was tested, and the offset formed from it
inside : (from k r p : ℤ) (e : Elements) → int_le (pos 0) k ≡ true → int_lt k (pos e.room) ≡ true → p ≡ int_wrap w64 (k *ℤ pos e.size) →
    r ≡ int_wrap w64 (from +ℤ p) → offset_of from k e ≡ Ok r
inside from (pos n) r p e h g i j = rw (g, j, i) refl
inside from (negsuc n) r p e h g i j = cc

pub returns-then-k-from : goal.returns-then-k-from
returns-then-k-from c =
    let k : to_z w64 (of_z w64 c.args.k) ≡ c.args.k = to_z-of_z w64 c.args.k c.ranges.k in
    let from : to_z w64 (of_z w64 c.args.from) ≡ c.args.from = to_z-of_z w64 c.args.from c.ranges.from in
    let room : to_z w64 (of_z w64 c.from.result) ≡ c.from.result = omega (arith, ints) in
    let size : to_z w64 (of_z w64 c.from-then-k-from.result) ≡ c.from-then-k-from.result = omega (arith, ints) in
    let product : to_z w64 (of_z w64 c.product.result) ≡ c.product.result = omega (arith, ints) in
    let sum : to_z w64 (of_z w64 c.sum.result) ≡ c.sum.result = omega (arith, ints) in
    inside c.args.from c.args.k (to_z w64 (of_z w64 c.sum.result)) c.product.result c.args.self
    (subst (λ z. int_le (pos 0) z ≡ true) k c.if-k-ge0.true)
    (subst (λ z. int_lt c.args.k z ≡ true) (room ∙ c.from.ensures) (subst (λ z. int_lt z (to_z w64 (of_z w64 c.from.result)) ≡ true) k c.if-k-from.true))
    (c.product.ensures ∙ ap (λ z. int_wrap w64 (z *ℤ to_z w64 (of_z w64 c.from-then-k-from.result))) k
    ∙ ap (λ z. int_wrap w64 (c.args.k *ℤ z)) (size ∙ c.from-then-k-from.ensures))
    (sum ∙ c.sum.ensures ∙ ap (λ z. int_wrap w64 (z +ℤ to_z w64 (of_z w64 c.product.result))) from ∙ ap (λ z. int_wrap w64 (c.args.from +ℤ z)) product)
