use Rattle.std.proofs.Common.{arith, ◌≡◌, ◌∙◌, w64, to_z, of_z}
use Rattle.std.proofs.lemmas.Int.{ints}
use Rattle.zir_expr.proofs.Wrapping.{wrapped_product}
use Rattle.zir_expr.proofs.whole.Whole.product.Goals as goal

pub returns : goal.returns
returns c =
    let e : to_z w64 (of_z w64 c.wrapped.result) ≡ c.wrapped.result = omega (arith, ints) in
    e ∙ c.wrapped.ensures ∙ wrapped_product c.args.self c.args.a c.args.b c.ranges.a c.ranges.b
