use Rattle.std.proofs.Common.{◌≡◌, ◌∙◌, ap, arith, to_z, of_z}
use Rattle.std.specs.Int.{int_wrap}
use Rattle.std.proofs.lemmas.Int.{ints, to_z-of_z}
use mir.Syntax.{w64, w128}
use Rattle.zir_compile.proofs.Literals.{literal_is}
use Rattle.zir_compile.proofs.operators.literal.Goals as goal

pub returns : goal.returns
returns c =
    let a : to_z w64 (of_z w64 c.wrapped.result) ≡ c.wrapped.result = omega (arith, ints) in
    let n : c.lowest_64.result ≡ int_wrap w64 c.args.n = c.lowest_64.ensures ∙ ap (int_wrap w64) (to_z-of_z w128 c.args.n c.ranges.n) in
    let b : to_z w64 (of_z w64 c.lowest_64.result) ≡ c.lowest_64.result = omega (arith, ints) in
    λ h. a ∙ literal_is c.args.t c.whole_of.result c.args.n (to_z w64 (of_z w64 c.lowest_64.result)) c.wrapped.result c.whole_of.ensures (b ∙ n) c.wrapped.ensures h
