use Rattle.std.proofs.Common.{◌≡◌, ◌∙◌, ap, sym, arith, ◌%◌, ◌^◌, to_z, of_z}
use Rattle.std.specs.Int.{int_wrap}
use Rattle.std.proofs.lemmas.Int.{ints, to_z-of_z}
use Rattle.std.proofs.lemmas.Nat.{and_mask}
use mir.Syntax.{w64, w128}
use Rattle.zir_compile.proofs.Literals.{low_64, bits_of_128}
use Rattle.zir_compile.proofs.operators.lowest_64.Goals as goal

pub returns : goal.returns
returns c =
    let a : to_z w64 (of_z w64 c.cast_signed.result) ≡ c.cast_signed.result = omega (arith, ints) in
    let m : c.cast_unsigned.result ≡ of_z w128 c.args.n = simp (to_z-of_z, c.ranges.n) at c.cast_unsigned.ensures in
    a ∙ c.cast_signed.ensures ∙ ap (to_z w64) (and_mask c.cast_unsigned.result 64 ∙ ap (λ k. k % 2 ^ 64) m)
    ∙ sym (low_64 (of_z w128 c.args.n) _ (bits_of_128 c.args.n c.ranges.n)) ∙ ap (int_wrap w64) (to_z-of_z w128 c.args.n c.ranges.n)
