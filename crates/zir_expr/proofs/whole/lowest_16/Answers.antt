use Rattle.std.proofs.Common.{arith, ◌≡◌, ◌∙◌, ap, sym, ◌%◌, ◌^◌, w64, to_z, of_z}
use Rattle.std.specs.Int.{int_wrap}
use Rattle.std.proofs.lemmas.Int.{ints, to_z-of_z}
use Rattle.std.proofs.lemmas.Nat.{and_mask}
use mir.Syntax.{w16}
use Rattle.zir_expr.proofs.Wrapping.{low_16, size_of_bits}
use Rattle.zir_expr.proofs.whole.lowest_16.Goals as goal

pub returns : goal.returns
returns c =
    let a : to_z w64 (of_z w64 c.from.result) ≡ c.cast_signed.result = omega (arith, ints) in
    let m : c.cast_unsigned.result ≡ of_z w64 c.args.n = simp (to_z-of_z, c.ranges.n) at c.cast_unsigned.ensures in
    a ∙ c.cast_signed.ensures ∙ ap (to_z w16) (and_mask c.cast_unsigned.result 16 ∙ ap (λ k. k % 2 ^ 16) m)
    ∙ sym (low_16 (of_z w64 c.args.n) _ (size_of_bits c.args.n c.ranges.n)) ∙ ap (int_wrap w16) (to_z-of_z w64 c.args.n c.ranges.n)
