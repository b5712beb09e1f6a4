use Rattle.std.proofs.Common.{arith, ◌≡◌, ◌∙◌, ap, sym, ◌%◌, ◌^◌, w64, to_z, of_z}
use Rattle.std.specs.Int.{int_wrap}
use Rattle.std.proofs.lemmas.Int.{ints, to_z-of_z}
use Rattle.std.proofs.lemmas.Nat.{and_mask}
use mir.Syntax.{w32}
use Rattle.zir_expr.proofs.Wrapping.{low_32, size_of_bits}
use Rattle.zir_expr.proofs.whole.lowest_32.Goals as goal

pub returns : goal.returns
returns c =
    let a : to_z w64 (of_z w64 c.from.result) ≡ c.cast_signed.result = omega (arith, ints) in
    let m : c.cast_unsigned.result ≡ of_z w64 c.args.n = simp (to_z-of_z, c.ranges.n) at c.cast_unsigned.ensures in
    a ∙ c.cast_signed.ensures ∙ ap (to_z w32) (and_mask c.cast_unsigned.result 32 ∙ ap (λ k. k % 2 ^ 32) m)
    ∙ sym (low_32 (of_z w64 c.args.n) _ (size_of_bits c.args.n c.ranges.n)) ∙ ap (int_wrap w32) (to_z-of_z w64 c.args.n c.ranges.n)
