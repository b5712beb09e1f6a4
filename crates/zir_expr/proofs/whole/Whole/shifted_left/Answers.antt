use Rattle.std.proofs.Common.{arith, ap, ◌≡◌, ◌∙◌, sym, ◌%◌, ◌*ℤ◌, w64, to_z, of_z}
use Rattle.std.proofs.lemmas.Int.{ints, to_z-of_z}
use Rattle.std.specs.Int.{int_shl}
use Rattle.zir_meaning.specs.Values.{wrap, width_of}
use Rattle.zir_expr.specs.Answers.{base_of, amount_in}
use Rattle.zir_expr.proofs.Wrapping.{wrapped_shift, shifts}
use Rattle.zir_expr.proofs.whole.Whole.shifted_left.Goals as goal

pub returns-in-Some : goal.returns-in-Some
returns-in-Some c =
    let e : to_z w64 (of_z w64 c.wrapped.result) ≡ c.wrapped.result = omega (arith, ints) in
    let g : to_z w64 (of_z w64 c.wrapping_shl.result) ≡ c.wrapping_shl.result = omega (arith, ints) in
    shifts (λ m n. m *ℤ n) (base_of c.args.self) c.args.a c.args.b _ c.in-Some.k (ap (amount_in (width_of (base_of c.args.self))) (sym (to_z-of_z w64
    c.args.b c.ranges.b)) ∙ c.in-Some.ensures.is)
    (e ∙ c.wrapped.ensures ∙ ap (wrap (base_of c.args.self)) (g ∙ c.wrapping_shl.ensures
    ∙ ap (λ z. int_shl w64 z (c.in-Some.k % 64)) (to_z-of_z w64 c.args.a c.ranges.a))
    ∙ wrapped_shift c.args.self c.args.a c.in-Some.k c.ranges.a c.in-Some.ensures.small)
