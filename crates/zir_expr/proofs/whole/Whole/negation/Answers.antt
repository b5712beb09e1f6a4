use Rattle.std.proofs.Common.{arith, ap, ◌≡◌, ◌∙◌, w64, to_z, of_z}
use Rattle.std.proofs.lemmas.Int.{ints, to_z-of_z}
use Rattle.std.specs.Int.{int_wrapping_neg}
use Rattle.zir_meaning.specs.Values.{wrap}
use Rattle.zir_expr.specs.Answers.{base_of}
use Rattle.zir_expr.proofs.Wrapping.{wrapped_negation}
use Rattle.zir_expr.proofs.whole.Whole.negation.Goals as goal

pub returns : goal.returns
returns c =
    let e : to_z w64 (of_z w64 c.wrapped.result) ≡ c.wrapped.result = omega (arith, ints) in
    let g : to_z w64 (of_z w64 c.wrapping_neg.result) ≡ c.wrapping_neg.result = omega (arith, ints) in
    e ∙ c.wrapped.ensures ∙ ap (wrap (base_of c.args.self)) (g ∙ c.wrapping_neg.ensures
    ∙ ap (int_wrapping_neg w64) (to_z-of_z w64 c.args.a c.ranges.a)) ∙ wrapped_negation c.args.self c.args.a c.ranges.a
