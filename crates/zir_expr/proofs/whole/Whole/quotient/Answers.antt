use Rattle.std.proofs.Common.{arith, ap, ◌≡◌, ◌∙◌, w64, to_z, of_z}
use Rattle.std.specs.Int.RustNames.{int_div}
use Rattle.std.proofs.lemmas.Int.{ints, to_z-of_z}
use Rattle.std.specs.Int.{int_wrapping_div}
use Rattle.zir_meaning.specs.Values.{wrap}
use Rattle.zir_expr.specs.Answers.{base_of}
use Rattle.zir_expr.proofs.Wrapping.{wrapped_quotient, divides}
use Rattle.zir_expr.proofs.whole.Whole.quotient.Goals as goal

pub returns-else-b-eq0 : goal.returns-else-b-eq0
returns-else-b-eq0 c =
    let e : to_z w64 (of_z w64 c.wrapped.result) ≡ c.wrapped.result = omega (arith, ints) in
    let g : to_z w64 (of_z w64 c.wrapping_div.result) ≡ c.wrapping_div.result = omega (arith, ints) in
    divides int_div c.args.self c.args.a c.args.b _ (λ z. c.if-b-eq0.false (ap (of_z w64) z))
    (e ∙ c.wrapped.ensures ∙ ap (wrap (base_of c.args.self)) (g ∙ c.wrapping_div.ensures
    ∙ ap (λ z. int_wrapping_div w64 z (to_z w64 (of_z w64 c.args.b))) (to_z-of_z w64 c.args.a c.ranges.a)
    ∙ ap (int_wrapping_div w64 c.args.a) (to_z-of_z w64 c.args.b c.ranges.b)) ∙ wrapped_quotient c.args.self c.args.a c.args.b c.ranges.a)
