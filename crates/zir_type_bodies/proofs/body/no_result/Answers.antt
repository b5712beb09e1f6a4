use Rattle.zir_types.specs.Walk.{Broken}
use Rattle.zir_types.specs.declared.error.TypeError.TheVariants.{Mismatch}
use Rattle.std.proofs.Common.{refl}
use Rattle.zir_type_expressions.proofs.Steps.{expr_err}
use Rattle.zir_type_bodies.proofs.Steps.{expr_fine}
use Rattle.zir_type_bodies.proofs.body.no_result.Goals as goal

pub returns-in_err-type_expr-in-Some : goal.returns-in_err-type_expr-in-Some
returns-in_err-type_expr-in-Some c = rw c.in-Some.is (expr_err c.args.scope.now _ _ c.in-Some.r.value (λ x. Broken (Mismatch c.args.at)) _ _ c.unasked.ensures c.from_residual.ensures.1 c.in_err-type_expr-in-Some.ensures)

pub returns-in_ok-type_expr-in-Some : goal.returns-in_ok-type_expr-in-Some
returns-in_ok-type_expr-in-Some c = rw c.in-Some.is (expr_fine c.args.scope.now _ _ c.in-Some.r.value (λ x. Broken (Mismatch c.args.at)) _ _ c.unasked.ensures c.in_ok-type_expr-in-Some.ensures refl)
