use Rattle.std.proofs.Common.{subst}
use Rattle.zir_types.specs.Components.{emits_of}
use Rattle.zir_type_components.specs.Answers.{ToldOf}
use Rattle.zir_type_components.proofs.Parts.{leaf_refused, leaf_typed}
use Rattle.zir_type_components.proofs.component.type_emits.Goals as goal

pub returns-in_err-t : goal.returns-in_err-t
returns-in_err-t c = λ is. leaf_refused c.args.scope.now _ c.args.e.now (emits_of c.args.scope.now.shapes c.args.at is) _ _ is c.unasked.ensures
    c.from_residual.ensures.1 c.in_err-t.ensures

pub returns : goal.returns
returns c = λ is. leaf_typed c.args.scope.now _ c.args.e.now (emits_of c.args.scope.now.shapes c.args.at is) _ _ is c.unasked.ensures c.in_ok-t.ensures
    (subst (λ ss. ToldOf (emits_of ss c.args.at is c.in_ok-t.t) c.emitted_each.result is) c.shapes.ensures (c.emitted_each.ensures is))
