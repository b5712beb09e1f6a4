use Rattle.std.proofs.Common.{◌∙◌, ap, sym, subst}
use Rattle.std.specs.Prelude.{option_map}
use Rattle.zir_types.specs.Found.{placed_function}
use Rattle.zir_types.specs.Components.{map_of}
use Rattle.zir_type_components.specs.Answers.{ToldOf}
use Rattle.zir_type_components.proofs.Reaching.{leaf_memory}
use Rattle.zir_type_components.proofs.component.type_map.Goals as goal

pub returns-in_err-function : goal.returns-in_err-function
returns-in_err-function c = λ is. leaf_memory _ _ _ is c.from_residual.ensures.1 c.in_err-function.ensures

pub returns-in-None : goal.returns-in-None
returns-in-None c = λ is. ap (λ o. map_of o c.args.f.now c.args.at c.args.input.now is) (sym c.in_ok-function.ensures ∙ ap (λ q. option_map placed_function
    q) c.in-None.is)

pub returns-in-Some : goal.returns-in-Some
returns-in-Some c = λ is. subst (λ o. ToldOf (map_of o c.args.f.now c.args.at c.args.input.now is) c.mapped.result is)
    (sym (sym c.in_ok-function.ensures ∙ ap (λ q. option_map placed_function q) c.in-Some.is)) (c.mapped.ensures is)
