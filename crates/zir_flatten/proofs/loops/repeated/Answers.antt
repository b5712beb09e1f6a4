use Rattle.std.proofs.Common.{◌+◌, ◌∷◌, [], ◌++◌, length, ap, ◌∙◌, refl}
use Rattle.zir_flow.specs.declared.instruction.Instruction.TheVariants.{Again}
use Rattle.zir_flatten.proofs.Around.{flowed-Repeat}
use Rattle.zir_flatten.proofs.loops.repeated.Goals as goal

pub returns : goal.returns
returns c =
    let n = c.in_ok-n.ensures ∙ ap length c.as_slice.ensures.value in
    let back = c.in_ok-back.ensures.1 ∙ ap (λ m. m + 1) n in
    let code = c.in_ok-around.ensures ∙ (λ i. c.in_ok-first.ensures.items i ++ (c.args.body.code.items ++ Again (back i) ∷ [])) in
    λ st g input d k p f. flowed-Repeat st g input d k p c.args.body _ f code refl refl refl refl refl
