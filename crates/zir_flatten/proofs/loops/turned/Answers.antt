use Rattle.std.proofs.Common.{◌+◌, ◌∷◌, [], ◌++◌, length, Some, ap, ◌∙◌, refl}
use Rattle.zir_flow.specs.declared.instruction.Instruction.TheVariants.{Again, Turn, Tick}
use Rattle.zir_flatten.proofs.Around.{flowed-Times}
use Rattle.zir_flatten.proofs.loops.turned.Goals as goal

pub returns : goal.returns
returns c =
    let n = c.in_ok-n.ensures ∙ ap length c.as_slice.ensures.value in
    let far = c.in_ok-far.ensures.1 ∙ ap (λ m. m + 2) n in
    let first = c.in_ok-first.ensures.items ∙ (λ i. c.run.ensures i ∷ Turn c.args.d (far i) ∷ Tick ∷ []) in
    let code = c.in_ok-around.ensures ∙ (λ i. first i ++ (c.args.body.code.items ++ Again (far i) ∷ [])) in
    λ st g input e k p t f. flowed-Times st g input c.args.d e k p c.args.steps.items c.args.peak c.args.body _ t f code (ap Some c.plain.ensures) refl c.max.ensures refl refl
