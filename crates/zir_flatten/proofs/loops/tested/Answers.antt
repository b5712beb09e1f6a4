use Rattle.std.proofs.Common.{◌+◌, ◌∷◌, [], ◌++◌, length, Some, ap, ◌∙◌, refl}
use Rattle.zir_flow.specs.declared.instruction.Instruction.TheVariants.{Again, Branch, Tick}
use Rattle.zir_flatten.proofs.Around.{flowed-While}
use Rattle.zir_flatten.proofs.loops.tested.Goals as goal

pub returns : goal.returns
returns c =
    let n = c.in_ok-n.ensures ∙ ap length c.as_slice.ensures.value in
    let onward = c.in_ok-onward.ensures.1 ∙ ap (λ m. m + 2) n in
    let back = c.in_ok-back.ensures.1 ∙ ap (λ m. m + 3) n in
    let first = c.in_ok-first.ensures.items ∙ (λ i. c.run.ensures i ∷ Branch c.args.test.at (c.ends_where_set-ends.ensures i) (onward i) ∷ Tick ∷ []) in
    let code = c.in_ok-around.ensures ∙ (λ i. first i ++ (c.args.body.code.items ++ Again (back i) ∷ [])) in
    λ st g input d e k p t f. flowed-While st g input d c.args.turning e k p c.args.steps.items c.args.test c.args.body _ t f code (ap Some c.plain.ensures) refl c.max.ensures refl refl
