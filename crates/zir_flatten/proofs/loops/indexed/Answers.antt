use Rattle.std.proofs.Common.{◌+◌, ◌∷◌, [], ◌++◌, length, Some, ap, ◌∙◌, refl}
use Rattle.zir_flow.specs.declared.instruction.Instruction.TheVariants.{Run, Again, Turn, Tick}
use Rattle.zir_flatten.proofs.Around.{flowed-For}
use Rattle.zir_flatten.proofs.loops.indexed.Goals as goal

pub returns : goal.returns
returns c =
    let n = c.in_ok-n.ensures ∙ ap length c.as_slice.ensures.value in
    let far = c.in_ok-far.ensures.1 ∙ ap (λ m. m + 3) n in
    λ st g input x a m k r f.
    let inner = c.in_ok-inner.ensures r.index r.free in
    let first = c.in_ok-first.ensures.items ∙ (λ i. c.run.ensures i ∷ Turn (c.in_ok-next.ensures.1 i) (far i) ∷ Tick ∷ (c.run-2.ensures ∙ ap Run inner) i ∷ []) in
    let code = c.in_ok-around.ensures ∙ (λ i. first i ++ (c.args.body.code.items ++ Again (far i) ∷ [])) in
    flowed-For st g input c.args.d x a m k c.args.at c.args.range c.args.body _ r f code (ap Some c.plain.ensures) refl c.max.ensures refl refl
