use Rattle.std.specs.Prelude.{ℤ, ◌≡◌, List, [], ◌∷◌, ◌++◌}
use Rattle.std.proofs.Common.{ap, sym, subst, refl, ◌∙◌}
use Rattle.zir_tree.specs.declared.ends.Stamp.{Stamp}
use Rattle.zir_chunk.specs.Contents.{Contents, IsSmall}
use Rattle.zir_steps.specs.Elements.{element_of, later}
use Rattle.zir_steps.specs.declared.answer.Answer.TheVariants.{Yield}
use Rattle.zir_machine.specs.MachineOf.{standing_of}
use Rattle.zir_machine.specs.MachineStands.{Standing, StoodYield, here_of}
use Rattle.zir_machine.proofs.Machines.{stood_at, output_of, given_stands, pushed_here, kept_given, small_later, value_waits}
use Rattle.zir_machine.proofs.machine.MachineWorker.take_out.Goals as goal

pub invariant_of-self-2-clause-pushed_small : goal.invariant_of-self-2-clause-pushed_small
invariant_of-self-2-clause-pushed_small c =
    let m = c.args.self.now in
    let P : Stamp → Type 0 = IsSmall in
    subst P (sym (c.later-self.ensures ∙ ap (later m.pushed) c.here.ensures)) (small_later m.pushed m.base m.progress.ticks m.limit m.pushed_small m.base_small (m.kept.gives c.requires.waits).inside m.limited)

pub invariant_of-self-2-clause-kept : goal.invariant_of-self-2-clause-kept
invariant_of-self-2-clause-kept c =
    let m = c.args.self.now in
    kept_given m.node m.progress _ m.store.items m.base m.limit (m.kept.gives c.requires.waits) refl refl

pub returns-clause-gives : goal.returns-clause-gives
returns-clause-gives c h s =
    let m : Standing = standing_of c.args.self.now in
    let y : StoodYield m = stood_at m h Yield s c.requires.waits in
    let value : c.unwrap-value.result ≡ y.value = value_waits m c.unwrap-value.result y (sym c.unwrap-value.ensures ∙ c.output.ensures) in
    let cells : c.write.result ≡ element_of 1 y.value = sym c.write.ensures ∙ ap (element_of 1) value in
    let pushed : c.later-self.result ≡ later m.pushed (here_of m) = c.later-self.ensures ∙ ap (later m.pushed) c.here.ensures in
    let old : Contents = c.args.into.now in
    let more : List ℤ → Contents = λ cells. record old { elements = old.elements ++ record { cells = cells; stamp = c.later-self.result } ∷ [] } in
    let new : c.push.new.self ≡ more c.write.result = c.push.ensures.pushed in (
      output_of m y,
      given_stands m _ h y s (record { node = refl; focus = refl; state = refl; base = refl; next = refl; limit = refl; pushed = pushed; last = refl }),
      new ∙ ap more cells,
      pushed,
      λ r. pushed_here m h c.later-self.result s pushed r,
    )

pub returns-clause-pushes : goal.returns-clause-pushes
returns-clause-pushes c = (c.write.result, c.push.ensures.pushed)
