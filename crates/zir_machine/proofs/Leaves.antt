-- Steps of components without parts.
use Rattle.std.specs.Prelude.{◌≡◌, refl, Option, None}
use Rattle.std.proofs.Common.{subst, sym}
use Rattle.zir_bit_tree.specs.declared.value.Val.{Val}
use Rattle.zir_tree.specs.declared.place.Place.{Place}
use Rattle.zir_bit_tree.specs.declared.tree.Comp.{Take as TakeComp}
use Rattle.zir_bit_meaning.specs.Trace.{State}
use Rattle.zir_steps.specs.declared.answer.Answer.TheVariants.{Need}
use Rattle.zir_machine.specs.declared.progress.Focus.{Focus}
use Rattle.zir_machine.specs.declared.progress.Focus.TheVariants.{Begin}
use Rattle.zir_machine.specs.Steps.{Stepped}
use Rattle.zir_machine.specs.Understood.{leaf}

-- without an element on offer a take needs one
pub take_needs : (i j : Option Val) (p : Place) (f : Focus) (s : State) → i ≡ None → j ≡ None → f ≡ Begin → Stepped Need i j (leaf (TakeComp p) f s) (leaf (TakeComp p) f s) f s
take_needs i j p f s a b e =
    subst (λ i. Stepped Need i j (leaf (TakeComp p) f s) (leaf (TakeComp p) f s) f s) (sym a)
    (subst (λ j. Stepped Need None j (leaf (TakeComp p) f s) (leaf (TakeComp p) f s) f s) (sym b)
    (subst (λ f. Stepped Need None None (leaf (TakeComp p) f s) (leaf (TakeComp p) f s) f s) (sym e)
    (record { moved = refl; stands = (refl, _, refl) })))
