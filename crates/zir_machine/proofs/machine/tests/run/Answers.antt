use Rattle.std.specs.Prelude.{◌≡◌, ◌⊎◌, [], Some}
use Rattle.std.proofs.Common.{ap, sym, subst, ◌∙◌, arith, inr}
use Rattle.zir_tree.specs.declared.ends.Stamp.{Stamp}
use Rattle.zir_chunk.specs.Contents.{Contents, AtMost, last_stamp}
use Rattle.zir_machine.proofs.machine.tests.run.Goals.{in-Yield+in_ok-answer-in-Yield, in-Skip+in_ok-answer-in-Skip, in-Need+in_ok-answer-in-Need}
use Rattle.zir_machine.proofs.machine.tests.run.Goals as goal

at_most_same : (s t : Stamp) → s ≡ t → AtMost s t
at_most_same s t e = let P : Stamp → Type 0 = λ t. AtMost s t in subst P e (record { taken = omega arith; ticks = omega arith })

-- the outputs and the last stamp are the same ones
still_rising : (o o' : Contents) (p p' : Stamp) → o' ≡ o → p' ≡ p → (o.elements ≡ []) ⊎ AtMost (last_stamp o) p → (o'.elements ≡ []) ⊎ AtMost (last_stamp o') p'
still_rising o o' p p' e f h =
    let P : Contents → Type 0 = λ o. (o.elements ≡ []) ⊎ AtMost (last_stamp o) p' in
    let Q : Stamp → Type 0 = λ p. (o.elements ≡ []) ⊎ AtMost (last_stamp o) p in
    subst P (sym e) (subst Q (sym f) h)

pub events-preserved : goal.events-preserved
events-preserved c = elim c.match-answer.branch [
  | in-Yield+in_ok-answer-in-Yield w ↦ record {
    last = ap (λ m. m.last) w.m-is ∙ w.in_ok-answer-in-Yield.ensures.last ∙ ap Some (sym w.answer-is);
    size = ap (λ o. o.size) w.out-is ∙ ap (λ o. o.size) w.take_out.ensures.pushes.1 ∙ c.events.invariant.size;
    rising = inr (at_most_same _ _ (ap last_stamp w.out-is ∙ w.take_out.ensures.last_stamp ∙ sym w.tick-in-Yield.ensures.pushed ∙ sym (ap (λ m. m.pushed) w.m-is)));
  }
  | in-Skip+in_ok-answer-in-Skip w ↦ record {
    last = ap (λ m. m.last) w.m-is ∙ w.in_ok-answer-in-Skip.ensures.last ∙ ap Some (sym w.answer-is);
    size = ap (λ o. o.size) w.out-is ∙ c.events.invariant.size;
    rising = still_rising c.events.out c.match-answer.out c.events.m.pushed c.match-answer.m.pushed w.out-is (ap (λ m. m.pushed) w.m-is ∙ w.tick-in-Skip.ensures.pushed) c.events.invariant.rising;
  }
  | in-Need+in_ok-answer-in-Need w ↦ record {
    last = ap (λ m. m.last) w.m-is ∙ w.in_ok-answer-in-Need.ensures.last ∙ ap Some (sym w.answer-is);
    size = ap (λ o. o.size) w.out-is ∙ c.events.invariant.size;
    rising = still_rising c.events.out c.match-answer.out c.events.m.pushed c.match-answer.m.pushed w.out-is (ap (λ m. m.pushed) w.m-is ∙ w.process.ensures.pushed) c.events.invariant.rising;
  }
]
