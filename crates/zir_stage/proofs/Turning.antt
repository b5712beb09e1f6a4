-- How what the sides of a composition come to decides what it does.
use Rattle.std.proofs.Common.{◌≡◌, ◌∙◌, ◌+◌, ℕ, List, ap, sym, subst}
use Rattle.zir_flow.specs.declared.instruction.Instruction.{Instruction}
use Rattle.zir_flow.specs.declared.instruction.Joint.{Joint}
use Rattle.zir_flow.specs.Threads.{Thread}
use Rattle.zir_flow.specs.Stages.{Stage, Joined, Turned, Going, Needing, turn, turned_on, composed, pulled}
use Rattle.zir_stage.specs.Coming.{Stops}
use Rattle.zir_flow.proofs.Staying.{needs_stay}
use Rattle.zir_flow.proofs.Turning.{then_on, one_more, right_on, left_on}

-- what the right side comes to decides
pub stops_right : (n : ℕ) (code : List Instruction) (th : Thread) (j : Joint) (l r : Stage) (t k : ℕ) (x : Turned) → Stops code n r x →
    Stops code n (Joined th j l r t k) (composed code th j l t k (turn code l) x)
stops_right n code th j l r t k x (r1, e, h) =
    (Joined th j l r1 t k, right_on n code th j l r r1 t k e, ap (composed code th j l t k (turn code l)) h)

-- where it needs an element and stays as it is, what the left side comes to decides
pub stops_left : (n m : ℕ) (code : List Instruction) (th : Thread) (j : Joint) (l r r' : Stage) (t k a own : ℕ) (x : Turned) → Stops code n r (Needing a own r') →
    Stops code m l x → Stops code (n + m) (Joined th j l r t k) (pulled code th j r' t k own x)
stops_left n m code th j l r r' t k a own x (r1, e, h) (l1, f, g) =
    let same : r' ≡ r1 = needs_stay code r1 r' a own h in
    let need : turn code r' ≡ Needing a own r' = subst (λ s. turn code s ≡ Needing a own r') (sym same) h in
    let right : turned_on n code r ≡ Going r' = e ∙ ap Going (sym same) in (
      Joined th j l1 r' t k,
      then_on n m code _ _ (right_on n code th j l r r' t k right) ∙ left_on m code th j l l1 r' t k a own need f,
      ap (composed code th j l1 t k (turn code l1)) need ∙ ap (pulled code th j r' t k own) g,
    )

-- where it needs an element, and the left side has only gone on
pub spun_left : (n m : ℕ) (code : List Instruction) (th : Thread) (j : Joint) (l l1 r r' : Stage) (t k a own : ℕ) → Stops code n r (Needing a own r') →
    turned_on m code l ≡ Going l1 → turned_on (n + m) code (Joined th j l r t k) ≡ Going (Joined th j l1 r' t k)
spun_left n m code th j l l1 r r' t k a own (r1, e, h) f =
    let same : r' ≡ r1 = needs_stay code r1 r' a own h in
    let need : turn code r' ≡ Needing a own r' = subst (λ s. turn code s ≡ Needing a own r') (sym same) h in
    let right : turned_on n code r ≡ Going r' = e ∙ ap Going (sym same) in
    then_on n m code _ _ (right_on n code th j l r r' t k right) ∙ left_on m code th j l l1 r' t k a own need f

-- a turn in which a stage only goes on
pub goes_one : (n k : ℕ) (code : List Instruction) (s s' : Stage) → k ≡ n + 1 → Stops code n s (Going s') → turned_on k code s ≡ Going s'
goes_one n k code s s' g (s1, e, h) = one_more n k code s s1 (Going s') g e h
