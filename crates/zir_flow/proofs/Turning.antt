-- How the turns of stages follow one another.
use Rattle.std.proofs.Common.{◌≡◌, ◌∙◌, ◌+◌, ℕ, zero, suc, List, ap, refl, arith, zero-add}
use Rattle.zir_flow.specs.declared.instruction.Instruction.{Instruction}
use Rattle.zir_flow.specs.declared.instruction.Joint.{Joint}
use Rattle.zir_flow.specs.Threads.{Thread}
use Rattle.zir_flow.specs.Stages.{Stage, Joined, Turned, Going, Giving, Needing, Ended, Failed, Gone, turn, turned_on, going_on, composed, pulled}

-- where a stage only goes on, what follows decides
next_on : (next next' : Stage → Turned) (s1 : Stage) (t x : Turned) → going_on next x ≡ Going s1 → ((s : Stage) → next s ≡ Going s1 → next' s ≡ t) →
    going_on next' x ≡ t
next_on next next' s1 t (Going s) e h = h s e
next_on next next' s1 t (Giving cells taken ticks s) e h = cc
next_on next next' s1 t (Needing taken ticks s) e h = cc
next_on next next' s1 t (Ended taken ticks s) e h = cc
next_on next next' s1 t (Failed trap taken ticks s) e h = cc
next_on next next' s1 t Gone e h = cc

same_stage : (s s1 : Stage) → Going s ≡ Going s1 → s ≡ s1
same_stage s s1 e = cc

-- turns, and more turns from where they lead
pub then_on : (n m : ℕ) (code : List Instruction) (s s1 : Stage) → turned_on n code s ≡ Going s1 → turned_on (n + m) code s ≡ turned_on m code s1
then_on zero m code s s1 e = ap (λ k. turned_on k code s) (zero-add m) ∙ ap (turned_on m code) (same_stage s s1 e)
then_on (suc n) m code s s1 e =
    let more : suc n + m ≡ suc (n + m) = omega arith in
    ap (λ k. turned_on k code s) more
    ∙ next_on (turned_on n code) (turned_on (n + m) code) s1 (turned_on m code s1) (turn code s) e (λ s'. then_on n m code s' s1)

going_same : (t : Turned) → going_on (λ s. Going s) t ≡ t
going_same (Going s) = refl
going_same (Giving cells taken ticks s) = refl
going_same (Needing taken ticks s) = refl
going_same (Ended taken ticks s) = refl
going_same (Failed trap taken ticks s) = refl
going_same Gone = refl

-- turns and one more
pub one_more : (n k : ℕ) (code : List Instruction) (s s1 : Stage) (t : Turned) → k ≡ n + 1 → turned_on n code s ≡ Going s1 → turn code s1 ≡ t →
    turned_on k code s ≡ t
one_more n k code s s1 t g e h = rw g (then_on n 1 code s s1 e ∙ going_same (turn code s1) ∙ h)

right_next : (n : ℕ) (code : List Instruction) (th : Thread) (j : Joint) (l r1 : Stage) (t k : ℕ) (x : Turned) → going_on (turned_on n code) x ≡ Going r1 →
    ((r : Stage) → turned_on n code r ≡ Going r1 → turned_on n code (Joined th j l r t k) ≡ Going (Joined th j l r1 t k)) →
    going_on (turned_on n code) (composed code th j l t k (turn code l) x) ≡ Going (Joined th j l r1 t k)
right_next n code th j l r1 t k (Going r) e h = h r e
right_next n code th j l r1 t k (Giving cells taken ticks r) e h = cc
right_next n code th j l r1 t k (Needing taken ticks r) e h = cc
right_next n code th j l r1 t k (Ended taken ticks r) e h = cc
right_next n code th j l r1 t k (Failed trap taken ticks r) e h = cc
right_next n code th j l r1 t k Gone e h = cc

-- turns of the right side are turns of the composition
pub right_on : (n : ℕ) (code : List Instruction) (th : Thread) (j : Joint) (l r r1 : Stage) (t k : ℕ) → turned_on n code r ≡ Going r1 →
    turned_on n code (Joined th j l r t k) ≡ Going (Joined th j l r1 t k)
right_on zero code th j l r r1 t k e = ap (λ s. Going (Joined th j l s t k)) (same_stage r r1 e)
right_on (suc n) code th j l r r1 t k e = right_next n code th j l r1 t k (turn code r) e (λ r'. right_on n code th j l r' r1 t k)

left_next : (n : ℕ) (code : List Instruction) (th : Thread) (j : Joint) (l1 r : Stage) (t k own : ℕ) (x : Turned) → going_on (turned_on n code) x ≡ Going l1 →
    ((l : Stage) → turned_on n code l ≡ Going l1 → turned_on n code (Joined th j l r t k) ≡ Going (Joined th j l1 r t k)) →
    going_on (turned_on n code) (pulled code th j r t k own x) ≡ Going (Joined th j l1 r t k)
left_next n code th j l1 r t k own (Going l) e h = h l e
left_next n code th j l1 r t k own (Giving cells taken ticks l) e h = cc
left_next n code th j l1 r t k own (Needing taken ticks l) e h = cc
left_next n code th j l1 r t k own (Ended taken ticks l) e h = cc
left_next n code th j l1 r t k own (Failed trap taken ticks l) e h = cc
left_next n code th j l1 r t k own Gone e h = cc

-- where the right side needs an element, turns of the left side are turns of the composition
pub left_on : (n : ℕ) (code : List Instruction) (th : Thread) (j : Joint) (l l1 r : Stage) (t k a own : ℕ) → turn code r ≡ Needing a own r →
    turned_on n code l ≡ Going l1 → turned_on n code (Joined th j l r t k) ≡ Going (Joined th j l1 r t k)
left_on zero code th j l l1 r t k a own need e = ap (λ s. Going (Joined th j s r t k)) (same_stage l l1 e)
left_on (suc n) code th j l l1 r t k a own need e =
    ap (λ x. going_on (turned_on n code) (composed code th j l t k (turn code l) x)) need
    ∙ left_next n code th j l1 r t k own (turn code l) e (λ l'. left_on n code th j l' l1 r t k a own need)
