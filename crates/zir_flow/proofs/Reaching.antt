-- Stages that go on: from one to the next, within some turns.
use Rattle.std.proofs.Common.{◌≡◌, ℕ, zero, suc, ◌+◌, List, ap, sym, subst, refl, ◌∙◌, arith}
use Rattle.zir_flow.specs.declared.instruction.Instruction.{Instruction}
use Rattle.zir_flow.specs.Stages.{Stage, Turned, Going, Giving, Needing, Ended, Failed, Gone, turn, going_on, turned_on}
use Rattle.zir_flow.specs.Playing.{Comes}

-- a stage goes on to another within some turns
pub record Reaches (code : List Instruction) (s s' : Stage) : Type 0 where
  pub turns : ℕ
  pub is : turned_on turns code s ≡ Going s'

-- the stage that goes on
abbrev gone_to : Turned → Stage → Stage
gone_to (Going s) other = s
gone_to (Giving cells taken ticks s) other = other
gone_to (Needing taken ticks s) other = other
gone_to (Ended taken ticks s) other = other
gone_to (Failed t taken ticks s) other = other
gone_to Gone other = other

same_going : (s s' : Stage) → Going s ≡ Going s' → s ≡ s'
same_going s s' e = ap (λ t. gone_to t s) e

-- one turn, and then others
on_from : (t : Turned) (n m : ℕ) (code : List Instruction) (s' : Stage) (e : Turned) → going_on (turned_on n code) t ≡ Going s' →
    ((s : Stage) → turned_on n code s ≡ Going s' → turned_on (n + m) code s ≡ e) → going_on (turned_on (n + m) code) t ≡ e
on_from (Going s) n m code s' e p on = on s p
on_from (Giving cells taken ticks s) n m code s' e p on = absurd (cc)
on_from (Needing taken ticks s) n m code s' e p on = absurd (cc)
on_from (Ended taken ticks s) n m code s' e p on = absurd (cc)
on_from (Failed t taken ticks s) n m code s' e p on = absurd (cc)
on_from Gone n m code s' e p on = absurd (cc)

-- turns, and then others
pub on_and_on : (n m : ℕ) (code : List Instruction) (s s' : Stage) (e : Turned) → turned_on n code s ≡ Going s' → turned_on m code s' ≡ e →
    turned_on (n + m) code s ≡ e
on_and_on zero m code s s' e p q =
    let same : m ≡ 0 + m = omega arith in subst (λ k. turned_on k code s ≡ e) same (subst (λ x. turned_on m code x ≡ e) (sym (same_going s s' p)) q)
on_and_on (suc n) m code s s' e p q =
    let same : suc (n + m) ≡ suc n + m = omega arith in
    subst (λ k. turned_on k code s ≡ e) same (on_from (turn code s) n m code s' e p (λ x r. on_and_on n m code x s' e r q))

-- a stage is where it is
pub stays : (code : List Instruction) (s : Stage) → Reaches code s s
stays code s = record { turns = 0; is = refl }

-- one turn
pub one_turn : (code : List Instruction) (s s' : Stage) → turn code s ≡ Going s' → Reaches code s s'
one_turn code s s' e = record { turns = 1; is = ap (going_on (turned_on 0 code)) e }

-- one way behind another
pub reaches_on : (code : List Instruction) (s s' s'' : Stage) → Reaches code s s' → Reaches code s' s'' → Reaches code s s''
reaches_on code s s' s'' r q = record { turns = r.turns + q.turns; is = on_and_on r.turns q.turns code s s' (Going s'') r.is q.is }

-- an event behind a way
pub comes_on : (code : List Instruction) (s s' : Stage) (e : Turned) → Reaches code s s' → Comes code s' e → Comes code s e
comes_on code s s' e r q = record { turns = r.turns + q.turns; is = on_and_on r.turns q.turns code s s' e r.is q.is }

-- an event that is the next turn
pub comes_next : (code : List Instruction) (s : Stage) (e : Turned) → turn code s ≡ e → going_on (turned_on 0 code) e ≡ e → Comes code s e
comes_next code s e p q = record { turns = 1; is = ap (going_on (turned_on 0 code)) p ∙ q }
