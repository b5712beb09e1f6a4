-- A loop goes on by the ticks left: its number of turns does not matter once it is as large.
use Rattle.std.specs.Prelude.{ℕ, zero, suc, ◌+◌, ◌≤◌, ◌≡◌, refl}
use Rattle.std.proofs.Common.{ap, ◌∙◌, arith}
use Rattle.zir_bit_tree.specs.declared.value.Val.{Val}
use Rattle.zir_bit_tree.specs.declared.ends.End.TheVariants.{Value, Starved, Trap as Trapped, Spent}
use Rattle.zir_bit_tree.specs.declared.tree.Comp.{Comp}
use Rattle.zir_bit_meaning.specs.Trace.{State}
use Rattle.zir_bit_meaning.specs.Composition.{limit}
use Rattle.zir_bit_laws.specs.Process.{Proc, Gives, Ends, Needs, spent_proc, NextProc, then_proc, tick_proc_of, turns_proc, proc}
use Rattle.zir_bit_laws.proofs.Bounded.{Bounded, bounded-proc}
use Rattle.zir_bit_laws.proofs.Equations.{funext, then-assoc}

-- at an end with a value no more than n ticks are left
abbrev pub Shrinks : ℕ → Proc → Type 0
Shrinks n (Gives o p) = Shrinks n p
Shrinks n (Ends (Value v) s) = s.left ≤ n
Shrinks n (Ends Starved s) = Unit {0}
Shrinks n (Ends (Trapped c) s) = Unit {0}
Shrinks n (Ends Spent s) = Unit {0}
Shrinks n (Needs s f) = (x : Val) → Shrinks n (f x)

-- a process that is bounded by n ticks from t of them on
shrinks : (p : Proc) (t n m : ℕ) → Bounded n t p → n ≤ t + m → Shrinks m p
shrinks (Gives o p) t n m h le = shrinks p o.at.ticks n m h.2 (omega (arith, h.0))
shrinks (Ends (Value v) s) t n m h le = omega (arith, h.0)
shrinks (Ends Starved s) t n m h le = tt
shrinks (Ends (Trapped c) s) t n m h le = tt
shrinks (Ends Spent s) t n m h le = tt
shrinks (Needs s f) t n m h le = λ x. shrinks (f x) (s.ticks + 1) n m (h.2 x) (omega (arith, h.0))

-- the process of each component ends with no more ticks than it began with
pub shrinks-proc : (c : Comp) (s : State) → Shrinks s.left (proc c s)
shrinks-proc c s = shrinks (proc c s) s.ticks (limit s) s.left (bounded-proc c (limit s) s refl) (omega arith)

-- what follows may differ where more ticks would be left
then-same : (p : Proc) (n : ℕ) (f g : NextProc) → Shrinks n p → ((v : Val) (s : State) → s.left ≤ n → f v s ≡ g v s) → then_proc p f ≡ then_proc p g
then-same (Gives o p) n f g h e = ap (Gives o) (then-same p n f g h e)
then-same (Ends (Value v) s) n f g h e = e v s h
then-same (Ends Starved s) n f g h e = refl
then-same (Ends (Trapped c) s) n f g h e = refl
then-same (Ends Spent s) n f g h e = refl
then-same (Needs s next) n f g h e = ap (Needs s) (funext _ _ (λ x. then-same (next x) n f g (h x) e))

-- one turn, where the turns after it agree
turns-step : (m n : ℕ) (body : State → Proc) → ((s : State) → Shrinks s.left (body s)) → (s : State) →
    ((s' : State) → s'.left ≤ m → s'.left ≤ n → turns_proc m body s' ≡ turns_proc n body s') →
    (k : ℕ) → k ≤ suc m → k ≤ suc n →
    tick_proc_of k s (λ s'. then_proc (body s') (λ v s''. turns_proc m body s'')) ≡ tick_proc_of k s (λ s'. then_proc (body s') (λ v s''. turns_proc n body s''))
turns-step m n body h s ih zero a b = refl
turns-step m n body h s ih (suc k) a b =
    let s1 : State = record s { ticks = s.ticks + 1; left = k } in
    then-same (body s1) k _ _ (h s1) (λ v s' le. ih s' (omega arith) (omega arith))

-- any number of turns that is no less than the ticks left is as good as any other
pub turns-fuel : (m n : ℕ) (body : State → Proc) → ((s : State) → Shrinks s.left (body s)) → (s : State) → s.left ≤ m → s.left ≤ n → turns_proc m body s ≡ turns_proc n body s
turns-fuel zero zero body h s a b = refl
turns-fuel zero (suc n) body h s a b = let z : s.left ≡ 0 = omega arith in rw z refl
turns-fuel (suc m) zero body h s a b = let z : s.left ≡ 0 = omega arith in rw z refl
turns-fuel (suc m) (suc n) body h s a b = turns-step m n body h s (λ s' c d. turns-fuel m n body h s' c d) s.left a b

-- a loop is a tick, its body and the loop again, by the ticks left then
pub loop-next : (c : Comp) (m : ℕ) (s : State) → s.left ≡ suc m →
    turns_proc s.left (proc c) s ≡ then_proc (proc c (record s { ticks = s.ticks + 1; left = m })) (λ v s'. turns_proc s'.left (proc c) s')
loop-next c m s e =
    ap (λ n. turns_proc n (proc c) (record s { left = n })) e
    ∙ then-same (proc c s1) m _ _ (shrinks-proc c s1) (λ v s' le. turns-fuel m s'.left (proc c) (shrinks-proc c) s' le (omega arith))
  where
    s1 : State
    s1 = record s { ticks = s.ticks + 1; left = m }

-- the same before what follows the loop
pub loop-turn : (c : Comp) (m : ℕ) (s : State) (next : NextProc) → s.left ≡ suc m →
    then_proc (turns_proc s.left (proc c) s) next ≡ then_proc (proc c (record s { ticks = s.ticks + 1; left = m })) (λ v s'. then_proc (turns_proc s'.left (proc c) s') next)
loop-turn c m s next e =
    ap (λ p. then_proc p next) (loop-next c m s e) ∙ then-assoc (proc c (record s { ticks = s.ticks + 1; left = m })) (λ v s'. turns_proc s'.left (proc c) s') next

-- a loop without a tick left is spent
pub loop-spent : (c : Comp) (s : State) (next : NextProc) → s.left ≡ 0 → then_proc (turns_proc s.left (proc c) s) next ≡ spent_proc
loop-spent c s next e = ap (λ n. then_proc (turns_proc n (proc c) s) next) e
