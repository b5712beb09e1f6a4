-- A loop goes on by the ticks left: its number of turns does not matter once it is as large.
use Rattle.std.specs.Prelude.{ℕ, zero, suc, ◌+◌, ◌≤◌, ◌≡◌, refl, Bool, true, false}
use Rattle.std.proofs.Common.{ap, sym, arith}
use Rattle.zir_tree.specs.declared.value.Val.{Val, Unit as UnitVal}
use Rattle.zir_tree.specs.declared.ends.End.TheVariants.{Value, Starved, Trap as Trapped, Spent}
use Rattle.zir_meaning.specs.Values.{is_one}
use Rattle.zir_meaning.specs.Trace.{State}
use Rattle.zir_meaning.specs.Evaluation.{Eval, Got, Traps, RunsOut}
use Rattle.zir_meaning.specs.Composition.{limit}
use Rattle.zir_laws.specs.Process.{Proc, Gives, Ends, Needs, spent_proc, NextProc, then_proc, tick_proc_of, tick_proc, with_proc, choose_proc, turn_if_proc, turns_proc}
use Rattle.zir_laws.proofs.Equations.{funext}
use Rattle.zir_laws.proofs.Evaluating.{EvalKeeps, Evaluates}
use Rattle.zir_laws.proofs.Bounded.{Bounded}
use Rattle.zir_laws.proofs.Proceeding.{Proceeds}

-- at an end with a value no more than n ticks are left
abbrev pub Shrinks : ℕ → Proc → Type 0
Shrinks n (Gives o p) = Shrinks n p
Shrinks n (Ends (Value v) s) = s.left ≤ n
Shrinks n (Ends Starved s) = Unit {0}
Shrinks n (Ends (Trapped c) s) = Unit {0}
Shrinks n (Ends Spent s) = Unit {0}
Shrinks n (Needs s f) = (x : Val) → Shrinks n (f x)

-- a process that is bounded by n ticks from t of them on
shrinks : (p : Proc) (t n m : ℕ) → Bounded n t p → n ≤ t + m → Shrinks m p
shrinks (Gives o p) t n m h le = shrinks p o.at.ticks n m h.2 (omega (arith, h.0))
shrinks (Ends (Value v) s) t n m h le = omega (arith, h.0)
shrinks (Ends Starved s) t n m h le = tt
shrinks (Ends (Trapped c) s) t n m h le = tt
shrinks (Ends Spent s) t n m h le = tt
shrinks (Needs s f) t n m h le = λ x. shrinks (f x) (s.ticks + 1) n m (h.2 x) (omega (arith, h.0))

-- a process ends with no more ticks than it began with
pub proceeds-shrinks : (p : State → Proc) → Proceeds p → (s : State) → Shrinks s.left (p s)
proceeds-shrinks p h s = shrinks (p s) s.ticks (limit s) s.left (h.bounded s) (omega arith)

-- an evaluation ends with no more than n ticks left
abbrev pub EvalShrinks : ℕ → Eval → Type 0
EvalShrinks n (Got v s) = s.left ≤ n
EvalShrinks n (Traps c s) = Unit {0}
EvalShrinks n RunsOut = Unit {0}

-- an evaluation ends with no more ticks than it began with
evaluates-shrinks : (e : Eval) (s : State) → EvalKeeps s e → EvalShrinks s.left e
evaluates-shrinks (Got v s') s h = omega (arith, h.1, h.2)
evaluates-shrinks (Traps c s') s h = tt
evaluates-shrinks RunsOut s h = tt

-- what follows an evaluation may differ where more ticks would be left
with-same : (e : Eval) (n : ℕ) (f g : NextProc) → EvalShrinks n e → ((v : Val) (s : State) → s.left ≤ n → f v s ≡ g v s) → with_proc e f ≡ with_proc e g
with-same (Got v s) n f g h k = k v s h
with-same (Traps c s) n f g h k = refl
with-same RunsOut n f g h k = refl

-- one of two components
choose-same : (b : Bool) (p q k : State → Proc) (s : State) → p s ≡ q s → choose_proc b p k s ≡ choose_proc b q k s
choose-same true p q k s e = e
choose-same false p q k s e = refl

-- a turn, if the test holds
turn_if-same : (e : Eval) (n : ℕ) (f g : State → Proc) → EvalShrinks n e → ((s : State) → s.left ≤ n → f s ≡ g s) → turn_if_proc e f ≡ turn_if_proc e g
turn_if-same e n f g h k = with-same e n _ _ h (λ v s le. choose-same (is_one v) f g (λ s'. Ends (Value UnitVal) s') s (k s le))

-- what follows may differ where more ticks would be left
then-same : (p : Proc) (n : ℕ) (f g : NextProc) → Shrinks n p → ((v : Val) (s : State) → s.left ≤ n → f v s ≡ g v s) → then_proc p f ≡ then_proc p g
then-same (Gives o p) n f g h e = ap (Gives o) (then-same p n f g h e)
then-same (Ends (Value v) s) n f g h e = e v s h
then-same (Ends Starved s) n f g h e = refl
then-same (Ends (Trapped c) s) n f g h e = refl
then-same (Ends Spent s) n f g h e = refl
then-same (Needs s next) n f g h e = ap (Needs s) (funext _ _ (λ x. then-same (next x) n f g (h x) e))

-- one of these ticks and a body, where what follows agrees with fewer ticks left
tick-same : (body : State → Proc) (f g : NextProc) (s : State) → Proceeds body → (k : ℕ) → ((v : Val) (s : State) → suc s.left ≤ k → f v s ≡ g v s) →
    tick_proc_of k s (λ s'. then_proc (body s') f) ≡ tick_proc_of k s (λ s'. then_proc (body s') g)
tick-same body f g s h zero ih = refl
tick-same body f g s h (suc k) ih =
    let s1 : State = record s { ticks = s.ticks + 1; left = k } in then-same (body s1) k f g (proceeds-shrinks body h s1) (λ v s' le'. ih v s' (omega arith))

-- without a tick nothing follows
tick-none : (s : State) (next : State → Proc) → s.left ≤ 0 → spent_proc ≡ tick_proc s next
tick-none s next le = let z : s.left ≡ 0 = omega arith in rw z refl

-- any number of turns that is no less than the ticks left is as good as any other
pub turns-fuel : (m n : ℕ) (test : State → Eval) (body : State → Proc) → Evaluates test → Proceeds body → (s : State) → s.left ≤ m → s.left ≤ n →
    turns_proc m test body s ≡ turns_proc n test body s
turns-fuel zero zero test body g h s a b = refl
turns-fuel zero (suc n) test body g h s a b =
    turn_if-same (test s) s.left _ _ (evaluates-shrinks (test s) s (g.keeps s)) (λ s' le. tick-none s' _ (omega (arith, a, le)))
turns-fuel (suc m) zero test body g h s a b =
    turn_if-same (test s) s.left _ _ (evaluates-shrinks (test s) s (g.keeps s)) (λ s' le. sym (tick-none s' _ (omega (arith, b, le))))
turns-fuel (suc m) (suc n) test body g h s a b =
    turn_if-same (test s) s.left _ _ (evaluates-shrinks (test s) s (g.keeps s))
    (λ s' le. tick-same body _ _ s' h s'.left (λ v s3 le3. turns-fuel m n test body g h s3 (omega (arith, a, le, le3)) (omega (arith, b, le, le3))))

-- a loop is its test, a tick, its body and the loop again, by the ticks left then
pub loop-next : (test : State → Eval) (body : State → Proc) → Evaluates test → Proceeds body → (s : State) →
    turns_proc s.left test body s ≡ turn_if_proc (test s) (λ s'. tick_proc s' (λ s''. then_proc (body s'') (λ v s3. turns_proc s3.left test body s3)))
loop-next test body g h s = by_left s.left (omega arith)
  where
    by_left : (l : ℕ) → s.left ≤ l →
        turns_proc l test body s ≡ turn_if_proc (test s) (λ s'. tick_proc s' (λ s''. then_proc (body s'') (λ v s3. turns_proc s3.left test body s3)))
    by_left zero e = turn_if-same (test s) s.left _ _ (evaluates-shrinks (test s) s (g.keeps s)) (λ s' le. tick-none s' _ (omega (arith, e, le)))
    by_left (suc l) e =
        turn_if-same (test s) s.left _ _ (evaluates-shrinks (test s) s (g.keeps s))
        (λ s' le. tick-same body _ _ s' h s'.left (λ v s3 le3. turns-fuel l s3.left test body g h s3 (omega (arith, e, le, le3)) (omega arith)))
