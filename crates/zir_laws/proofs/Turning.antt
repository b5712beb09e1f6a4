-- Loops proceed, where their test evaluates and their body proceeds.
use Rattle.std.specs.Prelude.{ℕ, zero, suc, ◌+◌, ◌≤◌, ℤ, Option, Some, None, ◌≡◌, refl}
use Rattle.std.proofs.Common.{sym, arith, subst}
use Rattle.zir_tree.specs.declared.value.Val.{Unit as UnitVal, Num}
use Rattle.zir_tree.specs.declared.ident.Ident.{Ident}
use Rattle.zir_tree.specs.declared.ends.End.TheVariants.{Value}
use Rattle.zir_meaning.specs.Values.{is_one}
use Rattle.zir_meaning.specs.Store.{bound, depth, narrowed}
use Rattle.zir_meaning.specs.Trace.{State}
use Rattle.zir_meaning.specs.Evaluation.{Eval}
use Rattle.zir_meaning.specs.Statements.{leave, next_index}
use Rattle.zir_meaning.specs.Composition.{limit}
use Rattle.zir_meaning.specs.Component.{bind_index}
use Rattle.zir_laws.specs.Budgets.{richer}
use Rattle.zir_laws.specs.Process.{Proc, Ends, then_proc, tick_proc, turn_if_proc, turns_proc, counted_proc}
use Rattle.zir_laws.proofs.Evaluating.{EvalKeeps, EvalFunded, Evaluates}
use Rattle.zir_laws.proofs.Counts.{Counts, counts-then, counts-tick, counts-with, counts-choose}
use Rattle.zir_laws.proofs.Bounded.{Bounded, bounded-earlier, bounded-then, bounded-tick, bounded-with, bounded-choose}
use Rattle.zir_laws.proofs.Funded.{Funded, funded-then, funded-tick, past-tick, funded-with, funded-choose}
use Rattle.zir_laws.proofs.Proceeding.{Proceeds, proceeds-ends, proceeds-moved, proceeds-reads, proceeds-then, proceeds-tick}

-- the end of a loop
abbrev no_turn : State → Proc
no_turn s = Ends (Value UnitVal) s

-- a turn, if the test holds
counts-turn_if : (e : Eval) (s : State) (turn : State → Proc) → EvalKeeps s e → ((s' : State) → Counts s'.taken s'.ticks (turn s')) →
    Counts s.taken s.ticks (turn_if_proc e turn)
counts-turn_if e s turn h n = counts-with e _ s h (λ v s'. counts-choose (is_one v) turn no_turn s' s'.taken s'.ticks (n s') (refl, omega arith))

bounded-turn_if : (e : Eval) (n : ℕ) (s : State) (turn : State → Proc) → limit s ≡ n → EvalKeeps s e →
    ((s' : State) → limit s' ≡ n → Bounded n s'.ticks (turn s')) → Bounded n s.ticks (turn_if_proc e turn)
bounded-turn_if e n s turn q h k = bounded-with e _ n s q h (λ v s' e'. bounded-choose (is_one v) turn no_turn s' n s'.ticks (k s' e') (omega arith, e'))

funded-turn_if : (a b : Eval) (s : State) (n m : ℕ) (f g : State → Proc) → limit s ≡ n → EvalKeeps s a → EvalFunded n m a b →
    ((s' : State) → s.ticks ≤ s'.ticks → limit s' ≡ n → Funded n m (f s') (g (richer m s'))) → ((s' : State) → Counts s'.taken s'.ticks (g s')) →
    Funded n m (turn_if_proc a f) (turn_if_proc b g)
funded-turn_if a b s n m f g q w h k c =
    funded-with a b s n m _ _ q w h
    (λ v s' le e. funded-choose (is_one v) f no_turn g no_turn s' (richer m s') n m (k s' le e) (refl, e))
    (λ v s'. counts-choose (is_one v) g no_turn s' s'.taken s'.ticks (c s') (refl, omega arith))

-- a tick and what follows, from its state's elements
counts-ticked : (p : State → Proc) → ((s : State) → Counts s.taken s.ticks (p s)) → (s : State) → Counts s.taken s.ticks (tick_proc s p)
counts-ticked p h s = counts-tick s p s.taken (λ s' e. subst (λ k. Counts k s'.ticks (p s')) e (h s'))

-- turns of a body
counts-turns : (most : ℕ) (test : State → Eval) (p : State → Proc) → Evaluates test → Proceeds p → (s : State) →
    Counts s.taken s.ticks (turns_proc most test p s)
counts-turns zero test p h g s = counts-turn_if (test s) s _ (h.keeps s) (λ s'. tt)
counts-turns (suc most) test p h g s =
    counts-turn_if (test s) s _ (h.keeps s)
    (λ s'. counts-ticked (λ s2. then_proc (p s2) (λ v s3. turns_proc most test p s3))
    (λ s2. counts-then (p s2) _ s2.taken s2.ticks (g.counts s2) (λ v s3. counts-turns most test p h g s3)) s')

-- a turn, and more of them
counts-one_turn : (most : ℕ) (test : State → Eval) (p : State → Proc) → Evaluates test → Proceeds p → (s : State) →
    Counts s.taken s.ticks (then_proc (p s) (λ v s'. turns_proc most test p s'))
counts-one_turn most test p h g s = counts-then (p s) _ s.taken s.ticks (g.counts s) (λ v s'. counts-turns most test p h g s')

-- turns of a body within the limit
bounded-turns : (most n : ℕ) (test : State → Eval) (p : State → Proc) → Evaluates test → Proceeds p → (s : State) → limit s ≡ n →
    Bounded n s.ticks (turns_proc most test p s)
bounded-turns zero n test p h g s e = bounded-turn_if (test s) n s _ e (h.keeps s) (λ s' e'. tt)
bounded-turns (suc most) n test p h g s e =
    bounded-turn_if (test s) n s _ e (h.keeps s)
    (λ s1 e1. bounded-tick n s1.ticks s1 _ e1
    (λ s' le e'. bounded-then (p s') _ n s1.ticks
    (bounded-earlier (p s') n s'.ticks s1.ticks (omega arith) (subst (λ n. Bounded n s'.ticks (p s')) e' (g.bounded s')))
    (λ v s'' e''. bounded-turns most n test p h g s'' e'')))

-- two budgets of turns of a body, no fewer than the ticks left
funded-turns : (most n m : ℕ) (test : State → Eval) (p : State → Proc) → Evaluates test → Proceeds p → (s : State) → s.left ≤ most → limit s ≡ n →
    Funded n m (turns_proc most test p s) (turns_proc (most + m) test p (richer m s))
funded-turns zero n zero test p h g s le e =
    funded-turn_if (test s) (test (richer 0 s)) s n 0 _ _ e (h.keeps s) (subst (λ n. EvalFunded n 0 (test s) (test (richer 0 s))) e (h.funded 0 s))
    (λ s' lt e'. (0, tt)) (λ s'. tt)
funded-turns zero n (suc m) test p h g s le e =
    let z : 0 + suc m ≡ suc m = omega arith in
    let turn : State → Proc = λ s1. then_proc (p s1) (λ v s2. turns_proc m test p s2) in
    subst (λ f. Funded n (suc m) (turns_proc 0 test p s) (turns_proc f test p (richer (suc m) s))) (sym z)
    (funded-turn_if (test s) (test (richer (suc m) s)) s n (suc m) _ _ e (h.keeps s)
    (subst (λ n. EvalFunded n (suc m) (test s) (test (richer (suc m) s))) e (h.funded (suc m) s))
    (λ s' lt e'. past-tick (s'.left + suc m) n (richer (suc m) s') turn (omega (arith, le, e, lt, e')) (λ s1. (s1.taken, counts-one_turn m test p h g s1)))
    (λ s'. counts-ticked turn (counts-one_turn m test p h g) s'))
funded-turns (suc most) n m test p h g s le e =
    let z : suc most + m ≡ suc (most + m) = omega arith in
    let turn : State → Proc = λ s1. then_proc (p s1) (λ v s2. turns_proc (most + m) test p s2) in
    subst (λ f. Funded n m (turns_proc (suc most) test p s) (turns_proc f test p (richer m s))) (sym z)
    (funded-turn_if (test s) (test (richer m s)) s n m _ _ e (h.keeps s) (subst (λ n. EvalFunded n m (test s) (test (richer m s))) e (h.funded m s))
    (λ s' lt e'. funded-tick n m s' _ turn e'
    (λ s1 lt1 e1. funded-then (p s1) (p (richer m s1)) n m s1.taken s1.ticks s1.ticks _ _ (omega arith) (g.counts s1)
    (subst (λ n. Funded n m (p s1) (p (richer m s1))) e1 (g.funded m s1))
    (λ v s2 lt2 e2. funded-turns most n m test p h g s2 (omega (arith, le, e, lt, e', lt1, e1, lt2, e2)) e2)
    (λ v s2. counts-turns (most + m) test p h g s2))
    (λ s1. (s1.taken, counts-one_turn (most + m) test p h g s1)))
    (λ s'. counts-ticked turn (counts-one_turn (most + m) test p h g) s'))

-- a loop
pub proceeds-turns : (test : State → Eval) (p : State → Proc) → Evaluates test → Proceeds p → Proceeds (λ s. turns_proc s.left test p s)
proceeds-turns test p h g = record {
  counts = λ s. counts-turns s.left test p h g s;
  bounded = λ s. bounded-turns s.left (limit s) test p h g s refl;
  funded = λ m s. funded-turns s.left (limit s) m test p h g s (omega arith) refl;
}

-- a body with an index in scope
proceeds-index : (name : Option Ident) (i : ℤ) (p : State → Proc) → Proceeds p → Proceeds (λ s. p (bind_index name i s))
proceeds-index None i p h = h
proceeds-index (Some name) i p h = proceeds-moved (λ store. bound name.id (Num i) store) p h

-- a turn of a counted loop, and more of them that began with so many names in scope
abbrev counted_turn : ℕ → ℕ → Option Ident → ℤ → (State → Proc) → State → Proc
counted_turn n more name i p s = then_proc (p (bind_index name i s)) (λ v s'. counted_proc more name (next_index i) p (leave n s'))

-- a loop of so many turns
pub proceeds-counted : (most : ℕ) (name : Option Ident) (i : ℤ) (p : State → Proc) → Proceeds p → Proceeds (λ s. counted_proc most name i p s)
proceeds-counted zero name i p h = proceeds-ends UnitVal (λ store. store)
proceeds-counted (suc most) name i p h =
    proceeds-reads depth (λ n s. tick_proc s (counted_turn n most name i p))
    (λ n. proceeds-tick (counted_turn n most name i p)
    (proceeds-then (λ s. p (bind_index name i s)) (λ v s'. counted_proc most name (next_index i) p (leave n s')) (proceeds-index name i p h)
    (λ v. proceeds-moved (λ store. narrowed n store) (counted_proc most name (next_index i) p) (proceeds-counted most name (next_index i) p h))))
