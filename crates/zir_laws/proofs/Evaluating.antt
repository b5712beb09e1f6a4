-- An evaluation takes no element, its ticks never fall and its limit stays, and with more ticks it is the same or goes on past the limit.
use Rattle.std.specs.Prelude.{ℕ, zero, suc, ◌+◌, ◌≤◌, ◌<◌, List, Option, Some, None, Bool, true, false, ◌≡◌, refl}
use Rattle.std.proofs.Common.{sym, ap, ◌∙◌, arith, subst}
use Rattle.zir_tree.specs.declared.place.Place.{Place}
use Rattle.zir_tree.specs.declared.value.Val.{Val}
use Rattle.zir_tree.specs.declared.value.Slot.{Slot}
use Rattle.zir_meaning.specs.Store.{Store, depth}
use Rattle.zir_meaning.specs.Trace.{State}
use Rattle.zir_meaning.specs.Evaluation.{Eval, Got, Traps, RunsOut, Funs, then_eval, tick_eval, tick_eval_of, trap, choose_eval, found}
use Rattle.zir_meaning.specs.Statements.{left_by, scope}
use Rattle.zir_meaning.specs.Functions.{returned}
use Rattle.zir_meaning.specs.Composition.{limit}
use Rattle.zir_laws.specs.Budgets.{richer}

-- from a state on: no element is taken, no fewer ticks are used, and as many are there in all
abbrev pub Later : State → State → Type 0
Later s s' = (s'.taken ≡ s.taken) × (s.ticks ≤ s'.ticks) × (limit s' ≡ limit s)

-- an evaluation from a state ends later
abbrev pub EvalKeeps : State → Eval → Type 0
EvalKeeps s (Got v s') = Later s s'
EvalKeeps s (Traps t s') = Later s s'
EvalKeeps s RunsOut = Unit {0}

-- an evaluation ends at more than n ticks
abbrev pub EvalPast : ℕ → Eval → Type 0
EvalPast n (Got v s) = n < s.ticks
EvalPast n (Traps t s) = n < s.ticks
EvalPast n RunsOut = Unit {0}

-- an evaluation with a budget of n ticks in all, and the same with m more, past the first budget where it runs out
abbrev pub EvalFunded : ℕ → ℕ → Eval → Eval → Type 0
EvalFunded n m (Got v s) b = b ≡ Got v (richer m s)
EvalFunded n m (Traps t s) b = b ≡ Traps t (richer m s)
EvalFunded n m RunsOut b = EvalPast n b

-- an evaluation from each state
pub record Evaluates (f : State → Eval) : Type 0 where
  pub keeps : (s : State) → EvalKeeps s (f s)
  pub funded : (m : ℕ) (s : State) → EvalFunded (limit s) m (f s) (f (richer m s))

-- each function evaluates
abbrev pub FunsEvaluate : Funs → Type 0
FunsEvaluate funs = (k : ℕ) (vs : List Val) → Evaluates (funs k vs)

-- an evaluation from a later state
pub keeps-from : (e : Eval) (s s' : State) → Later s s' → EvalKeeps s' e → EvalKeeps s e
keeps-from (Got v s'') s s' l h = (h.0 ∙ l.0, omega (arith, l.1, h.1), h.2 ∙ l.2)
keeps-from (Traps t s'') s s' l h = (h.0 ∙ l.0, omega (arith, l.1, h.1), h.2 ∙ l.2)
keeps-from RunsOut s s' l h = tt

-- an evaluation and what follows it
pub keeps-then : (e : Eval) (g : Val → State → Eval) (s : State) → EvalKeeps s e → ((v : Val) (s' : State) → EvalKeeps s' (g v s')) →
    EvalKeeps s (then_eval e g)
keeps-then (Got v s') g s h k = keeps-from (g v s') s s' h (k v s')
keeps-then (Traps t s') g s h k = h
keeps-then RunsOut g s h k = tt

-- an evaluation from more than n ticks on
pub past-from : (e : Eval) (n : ℕ) (s : State) → n < s.ticks → EvalKeeps s e → EvalPast n e
past-from (Got v s') n s lt h = omega (arith, h.1)
past-from (Traps t s') n s lt h = omega (arith, h.1)
past-from RunsOut n s lt h = tt

-- an evaluation past n ticks and what follows it
pub past-then : (b : Eval) (n : ℕ) (g : Val → State → Eval) → EvalPast n b → ((v : Val) (s : State) → EvalKeeps s (g v s)) → EvalPast n (then_eval b g)
past-then (Got v s) n g h k = past-from (g v s) n s h (k v s)
past-then (Traps t s) n g h k = h
past-then RunsOut n g h k = tt

-- two budgets of an evaluation and what follows it from each later state
pub funded-then : (a b : Eval) (s : State) (n m : ℕ) (f g : Val → State → Eval) → EvalKeeps s a → EvalFunded n m a b →
    ((v : Val) (s' : State) → Later s s' → EvalFunded n m (f v s') (g v (richer m s'))) → ((v : Val) (s' : State) → EvalKeeps s' (g v s')) →
    EvalFunded n m (then_eval a f) (then_eval b g)
funded-then (Got v s') b s n m f g w h k c = subst (λ b. EvalFunded n m (f v s') (then_eval b g)) (sym h) (k v s' w)
funded-then (Traps t s') b s n m f g w h k c = ap (λ b. then_eval b g) h
funded-then RunsOut b s n m f g w h k c = past-then b n g h c

-- an evaluation, and where it has a value what follows
pub evaluates-then : (f : State → Eval) (g : Val → State → Eval) → Evaluates f → ((v : Val) → Evaluates (g v)) → Evaluates (λ s. then_eval (f s) g)
evaluates-then f g h k = record {
  keeps = λ s. keeps-then (f s) g s (h.keeps s) (λ v s'. (k v).keeps s');
  funded = λ m s. funded-then (f s) (f (richer m s)) s (limit s) m g g (h.keeps s) (h.funded m s)
      (λ v s' l. subst (λ n. EvalFunded n m (g v s') (g v (richer m s'))) l.2 ((k v).funded m s')) (λ v s'. (k v).keeps s');
}

-- a value and another store, by the store
pub evaluates-stores : (value : Store → Val) (change : Store → Store) → Evaluates (λ s. Got (value s.store) (record s { store = change s.store }))
evaluates-stores value change = record { keeps = λ s. (refl, omega arith, refl); funded = λ m s. refl }

-- a value
pub evaluates-got : (v : Val) → Evaluates (λ s. Got v s)
evaluates-got v = record { keeps = λ s. (refl, omega arith, refl); funded = λ m s. refl }

-- no value
pub evaluates-none : Evaluates (λ s. RunsOut)
evaluates-none = record { keeps = λ s. tt; funded = λ m s. tt }

-- a trap
pub evaluates-trap : (code : ℕ) (p : Place) → Evaluates (λ s. trap code p s)
evaluates-trap code p = record { keeps = λ s. (refl, omega arith, refl); funded = λ m s. refl }

-- an evaluation that begins with what it reads of the store
pub evaluates-reads : {A : Type 0} (read : Store → A) (f : A → State → Eval) → ((a : A) → Evaluates (f a)) → Evaluates (λ s. f (read s.store) s)
evaluates-reads read f h = record { keeps = λ s. (h (read s.store)).keeps s; funded = λ m s. (h (read s.store)).funded m s }

-- an evaluation over another store
pub evaluates-moved : (change : Store → Store) (f : State → Eval) → Evaluates f → Evaluates (λ s. f (record s { store = change s.store }))
evaluates-moved change f h = record {
  keeps = λ s. h.keeps (record s { store = change s.store });
  funded = λ m s. h.funded m (record s { store = change s.store });
}

-- one of two
pub evaluates-choose : (b : Bool) (f g : State → Eval) → Evaluates f → Evaluates g → Evaluates (λ s. choose_eval b f g s)
evaluates-choose true f g h k = h
evaluates-choose false f g h k = k

-- what was found, or a trap
pub evaluates-found : (code : ℕ) (p : Place) (o : Option Val) (next : Val → State → Eval) → ((v : Val) → Evaluates (next v)) →
    Evaluates (λ s. found code p o s next)
evaluates-found code p None next h = evaluates-trap code p
evaluates-found code p (Some v) next h = h v

-- one of these ticks, and then an evaluation
pub keeps-tick : (l : ℕ) (s : State) (f : State → Eval) → s.ticks + l ≡ limit s → ((s' : State) → EvalKeeps s' (f s')) → EvalKeeps s (tick_eval_of l s f)
keeps-tick zero s f e h = tt
keeps-tick (suc l) s f e h =
    let s' : State = record s { ticks = s.ticks + 1; left = l } in keeps-from (f s') s s' (refl, omega arith, omega arith) (h s')

-- at n ticks one more is past them
pub past-tick : (l n : ℕ) (s : State) (f : State → Eval) → n ≤ s.ticks → ((s : State) → EvalKeeps s (f s)) → EvalPast n (tick_eval_of l s f)
past-tick zero n s f le h = tt
past-tick (suc l) n s f le h = let s' : State = record s { ticks = s.ticks + 1; left = l } in past-from (f s') n s' (omega arith) (h s')

-- two budgets of one of these ticks and what follows
funded-tick_of : (l n m : ℕ) (s : State) (f g : State → Eval) → s.ticks + l ≡ n →
    ((s' : State) → s.ticks + 1 ≤ s'.ticks → limit s' ≡ n → EvalFunded n m (f s') (g (richer m s'))) → ((s : State) → EvalKeeps s (g s)) →
    EvalFunded n m (tick_eval_of l s f) (tick_eval_of (l + m) (richer m s) g)
funded-tick_of zero n m s f g e h k = past-tick (0 + m) n (richer m s) g (omega arith) k
funded-tick_of (suc l) n m s f g e h k =
    let z : suc l + m ≡ suc (l + m) = omega arith in
    subst (λ l'. EvalFunded n m (f (record s { ticks = s.ticks + 1; left = l })) (tick_eval_of l' (richer m s) g)) (sym z)
    (h (record s { ticks = s.ticks + 1; left = l }) (omega arith) (omega arith))

-- two budgets of a tick and what follows
pub funded-tick : (n m : ℕ) (s : State) (f g : State → Eval) → limit s ≡ n →
    ((s' : State) → s.ticks + 1 ≤ s'.ticks → limit s' ≡ n → EvalFunded n m (f s') (g (richer m s'))) → ((s : State) → EvalKeeps s (g s)) →
    EvalFunded n m (tick_eval s f) (tick_eval (richer m s) g)
funded-tick n m s f g e h k = funded-tick_of s.left n m s f g e h k

-- a tick, and then an evaluation
pub evaluates-tick : (f : State → Eval) → Evaluates f → Evaluates (λ s. tick_eval s f)
evaluates-tick f h = record {
  keeps = λ s. keeps-tick s.left s f refl h.keeps;
  funded = λ m s. funded-tick (limit s) m s f f refl (λ s' lt e. subst (λ n. EvalFunded n m (f s') (f (richer m s'))) e (h.funded m s')) h.keeps;
}

-- names leave the scope
keeps-left_by : (n : ℕ) (e : Eval) (s : State) → EvalKeeps s e → EvalKeeps s (left_by n e)
keeps-left_by n (Got v s') s h = h
keeps-left_by n (Traps t s') s h = h
keeps-left_by n RunsOut s h = tt

past-left_by : (k : ℕ) (e : Eval) (n : ℕ) → EvalPast n e → EvalPast n (left_by k e)
past-left_by k (Got v s) n h = h
past-left_by k (Traps t s) n h = h
past-left_by k RunsOut n h = tt

funded-left_by : (k : ℕ) (a b : Eval) (n m : ℕ) → EvalFunded n m a b → EvalFunded n m (left_by k a) (left_by k b)
funded-left_by k (Got v s) b n m h = ap (left_by k) h
funded-left_by k (Traps t s) b n m h = ap (left_by k) h
funded-left_by k RunsOut b n m h = past-left_by k b n h

evaluates-left_by : (n : ℕ) (f : State → Eval) → Evaluates f → Evaluates (λ s. left_by n (f s))
evaluates-left_by n f h = record {
  keeps = λ s. keeps-left_by n (f s) s (h.keeps s);
  funded = λ m s. funded-left_by n (f s) (f (richer m s)) (limit s) m (h.funded m s);
}

-- a scope
pub evaluates-scope : (f : State → Eval) → Evaluates f → Evaluates (λ s. scope f s)
evaluates-scope f h = evaluates-reads depth (λ n s. left_by n (f s)) (λ n. evaluates-left_by n f h)

-- the names of a caller are in scope again
keeps-returned : (locals : List Slot) (e : Eval) (s : State) → EvalKeeps s e → EvalKeeps s (returned locals e)
keeps-returned locals (Got v s') s h = h
keeps-returned locals (Traps t s') s h = h
keeps-returned locals RunsOut s h = tt

past-returned : (locals : List Slot) (e : Eval) (n : ℕ) → EvalPast n e → EvalPast n (returned locals e)
past-returned locals (Got v s) n h = h
past-returned locals (Traps t s) n h = h
past-returned locals RunsOut n h = tt

pub funded-returned : (locals : List Slot) (a b : Eval) (n m : ℕ) → EvalFunded n m a b → EvalFunded n m (returned locals a) (returned locals b)
funded-returned locals (Got v s) b n m h = ap (returned locals) h
funded-returned locals (Traps t s) b n m h = ap (returned locals) h
funded-returned locals RunsOut b n m h = past-returned locals b n h

-- an evaluation over another store, after which the names of a caller are in scope again
pub evaluates-returned : (change : Store → Store) (locals : Store → List Slot) (f : State → Eval) → Evaluates f →
    Evaluates (λ s. returned (locals s.store) (f (record s { store = change s.store })))
evaluates-returned change locals f h = record {
  keeps = λ s. keeps-returned (locals s.store) (f (record s { store = change s.store })) s
      (h.keeps (record s { store = change s.store }));
  funded = λ m s. funded-returned (locals s.store) (f (record s { store = change s.store })) (f (richer m (record s { store = change s.store }))) (limit s) m
      (h.funded m (record s { store = change s.store }));
}
