-- The law of budgets, by a relation between the processes of two budgets.
use Rattle.std.specs.Prelude.{ℕ, zero, suc, ◌+◌, ◌-◌, ◌≤◌, ◌<◌, List, [], ◌∷◌, ◌≡◌, refl, Bool, true, false, nat_le, length}
use Rattle.std.proofs.Common.{sym, ap, ◌∙◌, arith, subst}
use Rattle.std.proofs.lemmas.Bool.{leb-true, leb-false}
use Rattle.zir_bit_tree.specs.declared.value.Val.{Val}
use Rattle.zir_bit_tree.specs.declared.value.Val.TheVariants.{Unit as UnitVal}
use Rattle.zir_bit_tree.specs.declared.ends.End.{End}
use Rattle.zir_bit_tree.specs.declared.ends.End.TheVariants.{Value, Starved, Trap as Trapped, Spent}
use Rattle.zir_bit_tree.specs.declared.tree.Expr.{Expr, Unit as UnitExpr, Bit, Variable, Xor', end_of-Expr, more_of-Expr}
use Rattle.zir_bit_tree.specs.declared.tree.Comp.{Comp, Take, Emit, Return, Block', Repeat', Pipe', end_of-Comp, more_of-Comp, Row_of-Member, end_of-Member, more_of-Member}
use Rattle.zir_bit_meaning.specs.Trace.{State, Point, point, Out, Trace, gives}
use Rattle.zir_bit_meaning.specs.Evaluation.{Eval, Got, Traps, RunsOut, ev, then_eval}
use Rattle.zir_bit_meaning.specs.Composition.{limit, over, at_point, waiting, fresh}
use Rattle.zir_bit_meaning.specs.Component.{bind, assigns, tr}
use Rattle.zir_bit_laws.specs.Budgets.{richer, Funds, Budgets}
use Rattle.zir_bit_laws.specs.Process.{Proc, Gives, Ends, Needs, spent_proc, run, NextProc, then_proc, tick_proc, tick_proc_of, with_proc, turns_proc, holds, inside, pull, piped, proc, members_proc}
use Rattle.zir_bit_laws.proofs.Counts.{Counts, NextCounts, counts-earlier, counts-then, counts-turns, counts-pull, counts-piped, counts-proc, counts-members}
use Rattle.zir_bit_laws.proofs.Late.{late-outs, late-end}
use Rattle.zir_bit_laws.proofs.Limits.{holds-within}
use Rattle.zir_bit_laws.proofs.Runs.{run-proc}

-- each point of a process has more than n ticks
abbrev Past : ℕ → Proc → Type 0
Past n p = (k : ℕ) × Counts k (n + 1) p

-- p has a budget of n ticks in all, and q is the same with m more, and past the first budget where p is spent
abbrev Funded : ℕ → ℕ → Proc → Proc → Type 0
Funded n m (Gives o p) (Gives o' q) = (o' ≡ o) × Funded n m p q
Funded n m (Gives o p) (Ends e s) = ⊥
Funded n m (Gives o p) (Needs s f) = ⊥
Funded n m (Ends (Value v) s) q = (q ≡ Ends (Value v) (richer m s)) × (limit s ≡ n)
Funded n m (Ends Starved s) q = ⊥
Funded n m (Ends (Trapped c) s) q = q ≡ Ends (Trapped c) (richer m s)
Funded n m (Ends Spent s) q = Past n q
Funded n m (Needs s f) (Needs s' g) = (s' ≡ richer m s) × ((x : Val) → Funded n m (f x) (g x))
Funded n m (Needs s f) (Gives o q) = ⊥
Funded n m (Needs s f) (Ends e s') = ⊥

-- what follows has the two budgets, from each state of no fewer ticks than t
abbrev NextFunded : ℕ → ℕ → ℕ → NextProc → NextProc → Type 0
NextFunded n m t f g = (v : Val) (s : State) → t ≤ s.ticks → limit s ≡ n → Funded n m (f v s) (g v (richer m s))

-- a process and what follows it
funded-then : (p q : Proc) (n m k t u : ℕ) (f g : NextProc) → t ≤ u → Counts k u p → Funded n m p q → NextFunded n m t f g → NextCounts g →
    Funded n m (then_proc p f) (then_proc q g)
funded-then (Gives o p) (Gives o' q) n m k t u f g le w h next counts = (h.0, funded-then p q n m k t o.at.ticks f g (omega arith) w.2 h.1 next counts)
funded-then (Gives o p) (Ends e s) n m k t u f g le w h next counts = absurd h
funded-then (Gives o p) (Needs s f') n m k t u f g le w h next counts = absurd h
funded-then (Ends (Value v) s) q n m k t u f g le w h next counts =
    subst (λ q. Funded n m (f v s) (then_proc q g)) (sym h.0) (next v s (omega arith) h.1)
funded-then (Ends Starved s) q n m k t u f g le w h next counts = absurd h
funded-then (Ends (Trapped c) s) q n m k t u f g le w h next counts = ap (λ q. then_proc q g) h
funded-then (Ends Spent s) q n m k t u f g le w h next counts = (h.0, counts-then q g h.0 (n + 1) h.1 counts)
funded-then (Needs s f') (Needs s' g') n m k t u f g le w h next counts =
    (h.0, λ x. funded-then (f' x) (g' x) n m (k + 1) t s.ticks f g (omega arith) (w.2 x) (h.1 x) next counts)
funded-then (Needs s f') (Gives o q) n m k t u f g le w h next counts = absurd h
funded-then (Needs s f') (Ends e s') n m k t u f g le w h next counts = absurd h

-- what follows a tick counts from some number of elements on
abbrev TickCounts : (State → Proc) → Type 0
TickCounts next = (s : State) → (k : ℕ) × Counts k s.ticks (next s)

-- what follows a tick at n ticks is past n ticks
past-tick : (l n : ℕ) (s : State) (next : State → Proc) → s.ticks ≡ n → TickCounts next → Past n (tick_proc_of l s next)
past-tick zero n s next e w = (0, tt)
past-tick (suc l) n s next e w =
    let s1 : State = record s { ticks = s.ticks + 1; left = l } in
    let t : s.ticks + 1 ≡ n + 1 = omega arith in
    ((w s1).0, subst (λ t. Counts (w s1).0 t (next s1)) t (w s1).1)

-- one of these ticks, and then what follows
funded-tick_of : (l n m : ℕ) (s : State) (next next' : State → Proc) → s.ticks + l ≡ n →
    ((s' : State) → s.ticks + 1 ≤ s'.ticks → limit s' ≡ n → Funded n m (next s') (next' (richer m s'))) → TickCounts next' →
    Funded n m (tick_proc_of l s next) (tick_proc_of (l + m) (richer m s) next')
funded-tick_of zero n m s next next' e h w = past-tick (0 + m) n (richer m s) next' (omega arith) w
funded-tick_of (suc l) n m s next next' e h w =
    let z : suc l + m ≡ suc (l + m) = omega arith in
    subst (λ l'. Funded n m (next (record s { ticks = s.ticks + 1; left = l })) (tick_proc_of l' (richer m s) next')) (sym z)
    (h (record s { ticks = s.ticks + 1; left = l }) (omega arith) (omega arith))

-- one tick, and then what follows
funded-tick : (n m : ℕ) (s : State) (next next' : State → Proc) → limit s ≡ n →
    ((s' : State) → s.ticks + 1 ≤ s'.ticks → limit s' ≡ n → Funded n m (next s') (next' (richer m s'))) → TickCounts next' →
    Funded n m (tick_proc s next) (tick_proc (richer m s) next')
funded-tick n m s next next' e h w = funded-tick_of s.left n m s next next' e h w

-- an evaluation with a budget of n ticks in all, and the same with m more
abbrev EvalFunded : ℕ → ℕ → Eval → Eval → Type 0
EvalFunded n m (Got v s) b = (b ≡ Got v (richer m s)) × (limit s ≡ n)
EvalFunded n m (Traps c s) b = b ≡ Traps c (richer m s)
EvalFunded n m RunsOut b = ⊥

-- an evaluation and what follows it
funded-then_eval : (a b : Eval) (n m : ℕ) (f g : Val → State → Eval) → EvalFunded n m a b →
    ((v : Val) (s : State) → limit s ≡ n → EvalFunded n m (f v s) (g v (richer m s))) → EvalFunded n m (then_eval a f) (then_eval b g)
funded-then_eval (Got v s) b n m f g h k = subst (λ b. EvalFunded n m (f v s) (then_eval b g)) (sym h.0) (k v s h.1)
funded-then_eval (Traps c s) b n m f g h k = ap (λ b. then_eval b g) h
funded-then_eval RunsOut b n m f g h k = absurd h

-- each expression
funded-ev : (e : Expr) (n m : ℕ) (s : State) → limit s ≡ n → EvalFunded n m (ev e s) (ev e (richer m s))
funded-ev (UnitExpr p) n m s h = (refl, h)
funded-ev (Bit b p) n m s h = (refl, h)
funded-ev (Variable name) n m s h = (refl, h)
funded-ev (Xor' _ (more_of-Expr a end_of-Expr) _ (more_of-Expr b end_of-Expr) p) n m s h =
    funded-then_eval (ev a s) (ev a (richer m s)) n m _ _ (funded-ev a n m s h)
    (λ v s' h'. funded-then_eval (ev b s') (ev b (richer m s')) n m _ _ (funded-ev b n m s' h') (λ w s'' h''. (refl, h'')))

-- a process that evaluates first
funded-with : (a b : Eval) (n m : ℕ) (f g : NextProc) → EvalFunded n m a b →
    ((v : Val) (s : State) → limit s ≡ n → Funded n m (f v s) (g v (richer m s))) → Funded n m (with_proc a f) (with_proc b g)
funded-with (Got v s) b n m f g h k = subst (λ b. Funded n m (f v s) (with_proc b g)) (sym h.0) (k v s h.1)
funded-with (Traps c s) b n m f g h k = ap (λ b. with_proc b g) h
funded-with RunsOut b n m f g h k = absurd h

-- turns of a body, no fewer than the ticks left
funded-turns : (most n m : ℕ) (p : State → Proc) → ((s : State) → limit s ≡ n → Funded n m (p s) (p (richer m s))) →
    ((s : State) → Counts s.taken s.ticks (p s)) → (s : State) → s.left ≤ most → limit s ≡ n →
    Funded n m (turns_proc most p s) (turns_proc (most + m) p (richer m s))
funded-turns zero n zero p h w s le e = (0, tt)
funded-turns zero n (suc m) p h w s le e =
    let z : 0 + suc m ≡ suc m = omega arith in
    subst (λ f. Past n (turns_proc f p (richer (suc m) s))) (sym z)
    (past-tick (s.left + suc m) n (richer (suc m) s) _ (omega arith)
    (λ s1. (s1.taken, counts-then (p s1) _ s1.taken s1.ticks (w s1) (λ v s2. counts-turns m p w s2))))
funded-turns (suc most) n m p h w s le e =
    let z : suc most + m ≡ suc (most + m) = omega arith in
    subst (λ f. Funded n m (turns_proc (suc most) p s) (turns_proc f p (richer m s))) (sym z)
    (funded-tick n m s _ _ e
    (λ s1 lt e1. funded-then (p s1) (p (richer m s1)) n m s1.taken s1.ticks s1.ticks _ _ (omega arith) (w s1) (h s1 e1)
    (λ v s2 lt2 e2. funded-turns most n m p h w s2 (omega arith) e2) (λ v s2. counts-turns (most + m) p w s2))
    (λ s1. (s1.taken, counts-then (p s1) _ s1.taken s1.ticks (w s1) (λ v s2. counts-turns (most + m) p w s2))))

-- a spent process, whatever is tested before it
funded-spent : (b : Bool) (n m : ℕ) (q : Proc) → Past n q → Funded n m (holds b spent_proc) q
funded-spent true n m q h = h
funded-spent false n m q h = h

-- what follows at a point, within the one limit or past it
funded-inside : (s : State) (n m : ℕ) (p : Point) (a a' : Proc) (k : ℕ) → limit s ≡ n → (p.ticks ≤ n → Funded n m a a') →
    Counts k p.ticks (inside (richer m s) p a') → Funded n m (inside s p a) (inside (richer m s) p a')
funded-inside s n m p a a' k e h w = test (nat_le p.ticks (limit s)) refl
  where
    test : (b : Bool) → nat_le p.ticks (limit s) ≡ b → Funded n m (holds b a) (inside (richer m s) p a')
    test true q =
        let le : p.ticks ≤ s.ticks + s.left = leb-true p.ticks (limit s) q in
        subst (λ x. Funded n m a x) (sym (holds-within p.ticks (limit (richer m s)) a' (omega arith))) (h (omega arith))
    test false q =
        let lt : s.ticks + s.left < p.ticks = leb-false p.ticks (limit s) q in
        (k, counts-earlier (inside (richer m s) p a') k p.ticks (n + 1) (omega arith) w)

-- the state at a point has as many more ticks
at_point-richer : (s : State) (n m : ℕ) (p : Point) → limit s ≡ n → p.ticks ≤ n → at_point (richer m s) p ≡ richer m (at_point s p)
at_point-richer s n m p e le =
    let z : s.ticks + (s.left + m) - p.ticks ≡ s.ticks + s.left - p.ticks + m = omega arith in
    ap (λ l. record { taken = p.taken; ticks = p.ticks; left = l; store = p.store }) z

-- an end with a value at a point
funded-value : (s : State) (n m : ℕ) (p : Point) → limit s ≡ n → p.ticks ≤ n → (v : Val) → Funded n m (Ends (Value v) (at_point s p)) (Ends (Value v) (at_point (richer m s) p))
funded-value s n m p h le v = (ap (Ends (Value v)) (at_point-richer s n m p h le), omega arith)

-- a left side that runs up to its next output
funded-pull : (ids : List ℕ) (d : ℕ) (l l' : Proc) (s : State) (n m : ℕ) (next next' : Val → Point → Proc → Proc) (s2 : State) (k t : ℕ) →
    limit s ≡ n → s.ticks ≤ t → Counts k t l' → Funded n m l l' →
    ((v : Val) (p : Point) (l l' : Proc) → s.ticks ≤ p.ticks → Counts p.taken p.ticks l' → Funded n m l l' → Funded n m (next v p l) (next' v p l')) →
    ((v : Val) (p : Point) (l' : Proc) → Counts p.taken p.ticks l' → Counts p.taken (p.ticks + s2.ticks) (next' v p l')) →
    Funded n m (pull ids d s next s2 l) (pull ids d (richer m s) next' (richer m s2) l')
funded-pull ids d (Gives o l) (Gives o' l') s n m next next' s2 k t e le w h ih counts =
    subst (λ o'. Funded n m (next o.value o.at l) (next' o'.value o'.at l')) (sym h.0)
    (let w' = subst (λ o. Counts k o.at.ticks l') h.0 w.2 in
    let tk : o.at.taken ≡ k = ap (λ o. o.at.taken) (sym h.0) ∙ w.0 in
    let same : o'.at.ticks ≡ o.at.ticks = ap (λ o. o.at.ticks) h.0 in
    ih o.value o.at l l' (omega arith) (subst (λ k. Counts k o.at.ticks l') (sym tk) w') h.1)
funded-pull ids d (Gives o l) (Ends e' s') s n m next next' s2 k t e le w h ih counts = absurd h
funded-pull ids d (Gives o l) (Needs s' f) s n m next next' s2 k t e le w h ih counts = absurd h
funded-pull ids d (Ends (Value v) s1) l' s n m next next' s2 k t e le w h ih counts =
    subst (λ l'. Funded n m (pull ids d s next s2 (Ends (Value v) s1)) (pull ids d (richer m s) next' (richer m s2) l')) (sym h.0)
    (funded-inside s n m (over ids (point s1) (waiting d (Value v) (point s2))) _ _ s1.taken e
    (λ lt. funded-value s n m (over ids (point s1) (waiting d (Value v) (point s2))) e lt v)
    (counts-pull ids d (Ends (Value v) (richer m s1)) (richer m s) next' (richer m s2) s1.taken s1.ticks (refl, omega arith) counts))
funded-pull ids d (Ends Starved s1) l' s n m next next' s2 k t e le w h ih counts = absurd h
funded-pull ids d (Ends (Trapped c) s1) l' s n m next next' s2 k t e le w h ih counts =
    subst (λ l'. Funded n m (pull ids d s next s2 (Ends (Trapped c) s1)) (pull ids d (richer m s) next' (richer m s2) l')) (sym h)
    (funded-inside s n m (over ids (point s1) (waiting d (Trapped c) (point s2))) _ _ s1.taken e
    (λ lt. ap (Ends (Trapped c)) (at_point-richer s n m (over ids (point s1) (waiting d (Trapped c) (point s2))) e lt))
    (counts-pull ids d (Ends (Trapped c) (richer m s1)) (richer m s) next' (richer m s2) s1.taken s1.ticks (refl, omega arith) counts))
funded-pull ids d (Ends Spent s1) l' s n m next next' s2 k t e le w h ih counts =
    funded-spent (nat_le (s1.ticks + s2.ticks) (limit s)) n m _ (
      h.0,
      counts-earlier (pull ids d (richer m s) next' (richer m s2) l') h.0 (n + 1 + s2.ticks) (n + 1) (omega arith)
          (counts-pull ids d l' (richer m s) next' (richer m s2) h.0 (n + 1) h.1 counts),
    )
funded-pull ids d (Needs s1 g) (Needs s1' g') s n m next next' s2 k t e le w h ih counts =
    subst (λ s1'. Funded n m (pull ids d s next s2 (Needs s1 g)) (pull ids d (richer m s) next' (richer m s2) (Needs s1' g'))) (sym h.0)
    (let tk : s1.taken ≡ k = ap (λ s. s.taken) (sym h.0) ∙ w.0 in
    let same : s1'.ticks ≡ s1.ticks = ap (λ s. s.ticks) h.0 in
    let w2 = (λ (x : Val). subst (λ t. Counts (k + 1) t (g' x)) same (w.2 x)) in
    funded-inside s n m (over ids (point s1) (point s2)) _ _ k e
    (λ lt. (at_point-richer s n m (over ids (point s1) (point s2)) e lt, λ x. funded-pull ids d (g x) (g' x) s n m next next' s2 (k + 1) s1.ticks e (omega arith) (w2 x) (h.1 x) ih counts))
    (counts-pull ids d (Needs (richer m s1) g') (richer m s) next' (richer m s2) k s1.ticks (tk, omega arith, w2) counts))
funded-pull ids d (Needs s1 g) (Gives o l') s n m next next' s2 k t e le w h ih counts = absurd h
funded-pull ids d (Needs s1 g) (Ends e' s') s n m next next' s2 k t e le w h ih counts = absurd h

-- a composition, whose right side has a budget of its own, the ticks left at its beginning
funded-piped : (ids : List ℕ) (d : ℕ) (r r' : Proc) (s : State) (n nb m j t2 : ℕ) (base : Point) (l l' : Proc) →
    limit s ≡ n → nb ≡ s.left → s.ticks ≤ base.ticks → Counts j t2 r' → Funded nb m r r' → Counts base.taken base.ticks l' → Funded n m l l' →
    Funded n m (piped ids d s r base l) (piped ids d (richer m s) r' base l')
funded-piped ids d (Gives o r) (Gives o' r') s n nb m j t2 base l l' e b le w h wl hl =
    subst (λ o'. Funded n m (piped ids d s (Gives o r) base l) (piped ids d (richer m s) (Gives o' r') base l')) (sym h.0)
    (let w2 = subst (λ o. Counts j o.at.ticks r') h.0 w.2 in
    let tk : o.at.taken ≡ j = ap (λ o. o.at.taken) (sym h.0) ∙ w.0 in
    funded-inside s n m (over ids base o.at) _ _ base.taken e
    (λ lt. (refl, funded-piped ids d r r' s n nb m j o.at.ticks base l l' e b le w2 h.1 wl hl))
    (counts-piped ids d (Gives o r') (richer m s) j o.at.ticks base l' (tk, omega arith, w2) wl))
funded-piped ids d (Gives o r) (Ends e' s') s n nb m j t2 base l l' e b le w h wl hl = absurd h
funded-piped ids d (Gives o r) (Needs s' f) s n nb m j t2 base l l' e b le w h wl hl = absurd h
funded-piped ids d (Ends (Value v) s2) r' s n nb m j t2 base l l' e b le w h wl hl =
    subst (λ r'. Funded n m (piped ids d s (Ends (Value v) s2) base l) (piped ids d (richer m s) r' base l')) (sym h.0)
    (funded-inside s n m (over ids base (point s2)) _ _ base.taken e (λ lt. funded-value s n m (over ids base (point s2)) e lt v)
    (counts-piped ids d (Ends (Value v) (richer m s2)) (richer m s) s2.taken s2.ticks base l' (refl, omega arith) wl))
funded-piped ids d (Ends Starved s2) r' s n nb m j t2 base l l' e b le w h wl hl = absurd h
funded-piped ids d (Ends (Trapped c) s2) r' s n nb m j t2 base l l' e b le w h wl hl =
    subst (λ r'. Funded n m (piped ids d s (Ends (Trapped c) s2) base l) (piped ids d (richer m s) r' base l')) (sym h)
    (funded-inside s n m (over ids base (point s2)) _ _ base.taken e (λ lt. ap (Ends (Trapped c)) (at_point-richer s n m (over ids base (point s2)) e lt))
    (counts-piped ids d (Ends (Trapped c) (richer m s2)) (richer m s) s2.taken s2.ticks base l' (refl, omega arith) wl))
funded-piped ids d (Ends Spent s2) r' s n nb m j t2 base l l' e b le w h wl hl =
    funded-spent (nat_le (base.ticks + s2.ticks) (limit s)) n m _ (
      base.taken,
      counts-earlier (piped ids d (richer m s) r' base l') base.taken (base.ticks + (nb + 1)) (n + 1) (omega arith)
          (counts-piped ids d r' (richer m s) h.0 (nb + 1) base l' h.1 wl),
    )
funded-piped ids d (Needs s2 f) (Needs s2' g) s n nb m j t2 base l l' e b le w h wl hl =
    subst (λ s2'. Funded n m (piped ids d s (Needs s2 f) base l) (piped ids d (richer m s) (Needs s2' g) base l')) (sym h.0)
    (let same : s2'.ticks ≡ s2.ticks = ap (λ s. s.ticks) h.0 in
    let w2 = (λ (x : Val). subst (λ t. Counts (j + 1) t (g x)) same (w.2 x)) in
    funded-pull ids d l l' s n m (λ v p l. piped ids d s (f v) p l) (λ v p l. piped ids d (richer m s) (g v) p l) s2 base.taken base.ticks e le wl hl
    (λ v p q q' lt wq hq. funded-piped ids d (f v) (g v) s n nb m (j + 1) s2.ticks p q q' e b lt (w2 v) (h.1 v) wq hq)
    (λ v p q' wq. counts-piped ids d (g v) (richer m s) (j + 1) s2.ticks p q' (w2 v) wq))
funded-piped ids d (Needs s2 f) (Gives o r') s n nb m j t2 base l l' e b le w h wl hl = absurd h
funded-piped ids d (Needs s2 f) (Ends e' s') s n nb m j t2 base l l' e b le w h wl hl = absurd h

mutual
  -- the process of each component
  funded-proc : (c : Comp) (n m : ℕ) (s : State) → limit s ≡ n → Funded n m (proc c s) (proc c (richer m s))
  funded-proc (Take p) n m s e =
      (refl, λ x. funded-tick n m s _ _ e (λ s' lt e'. (refl, e')) (λ s'. (s'.taken + 1, (refl, omega arith))))
  funded-proc (Emit x p) n m s e =
      funded-with (ev x s) (ev x (richer m s)) n m _ _ (funded-ev x n m s e)
      (λ v s' e'. funded-tick n m s' _ _ e' (λ s'' lt e''. (refl, (refl, e''))) (λ s''. (s''.taken, (refl, omega arith, (refl, omega arith)))))
  funded-proc (Return x p) n m s e =
      funded-with (ev x s) (ev x (richer m s)) n m _ _ (funded-ev x n m s e)
      (λ v s' e'. funded-tick n m s' _ _ e' (λ s'' lt e''. (refl, e'')) (λ s''. (s''.taken, (refl, omega arith))))
  funded-proc (Block' _ ms p) n m s e = funded-members ms n m (length s.store) UnitVal s e
  funded-proc (Repeat' _ (more_of-Comp c end_of-Comp) p) n m s e =
      funded-turns s.left n m (proc c) (λ s' e'. funded-proc c n m s' e') (counts-proc c) s (omega arith) e
  funded-proc (Pipe' _ (more_of-Comp a end_of-Comp) _ (more_of-Comp b end_of-Comp) p) n m s e =
      funded-piped (assigns a) (length s.store) (proc b (fresh s)) (proc b (fresh (richer m s))) s n s.left m 0 0 (point s) (proc a s) (proc a (richer m s)) e refl (omega arith)
      (counts-proc b (fresh (richer m s))) (funded-proc b s.left m (fresh s) (omega arith)) (counts-proc a (richer m s)) (funded-proc a n m s e)

  -- and of the members of a block
  funded-members : {k : _} (ms : Row_of-Member k) (n m d : ℕ) (v : Val) (s : State) → limit s ≡ n → Funded n m (members_proc ms d v s) (members_proc ms d v (richer m s))
  funded-members end_of-Member n m d v s e = (refl, e)
  funded-members (more_of-Member name c ms) n m d v s e =
      funded-then (proc c s) (proc c (richer m s)) n m s.taken s.ticks s.ticks _ _ (omega arith) (counts-proc c s) (funded-proc c n m s e)
      (λ w s' lt e'. funded-members ms n m d w (bind name w s') e') (λ w s'. counts-members ms d w (bind name w s'))

-- an output before both traces
gives-funds : (e : End) (n m : ℕ) (o : Out) (t t' : Trace) → Funds e n m t t' → Funds e n m (gives o t) (gives o t')
gives-funds (Value v) n m o t t' h = ap (gives o) h
gives-funds Starved n m o t t' h = ap (gives o) h
gives-funds (Trapped c) n m o t t' h = ap (gives o) h
gives-funds Spent n m o t t' h = record { more = h.more; outs = ap (λ os. o ∷ os) h.outs; later = h.later; end_later = h.end_later }

-- the runs of the processes of two budgets
run-funds : (p q : Proc) (n m : ℕ) → Funded n m p q → (xs : List Val) → Funds (run p xs).end n m (run p xs) (run q xs)
run-funds (Gives o p) (Gives o' q) n m h xs =
    subst (λ o'. Funds (run p xs).end n m (gives o (run p xs)) (gives o' (run q xs))) (sym h.0) (gives-funds (run p xs).end n m o (run p xs) (run q xs) (run-funds p q n m h.1 xs))
run-funds (Gives o p) (Ends e s) n m h xs = absurd h
run-funds (Gives o p) (Needs s f) n m h xs = absurd h
run-funds (Ends (Value v) s) q n m h xs = ap (λ q. run q xs) h.0
run-funds (Ends Starved s) q n m h xs = absurd h
run-funds (Ends (Trapped c) s) q n m h xs = ap (λ q. run q xs) h
run-funds (Ends Spent s) q n m h xs = record { more = (run q xs).outs; outs = refl; later = late-outs q h.0 (n + 1) h.1 xs; end_later = late-end q h.0 (n + 1) h.1 xs }
run-funds (Needs s f) (Needs s' g) n m h [] = ap (λ s. run (Needs s g) []) h.0
run-funds (Needs s f) (Needs s' g) n m h (x ∷ xs) = run-funds (f x) (g x) n m (h.1 x) xs
run-funds (Needs s f) (Gives o q) n m h xs = absurd h
run-funds (Needs s f) (Ends e s') n m h xs = absurd h

-- the law of budgets
pub budgets : Budgets
budgets c m s xs =
    subst (λ t. Funds t.end (limit s) m t (tr c (richer m s) xs)) (run-proc c s xs)
    (subst (λ t. Funds (run (proc c s) xs).end (limit s) m (run (proc c s) xs) t) (run-proc c (richer m s) xs)
    (run-funds (proc c s) (proc c (richer m s)) (limit s) m (funded-proc c (limit s) m s refl) xs))
