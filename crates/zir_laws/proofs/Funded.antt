-- The processes of two budgets: they are the same within the first budget, and past it the second one goes on.
use Rattle.std.specs.Prelude.{ℕ, zero, suc, ◌+◌, ◌-◌, ◌≤◌, ◌<◌, List, ◌≡◌, refl, Bool, true, false, nat_le}
use Rattle.std.proofs.Common.{sym, ap, ◌∙◌, arith, subst}
use Rattle.std.proofs.lemmas.Bool.{leb-true, leb-false}
use Rattle.zir_tree.specs.declared.value.Val.{Val}
use Rattle.zir_tree.specs.declared.value.Slot.{Slot}
use Rattle.zir_tree.specs.declared.ends.End.TheVariants.{Value, Starved, Trap as Trapped, Spent}
use Rattle.zir_meaning.specs.Trace.{State, Point, point}
use Rattle.zir_meaning.specs.Evaluation.{Eval, Got, Traps, RunsOut}
use Rattle.zir_meaning.specs.Functions.{back}
use Rattle.zir_meaning.specs.Composition.{limit, over, at_point, waiting}
use Rattle.zir_meaning.specs.Instances.{out_seen}
use Rattle.zir_laws.specs.Budgets.{richer}
use Rattle.zir_laws.specs.Process.{Proc, Gives, Ends, Needs, spent_proc, NextProc, then_proc, tick_proc, tick_proc_of, with_proc, choose_proc, holds, inside, pull, piped}
use Rattle.zir_laws.specs.Acts.{seen_proc}
use Rattle.zir_laws.proofs.Evaluating.{EvalKeeps, EvalPast, EvalFunded}
use Rattle.zir_laws.proofs.Counts.{Counts, NextCounts, counts-earlier, counts-then, counts-pull, counts-piped, counts-seen}
use Rattle.zir_laws.proofs.Limits.{holds-within}

-- each point of a process has more than n ticks
abbrev pub Past : ℕ → Proc → Type 0
Past n p = (k : ℕ) × Counts k (n + 1) p

-- p has a budget of n ticks in all, and q is the same with m more, and past the first budget where p is spent
abbrev pub Funded : ℕ → ℕ → Proc → Proc → Type 0
Funded n m (Gives o p) (Gives o' q) = (o' ≡ o) × Funded n m p q
Funded n m (Gives o p) (Ends e s) = ⊥
Funded n m (Gives o p) (Needs s f) = ⊥
Funded n m (Ends (Value v) s) q = (q ≡ Ends (Value v) (richer m s)) × (limit s ≡ n)
Funded n m (Ends Starved s) q = ⊥
Funded n m (Ends (Trapped c) s) q = q ≡ Ends (Trapped c) (richer m s)
Funded n m (Ends Spent s) q = Past n q
Funded n m (Needs s f) (Needs s' g) = (s' ≡ richer m s) × ((x : Val) → Funded n m (f x) (g x))
Funded n m (Needs s f) (Gives o q) = ⊥
Funded n m (Needs s f) (Ends e s') = ⊥

-- what follows has the two budgets, from each state of no fewer ticks than t
abbrev pub NextFunded : ℕ → ℕ → ℕ → NextProc → NextProc → Type 0
NextFunded n m t f g = (v : Val) (s : State) → t ≤ s.ticks → limit s ≡ n → Funded n m (f v s) (g v (richer m s))

-- a process and what follows it
pub funded-then : (p q : Proc) (n m k t u : ℕ) (f g : NextProc) → t ≤ u → Counts k u p → Funded n m p q → NextFunded n m t f g → NextCounts g →
    Funded n m (then_proc p f) (then_proc q g)
funded-then (Gives o p) (Gives o' q) n m k t u f g le w h next counts = (h.0, funded-then p q n m k t o.at.ticks f g (omega arith) w.2 h.1 next counts)
funded-then (Gives o p) (Ends e s) n m k t u f g le w h next counts = absurd h
funded-then (Gives o p) (Needs s f') n m k t u f g le w h next counts = absurd h
funded-then (Ends (Value v) s) q n m k t u f g le w h next counts =
    subst (λ q. Funded n m (f v s) (then_proc q g)) (sym h.0) (next v s (omega arith) h.1)
funded-then (Ends Starved s) q n m k t u f g le w h next counts = absurd h
funded-then (Ends (Trapped c) s) q n m k t u f g le w h next counts = ap (λ q. then_proc q g) h
funded-then (Ends Spent s) q n m k t u f g le w h next counts = (h.0, counts-then q g h.0 (n + 1) h.1 counts)
funded-then (Needs s f') (Needs s' g') n m k t u f g le w h next counts =
    (h.0, λ x. funded-then (f' x) (g' x) n m (k + 1) t s.ticks f g (omega arith) (w.2 x) (h.1 x) next counts)
funded-then (Needs s f') (Gives o q) n m k t u f g le w h next counts = absurd h
funded-then (Needs s f') (Ends e s') n m k t u f g le w h next counts = absurd h

-- what follows a tick counts from some number of elements on
abbrev TickCounts : (State → Proc) → Type 0
TickCounts next = (s : State) → (k : ℕ) × Counts k s.ticks (next s)

-- what follows a tick at n ticks is past n ticks
pub past-tick : (l n : ℕ) (s : State) (next : State → Proc) → s.ticks ≡ n → TickCounts next → Past n (tick_proc_of l s next)
past-tick zero n s next e w = (0, tt)
past-tick (suc l) n s next e w =
    let s1 : State = record s { ticks = s.ticks + 1; left = l } in
    let t : s.ticks + 1 ≡ n + 1 = omega arith in
    ((w s1).0, subst (λ t. Counts (w s1).0 t (next s1)) t (w s1).1)

-- one of these ticks, and then what follows
funded-tick_of : (l n m : ℕ) (s : State) (next next' : State → Proc) → s.ticks + l ≡ n →
    ((s' : State) → s.ticks + 1 ≤ s'.ticks → limit s' ≡ n → Funded n m (next s') (next' (richer m s'))) → TickCounts next' →
    Funded n m (tick_proc_of l s next) (tick_proc_of (l + m) (richer m s) next')
funded-tick_of zero n m s next next' e h w = past-tick (0 + m) n (richer m s) next' (omega arith) w
funded-tick_of (suc l) n m s next next' e h w =
    let z : suc l + m ≡ suc (l + m) = omega arith in
    subst (λ l'. Funded n m (next (record s { ticks = s.ticks + 1; left = l })) (tick_proc_of l' (richer m s) next')) (sym z)
    (h (record s { ticks = s.ticks + 1; left = l }) (omega arith) (omega arith))

-- one tick, and then what follows
pub funded-tick : (n m : ℕ) (s : State) (next next' : State → Proc) → limit s ≡ n →
    ((s' : State) → s.ticks + 1 ≤ s'.ticks → limit s' ≡ n → Funded n m (next s') (next' (richer m s'))) → TickCounts next' →
    Funded n m (tick_proc s next) (tick_proc (richer m s) next')
funded-tick n m s next next' e h w = funded-tick_of s.left n m s next next' e h w

-- an evaluation past n ticks, and what follows it
past-with : (b : Eval) (n : ℕ) (g : NextProc) → EvalPast n b → NextCounts g → Past n (with_proc b g)
past-with (Got v s) n g h c = (s.taken, counts-earlier (g v s) s.taken s.ticks (n + 1) (omega arith) (c v s))
past-with (Traps t s) n g h c = (s.taken, (refl, omega arith))
past-with RunsOut n g h c = (0, tt)

-- a process that evaluates first
pub funded-with : (a b : Eval) (s : State) (n m : ℕ) (f g : NextProc) → limit s ≡ n → EvalKeeps s a → EvalFunded n m a b → NextFunded n m s.ticks f g →
    NextCounts g → Funded n m (with_proc a f) (with_proc b g)
funded-with (Got v s') b s n m f g e w h k c = subst (λ b. Funded n m (f v s') (with_proc b g)) (sym h) (k v s' w.1 (w.2 ∙ e))
funded-with (Traps x s') b s n m f g e w h k c = ap (λ b. with_proc b g) h
funded-with RunsOut b s n m f g e w h k c = past-with b n g h c

-- one of two
pub funded-choose : (b : Bool) (p q p' q' : State → Proc) (s s' : State) (n m : ℕ) → Funded n m (p s) (p' s') → Funded n m (q s) (q' s') →
    Funded n m (choose_proc b p q s) (choose_proc b p' q' s')
funded-choose true p q p' q' s s' n m h g = h
funded-choose false p q p' q' s s' n m h g = g

-- a spent process, whatever is tested before it
funded-spent : (b : Bool) (n m : ℕ) (q : Proc) → Past n q → Funded n m (holds b spent_proc) q
funded-spent true n m q h = h
funded-spent false n m q h = h

-- what follows at a point, within the one limit or past it
funded-inside : (s : State) (n m : ℕ) (p : Point) (a a' : Proc) (k : ℕ) → limit s ≡ n → (p.ticks ≤ n → Funded n m a a') →
    Counts k p.ticks (inside (richer m s) p a') → Funded n m (inside s p a) (inside (richer m s) p a')
funded-inside s n m p a a' k e h w = test (nat_le p.ticks (limit s)) refl
  where
    test : (b : Bool) → nat_le p.ticks (limit s) ≡ b → Funded n m (holds b a) (inside (richer m s) p a')
    test true q =
        let le : p.ticks ≤ s.ticks + s.left = leb-true p.ticks (limit s) q in
        subst (λ x. Funded n m a x) (sym (holds-within p.ticks (limit (richer m s)) a' (omega arith))) (h (omega arith))
    test false q =
        let lt : s.ticks + s.left < p.ticks = leb-false p.ticks (limit s) q in
        (k, counts-earlier (inside (richer m s) p a') k p.ticks (n + 1) (omega arith) w)

-- the state at a point has as many more ticks
at_point-richer : (s : State) (n m : ℕ) (p : Point) → limit s ≡ n → p.ticks ≤ n → at_point (richer m s) p ≡ richer m (at_point s p)
at_point-richer s n m p e le =
    let z : s.ticks + (s.left + m) - p.ticks ≡ s.ticks + s.left - p.ticks + m = omega arith in
    ap (λ l. record { taken = p.taken; ticks = p.ticks; left = l; store = p.store }) z

-- an end with a value at a point
funded-value : (s : State) (n m : ℕ) (p : Point) → limit s ≡ n → p.ticks ≤ n → (v : Val) →
    Funded n m (Ends (Value v) (at_point s p)) (Ends (Value v) (at_point (richer m s) p))
funded-value s n m p h le v = (ap (Ends (Value v)) (at_point-richer s n m p h le), omega arith)

-- a left side that runs up to its next output
funded-pull : (ids : List ℕ) (d : ℕ) (l l' : Proc) (s : State) (n m : ℕ) (next next' : Val → Point → Proc → Proc) (s2 : State) (k t : ℕ) →
    limit s ≡ n → s.ticks ≤ t → Counts k t l' → Funded n m l l' →
    ((v : Val) (p : Point) (l l' : Proc) → s.ticks ≤ p.ticks → Counts p.taken p.ticks l' → Funded n m l l' → Funded n m (next v p l) (next' v p l')) →
    ((v : Val) (p : Point) (l' : Proc) → Counts p.taken p.ticks l' → Counts p.taken (p.ticks + s2.ticks) (next' v p l')) →
    Funded n m (pull ids d s next s2 l) (pull ids d (richer m s) next' (richer m s2) l')
funded-pull ids d (Gives o l) (Gives o' l') s n m next next' s2 k t e le w h ih counts =
    subst (λ o'. Funded n m (next o.value o.at l) (next' o'.value o'.at l')) (sym h.0)
    (let w' = subst (λ o. Counts k o.at.ticks l') h.0 w.2 in
    let tk : o.at.taken ≡ k = ap (λ o. o.at.taken) (sym h.0) ∙ w.0 in
    let same : o'.at.ticks ≡ o.at.ticks = ap (λ o. o.at.ticks) h.0 in
    ih o.value o.at l l' (omega arith) (subst (λ k. Counts k o.at.ticks l') (sym tk) w') h.1)
funded-pull ids d (Gives o l) (Ends e' s') s n m next next' s2 k t e le w h ih counts = absurd h
funded-pull ids d (Gives o l) (Needs s' f) s n m next next' s2 k t e le w h ih counts = absurd h
funded-pull ids d (Ends (Value v) s1) l' s n m next next' s2 k t e le w h ih counts =
    subst (λ l'. Funded n m (pull ids d s next s2 (Ends (Value v) s1)) (pull ids d (richer m s) next' (richer m s2) l')) (sym h.0)
    (funded-inside s n m (over ids (point s1) (waiting d (Value v) (point s2))) _ _ s1.taken e
    (λ lt. funded-value s n m (over ids (point s1) (waiting d (Value v) (point s2))) e lt v)
    (counts-pull ids d (Ends (Value v) (richer m s1)) (richer m s) next' (richer m s2) s1.taken s1.ticks (refl, omega arith) counts))
funded-pull ids d (Ends Starved s1) l' s n m next next' s2 k t e le w h ih counts = absurd h
funded-pull ids d (Ends (Trapped c) s1) l' s n m next next' s2 k t e le w h ih counts =
    subst (λ l'. Funded n m (pull ids d s next s2 (Ends (Trapped c) s1)) (pull ids d (richer m s) next' (richer m s2) l')) (sym h)
    (funded-inside s n m (over ids (point s1) (waiting d (Trapped c) (point s2))) _ _ s1.taken e
    (λ lt. ap (Ends (Trapped c)) (at_point-richer s n m (over ids (point s1) (waiting d (Trapped c) (point s2))) e lt))
    (counts-pull ids d (Ends (Trapped c) (richer m s1)) (richer m s) next' (richer m s2) s1.taken s1.ticks (refl, omega arith) counts))
funded-pull ids d (Ends Spent s1) l' s n m next next' s2 k t e le w h ih counts =
    funded-spent (nat_le (s1.ticks + s2.ticks) (limit s)) n m _ (
      h.0,
      counts-earlier (pull ids d (richer m s) next' (richer m s2) l') h.0 (n + 1 + s2.ticks) (n + 1) (omega arith)
          (counts-pull ids d l' (richer m s) next' (richer m s2) h.0 (n + 1) h.1 counts),
    )
funded-pull ids d (Needs s1 g) (Needs s1' g') s n m next next' s2 k t e le w h ih counts =
    subst (λ s1'. Funded n m (pull ids d s next s2 (Needs s1 g)) (pull ids d (richer m s) next' (richer m s2) (Needs s1' g'))) (sym h.0)
    (let tk : s1.taken ≡ k = ap (λ s. s.taken) (sym h.0) ∙ w.0 in
    let same : s1'.ticks ≡ s1.ticks = ap (λ s. s.ticks) h.0 in
    let w2 = (λ (x : Val). subst (λ t. Counts (k + 1) t (g' x)) same (w.2 x)) in
    funded-inside s n m (over ids (point s1) (point s2)) _ _ k e
    (λ lt. (
      at_point-richer s n m (over ids (point s1) (point s2)) e lt,
      λ x. funded-pull ids d (g x) (g' x) s n m next next' s2 (k + 1) s1.ticks e
          (omega arith) (w2 x) (h.1 x) ih counts,
    ))
    (counts-pull ids d (Needs (richer m s1) g') (richer m s) next' (richer m s2) k s1.ticks (tk, omega arith, w2) counts))
funded-pull ids d (Needs s1 g) (Gives o l') s n m next next' s2 k t e le w h ih counts = absurd h
funded-pull ids d (Needs s1 g) (Ends e' s') s n m next next' s2 k t e le w h ih counts = absurd h

-- a composition, whose right side has a budget of its own, the ticks left at its beginning
pub funded-piped : (ids : List ℕ) (d : ℕ) (r r' : Proc) (s : State) (n nb m j t2 : ℕ) (base : Point) (l l' : Proc) →
    limit s ≡ n → nb ≡ s.left → s.ticks ≤ base.ticks → Counts j t2 r' → Funded nb m r r' → Counts base.taken base.ticks l' → Funded n m l l' →
    Funded n m (piped ids d s r base l) (piped ids d (richer m s) r' base l')
funded-piped ids d (Gives o r) (Gives o' r') s n nb m j t2 base l l' e b le w h wl hl =
    subst (λ o'. Funded n m (piped ids d s (Gives o r) base l) (piped ids d (richer m s) (Gives o' r') base l')) (sym h.0)
    (let w2 = subst (λ o. Counts j o.at.ticks r') h.0 w.2 in
    let tk : o.at.taken ≡ j = ap (λ o. o.at.taken) (sym h.0) ∙ w.0 in
    funded-inside s n m (over ids base o.at) _ _ base.taken e
    (λ lt. (refl, funded-piped ids d r r' s n nb m j o.at.ticks base l l' e b le w2 h.1 wl hl))
    (counts-piped ids d (Gives o r') (richer m s) j o.at.ticks base l' (tk, omega arith, w2) wl))
funded-piped ids d (Gives o r) (Ends e' s') s n nb m j t2 base l l' e b le w h wl hl = absurd h
funded-piped ids d (Gives o r) (Needs s' f) s n nb m j t2 base l l' e b le w h wl hl = absurd h
funded-piped ids d (Ends (Value v) s2) r' s n nb m j t2 base l l' e b le w h wl hl =
    subst (λ r'. Funded n m (piped ids d s (Ends (Value v) s2) base l) (piped ids d (richer m s) r' base l')) (sym h.0)
    (funded-inside s n m (over ids base (point s2)) _ _ base.taken e (λ lt. funded-value s n m (over ids base (point s2)) e lt v)
    (counts-piped ids d (Ends (Value v) (richer m s2)) (richer m s) s2.taken s2.ticks base l' (refl, omega arith) wl))
funded-piped ids d (Ends Starved s2) r' s n nb m j t2 base l l' e b le w h wl hl = absurd h
funded-piped ids d (Ends (Trapped c) s2) r' s n nb m j t2 base l l' e b le w h wl hl =
    subst (λ r'. Funded n m (piped ids d s (Ends (Trapped c) s2) base l) (piped ids d (richer m s) r' base l')) (sym h)
    (funded-inside s n m (over ids base (point s2)) _ _ base.taken e (λ lt. ap (Ends (Trapped c)) (at_point-richer s n m (over ids base (point s2)) e lt))
    (counts-piped ids d (Ends (Trapped c) (richer m s2)) (richer m s) s2.taken s2.ticks base l' (refl, omega arith) wl))
funded-piped ids d (Ends Spent s2) r' s n nb m j t2 base l l' e b le w h wl hl =
    funded-spent (nat_le (base.ticks + s2.ticks) (limit s)) n m _ (
      base.taken,
      counts-earlier (piped ids d (richer m s) r' base l') base.taken (base.ticks + (nb + 1)) (n + 1) (omega arith)
          (counts-piped ids d r' (richer m s) h.0 (nb + 1) base l' h.1 wl),
    )
funded-piped ids d (Needs s2 f) (Needs s2' g) s n nb m j t2 base l l' e b le w h wl hl =
    subst (λ s2'. Funded n m (piped ids d s (Needs s2 f) base l) (piped ids d (richer m s) (Needs s2' g) base l')) (sym h.0)
    (let same : s2'.ticks ≡ s2.ticks = ap (λ s. s.ticks) h.0 in
    let w2 = (λ (x : Val). subst (λ t. Counts (j + 1) t (g x)) same (w.2 x)) in
    funded-pull ids d l l' s n m (λ v p l. piped ids d s (f v) p l) (λ v p l. piped ids d (richer m s) (g v) p l) s2 base.taken base.ticks e le wl hl
    (λ v p q q' lt wq hq. funded-piped ids d (f v) (g v) s n nb m (j + 1) s2.ticks p q q' e b lt (w2 v) (h.1 v) wq hq)
    (λ v p q' wq. counts-piped ids d (g v) (richer m s) (j + 1) s2.ticks p q' (w2 v) wq))
funded-piped ids d (Needs s2 f) (Gives o r') s n nb m j t2 base l l' e b le w h wl hl = absurd h
funded-piped ids d (Needs s2 f) (Ends e' s') s n nb m j t2 base l l' e b le w h wl hl = absurd h

-- a called body, as its caller sees it
pub funded-seen : (locals : List Slot) (p q : Proc) (n m : ℕ) → Funded n m p q → Funded n m (seen_proc locals p) (seen_proc locals q)
funded-seen locals (Gives o p) (Gives o' q) n m h = (ap (out_seen locals) h.0, funded-seen locals p q n m h.1)
funded-seen locals (Gives o p) (Ends e s) n m h = absurd h
funded-seen locals (Gives o p) (Needs s f) n m h = absurd h
funded-seen locals (Ends (Value v) s) q n m h = (ap (seen_proc locals) h.0, h.1)
funded-seen locals (Ends Starved s) q n m h = absurd h
funded-seen locals (Ends (Trapped c) s) q n m h = ap (seen_proc locals) h
funded-seen locals (Ends Spent s) q n m h = (h.0, counts-seen locals q h.0 (n + 1) h.1)
funded-seen locals (Needs s f) (Needs s' g) n m h = (ap (back locals) h.0, λ x. funded-seen locals (f x) (g x) n m (h.1 x))
funded-seen locals (Needs s f) (Gives o q) n m h = absurd h
funded-seen locals (Needs s f) (Ends e s') n m h = absurd h
