-- A process counts the elements that it takes, and its ticks never fall.
use Rattle.std.specs.Prelude.{ℕ, zero, suc, ◌+◌, ◌≤◌, List, ◌≡◌, refl, Bool, true, false, nat_le}
use Rattle.std.proofs.Common.{sym, arith, subst}
use Rattle.zir_tree.specs.declared.value.Val.{Val}
use Rattle.zir_tree.specs.declared.value.Slot.{Slot}
use Rattle.zir_tree.specs.declared.ends.End.TheVariants.{Value, Starved, Trap as Trapped, Spent}
use Rattle.zir_meaning.specs.Trace.{State, Point, point}
use Rattle.zir_meaning.specs.Evaluation.{Eval, Got, Traps, RunsOut}
use Rattle.zir_meaning.specs.Composition.{limit, over, at_point, waiting}
use Rattle.zir_laws.specs.Process.{Proc, Gives, Ends, Needs, spent_proc, NextProc, then_proc, tick_proc, tick_proc_of, with_proc, choose_proc, holds, pull, piped}
use Rattle.zir_laws.specs.Acts.{seen_proc}
use Rattle.zir_laws.proofs.Evaluating.{EvalKeeps}

-- from k elements taken and no fewer ticks than t on, each point has taken what was consumed, and the ticks never fall
abbrev pub Counts : ℕ → ℕ → Proc → Type 0
Counts k t (Gives o p) = (o.at.taken ≡ k) × (t ≤ o.at.ticks) × Counts k o.at.ticks p
Counts k t (Ends (Value v) s) = (s.taken ≡ k) × (t ≤ s.ticks)
Counts k t (Ends Starved s) = ⊥
Counts k t (Ends (Trapped c) s) = (s.taken ≡ k) × (t ≤ s.ticks)
Counts k t (Ends Spent s) = Unit {0}
Counts k t (Needs s f) = (s.taken ≡ k) × (t ≤ s.ticks) × ((x : Val) → Counts (k + 1) s.ticks (f x))

-- a process that counts from some ticks counts from fewer
pub counts-earlier : (p : Proc) (k t u : ℕ) → u ≤ t → Counts k t p → Counts k u p
counts-earlier (Gives o p) k t u le h = (h.0, omega arith, h.2)
counts-earlier (Ends (Value v) s) k t u le h = (h.0, omega arith)
counts-earlier (Ends Starved s) k t u le h = h
counts-earlier (Ends (Trapped c) s) k t u le h = (h.0, omega arith)
counts-earlier (Ends Spent s) k t u le h = tt
counts-earlier (Needs s f) k t u le h = (h.0, omega arith, h.2)

-- what follows counts from the state that it gets
abbrev pub NextCounts : NextProc → Type 0
NextCounts next = (v : Val) (s : State) → Counts s.taken s.ticks (next v s)

-- a process that counts from a state counts from its numbers
pub counts-from : (p : Proc) (s : State) (k t : ℕ) → s.taken ≡ k → t ≤ s.ticks → Counts s.taken s.ticks p → Counts k t p
counts-from p s k t e le h = subst (λ k. Counts k t p) e (counts-earlier p s.taken s.ticks t le h)

-- a process and what follows it
pub counts-then : (p : Proc) (next : NextProc) (k t : ℕ) → Counts k t p → NextCounts next → Counts k t (then_proc p next)
counts-then (Gives o p) next k t h n = (h.0, h.1, counts-then p next k o.at.ticks h.2 n)
counts-then (Ends (Value v) s) next k t h n = counts-from (next v s) s k t h.0 h.1 (n v s)
counts-then (Ends Starved s) next k t h n = h
counts-then (Ends (Trapped c) s) next k t h n = h
counts-then (Ends Spent s) next k t h n = tt
counts-then (Needs s f) next k t h n = (h.0, h.1, λ x. counts-then (f x) next (k + 1) s.ticks (h.2 x) n)

-- one of these ticks, and then what follows
counts-tick_of : (n : ℕ) (s : State) (next : State → Proc) (k : ℕ) →
    ((s' : State) → s'.taken ≡ s.taken → Counts k s'.ticks (next s')) → Counts k s.ticks (tick_proc_of n s next)
counts-tick_of zero s next k h = tt
counts-tick_of (suc n) s next k h =
    let s' : State = record s { ticks = s.ticks + 1; left = n } in counts-earlier (next s') k (s.ticks + 1) s.ticks (omega arith) (h s' refl)

-- one tick, and then what follows
pub counts-tick : (s : State) (next : State → Proc) (k : ℕ) →
    ((s' : State) → s'.taken ≡ s.taken → Counts k s'.ticks (next s')) → Counts k s.ticks (tick_proc s next)
counts-tick s next k h = counts-tick_of s.left s next k h

-- a process that evaluates first
pub counts-with : (e : Eval) (next : NextProc) (s : State) → EvalKeeps s e → NextCounts next → Counts s.taken s.ticks (with_proc e next)
counts-with (Got v s') next s h n = counts-from (next v s') s' s.taken s.ticks h.0 h.1 (n v s')
counts-with (Traps c s') next s h n = (h.0, h.1)
counts-with RunsOut next s h n = tt

-- one of two
pub counts-choose : (b : Bool) (p q : State → Proc) (s : State) (k t : ℕ) → Counts k t (p s) → Counts k t (q s) → Counts k t (choose_proc b p q s)
counts-choose true p q s k t h g = h
counts-choose false p q s k t h g = g

-- a process where a test holds
counts-holds : (b : Bool) (p : Proc) (k t : ℕ) → Counts k t p → Counts k t (holds b p)
counts-holds true p k t h = h
counts-holds false p k t h = tt

-- a left side that runs up to its next output
pub counts-pull : (ids : List ℕ) (d : ℕ) (l : Proc) (s : State) (next : Val → Point → Proc → Proc) (s2 : State) (k t : ℕ) →
    Counts k t l → ((v : Val) (p : Point) (l' : Proc) → Counts p.taken p.ticks l' → Counts p.taken (p.ticks + s2.ticks) (next v p l')) →
    Counts k (t + s2.ticks) (pull ids d s next s2 l)
counts-pull ids d (Gives o l) s next s2 k t h n =
    counts-earlier (next o.value o.at l) k (o.at.ticks + s2.ticks) (t + s2.ticks) (omega arith)
    (subst (λ k. Counts k (o.at.ticks + s2.ticks) (next o.value o.at l)) h.0 (n o.value o.at l (subst (λ k. Counts k o.at.ticks l) (sym h.0) h.2)))
counts-pull ids d (Ends (Value v) s1) s next s2 k t h n =
    counts-holds (nat_le (s1.ticks + s2.ticks) (limit s)) (Ends (Value v) (at_point s (over ids (point s1) (waiting d (Value v) (point s2))))) k (t + s2.ticks)
    (h.0, omega arith)
counts-pull ids d (Ends Starved s1) s next s2 k t h n = absurd h
counts-pull ids d (Ends (Trapped c) s1) s next s2 k t h n =
    counts-holds (nat_le (s1.ticks + s2.ticks) (limit s)) (Ends (Trapped c) (at_point s (over ids (point s1) (waiting d (Trapped c) (point s2))))) k (t + s2.ticks)
    (h.0, omega arith)
counts-pull ids d (Ends Spent s1) s next s2 k t h n = counts-holds (nat_le (s1.ticks + s2.ticks) (limit s)) spent_proc k (t + s2.ticks) tt
counts-pull ids d (Needs s1 g) s next s2 k t h n =
    counts-holds (nat_le (s1.ticks + s2.ticks) (limit s)) (Needs (at_point s (over ids (point s1) (point s2))) (λ x. pull ids d s next s2 (g x))) k (t + s2.ticks)
    (h.0, omega arith, λ x. counts-pull ids d (g x) s next s2 (k + 1) s1.ticks (h.2 x) n)

-- a composition, from the left side's last point and the right side's ticks
pub counts-piped : (ids : List ℕ) (d : ℕ) (r : Proc) (s : State) (j t2 : ℕ) (base : Point) (l : Proc) →
    Counts j t2 r → Counts base.taken base.ticks l → Counts base.taken (base.ticks + t2) (piped ids d s r base l)
counts-piped ids d (Gives o r) s j t2 base l hr hl =
    counts-holds (nat_le (base.ticks + o.at.ticks) (limit s))
    (Gives (record { value = o.value; at = over ids base o.at }) (piped ids d s r base l)) base.taken (base.ticks + t2)
    (refl, omega arith, counts-piped ids d r s j o.at.ticks base l hr.2 hl)
counts-piped ids d (Ends (Value v) s2) s j t2 base l hr hl =
    counts-holds (nat_le (base.ticks + s2.ticks) (limit s)) (Ends (Value v) (at_point s (over ids base (point s2)))) base.taken (base.ticks + t2)
    (refl, omega arith)
counts-piped ids d (Ends Starved s2) s j t2 base l hr hl = absurd hr
counts-piped ids d (Ends (Trapped c) s2) s j t2 base l hr hl =
    counts-holds (nat_le (base.ticks + s2.ticks) (limit s)) (Ends (Trapped c) (at_point s (over ids base (point s2)))) base.taken (base.ticks + t2)
    (refl, omega arith)
counts-piped ids d (Ends Spent s2) s j t2 base l hr hl = counts-holds (nat_le (base.ticks + s2.ticks) (limit s)) spent_proc base.taken (base.ticks + t2) tt
counts-piped ids d (Needs s2 f) s j t2 base l hr hl =
    counts-earlier (pull ids d s (λ v p l'. piped ids d s (f v) p l') s2 l) base.taken (base.ticks + s2.ticks) (base.ticks + t2) (omega arith)
    (counts-pull ids d l s (λ v p l'. piped ids d s (f v) p l') s2 base.taken base.ticks hl (λ v p l' h. counts-piped ids d (f v) s (j + 1) s2.ticks p l' (hr.2 v) h))

-- a called body, as its caller sees it
pub counts-seen : (locals : List Slot) (p : Proc) (k t : ℕ) → Counts k t p → Counts k t (seen_proc locals p)
counts-seen locals (Gives o p) k t h = (h.0, h.1, counts-seen locals p k o.at.ticks h.2)
counts-seen locals (Ends (Value v) s) k t h = h
counts-seen locals (Ends Starved s) k t h = h
counts-seen locals (Ends (Trapped c) s) k t h = h
counts-seen locals (Ends Spent s) k t h = tt
counts-seen locals (Needs s f) k t h = (h.0, h.1, λ x. counts-seen locals (f x) (k + 1) s.ticks (h.2 x))
