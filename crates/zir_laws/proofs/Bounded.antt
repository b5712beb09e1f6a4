-- Within its budget a process stays inside its limit of ticks, and each element and each output costs it one.
use Rattle.std.specs.Prelude.{ℕ, zero, suc, ◌+◌, ◌≤◌, ◌<◌, List, ◌≡◌, Bool, true, false, nat_le, refl}
use Rattle.std.proofs.Common.{◌∙◌, arith}
use Rattle.std.proofs.lemmas.Bool.{leb-true}
use Rattle.zir_tree.specs.declared.value.Val.{Val}
use Rattle.zir_tree.specs.declared.value.Slot.{Slot}
use Rattle.zir_tree.specs.declared.ends.End.{End}
use Rattle.zir_tree.specs.declared.ends.End.TheVariants.{Value, Starved, Trap as Trapped, Spent}
use Rattle.zir_meaning.specs.Trace.{State, Point, point}
use Rattle.zir_meaning.specs.Evaluation.{Eval, Got, Traps, RunsOut}
use Rattle.zir_meaning.specs.Composition.{limit, over, at_point, waiting}
use Rattle.zir_laws.specs.Process.{Proc, Gives, Ends, Needs, end_proc, NextProc, then_proc, tick_proc, tick_proc_of, with_proc, choose_proc, holds, inside, pull, piped}
use Rattle.zir_laws.specs.Acts.{seen_proc}
use Rattle.zir_laws.proofs.Evaluating.{EvalKeeps}

-- from t ticks on each output stands at more ticks than what came before it and at no more than n, each element costs a tick, and each state has n ticks in all
abbrev pub Bounded : ℕ → ℕ → Proc → Type 0
Bounded n t (Gives o p) = (t < o.at.ticks) × (o.at.ticks ≤ n) × Bounded n o.at.ticks p
Bounded n t (Ends (Value v) s) = (t ≤ s.ticks) × (limit s ≡ n)
Bounded n t (Ends Starved s) = ⊥
Bounded n t (Ends (Trapped c) s) = (t ≤ s.ticks) × (limit s ≡ n)
Bounded n t (Ends Spent s) = Unit {0}
Bounded n t (Needs s f) = (t ≤ s.ticks) × (limit s ≡ n) × ((x : Val) → Bounded n (s.ticks + 1) (f x))

-- a process that is bounded from some ticks on is bounded from fewer
pub bounded-earlier : (p : Proc) (n t u : ℕ) → u ≤ t → Bounded n t p → Bounded n u p
bounded-earlier (Gives o p) n t u le h = (omega arith, h.1, h.2)
bounded-earlier (Ends (Value v) s) n t u le h = (omega arith, h.1)
bounded-earlier (Ends Starved s) n t u le h = h
bounded-earlier (Ends (Trapped c) s) n t u le h = (omega arith, h.1)
bounded-earlier (Ends Spent s) n t u le h = tt
bounded-earlier (Needs s f) n t u le h = (omega arith, h.1, h.2)

-- what follows is bounded from each state of n ticks in all
abbrev pub NextBounded : ℕ → NextProc → Type 0
NextBounded n next = (v : Val) (s : State) → limit s ≡ n → Bounded n s.ticks (next v s)

-- a process and what follows it
pub bounded-then : (p : Proc) (next : NextProc) (n t : ℕ) → Bounded n t p → NextBounded n next → Bounded n t (then_proc p next)
bounded-then (Gives o p) next n t h k = (h.0, h.1, bounded-then p next n o.at.ticks h.2 k)
bounded-then (Ends (Value v) s) next n t h k = bounded-earlier (next v s) n s.ticks t h.0 (k v s h.1)
bounded-then (Ends Starved s) next n t h k = h
bounded-then (Ends (Trapped c) s) next n t h k = h
bounded-then (Ends Spent s) next n t h k = tt
bounded-then (Needs s f) next n t h k = (h.0, h.1, λ x. bounded-then (f x) next n (s.ticks + 1) (h.2 x) k)

-- one of these ticks, and then what follows
bounded-tick_of : (l n t : ℕ) (s : State) (next : State → Proc) → s.ticks + l ≡ n →
    ((s' : State) → s.ticks + 1 ≤ s'.ticks → limit s' ≡ n → Bounded n t (next s')) →
    Bounded n t (tick_proc_of l s next)
bounded-tick_of zero n t s next e k = tt
bounded-tick_of (suc l) n t s next e k = k (record s { ticks = s.ticks + 1; left = l }) (omega arith) (omega arith)

-- one tick, and then what follows
pub bounded-tick : (n t : ℕ) (s : State) (next : State → Proc) → limit s ≡ n → ((s' : State) → s.ticks + 1 ≤ s'.ticks → limit s' ≡ n → Bounded n t (next s')) →
    Bounded n t (tick_proc s next)
bounded-tick n t s next e k = bounded-tick_of s.left n t s next e k

-- a process that evaluates first
pub bounded-with : (e : Eval) (next : NextProc) (n : ℕ) (s : State) → limit s ≡ n → EvalKeeps s e → NextBounded n next → Bounded n s.ticks (with_proc e next)
bounded-with (Got v s') next n s e h k = bounded-earlier (next v s') n s'.ticks s.ticks h.1 (k v s' (h.2 ∙ e))
bounded-with (Traps c s') next n s e h k = (h.1, h.2 ∙ e)
bounded-with RunsOut next n s e h k = tt

-- one of two
pub bounded-choose : (b : Bool) (p q : State → Proc) (s : State) (n t : ℕ) → Bounded n t (p s) → Bounded n t (q s) → Bounded n t (choose_proc b p q s)
bounded-choose true p q s n t h g = h
bounded-choose false p q s n t h g = g

-- what follows at a point within the limit
bounded-inside : (n t : ℕ) (s : State) (p : Point) (next : Proc) → limit s ≡ n → (p.ticks ≤ n → Bounded n t next) → Bounded n t (inside s p next)
bounded-inside n t s p next e k = test (nat_le p.ticks (limit s)) refl
  where
    test : (b : Bool) → nat_le p.ticks (limit s) ≡ b → Bounded n t (holds b next)
    test true q = let le : p.ticks ≤ limit s = leb-true p.ticks (limit s) q in k (omega arith)
    test false q = tt

-- a state at a point within the limit has as many ticks in all
limit-at_point : (n : ℕ) (s : State) (p : Point) → limit s ≡ n → p.ticks ≤ n → limit (at_point s p) ≡ n
limit-at_point n s p e le = omega arith

-- an end of one side of a composition, at a point within the limit of the whole
bounded-end : (e : End) (m u n t : ℕ) (s1 s : State) (p : Point) → Bounded m u (Ends e s1) → (u ≤ s1.ticks → t ≤ p.ticks) → limit s ≡ n →
    Bounded n t (inside s p (end_proc e (at_point s p)))
bounded-end (Value v) m u n t s1 s p h k e = bounded-inside n t s p _ e (λ le. (k h.0, limit-at_point n s p e le))
bounded-end Starved m u n t s1 s p h k e = absurd h
bounded-end (Trapped c) m u n t s1 s p h k e = bounded-inside n t s p _ e (λ le. (k h.0, limit-at_point n s p e le))
bounded-end Spent m u n t s1 s p h k e = bounded-inside n t s p _ e (λ le. tt)

-- a left side that runs up to its next output
bounded-pull : (ids : List ℕ) (d : ℕ) (l : Proc) (n t : ℕ) (s : State) (next : Val → Point → Proc → Proc) (s2 : State) → limit s ≡ n → Bounded n t l →
    ((v : Val) (p : Point) (l' : Proc) → Bounded n p.ticks l' → Bounded n (p.ticks + s2.ticks) (next v p l')) → Bounded n (t + s2.ticks) (pull ids d s next s2 l)
bounded-pull ids d (Gives o l) n t s next s2 e h k =
    bounded-earlier (next o.value o.at l) n (o.at.ticks + s2.ticks) (t + s2.ticks) (omega arith) (k o.value o.at l h.2)
bounded-pull ids d (Ends x s1) n t s next s2 e h k = bounded-end x n t n (t + s2.ticks) s1 s (over ids (point s1) (waiting d x (point s2))) h (λ le. omega arith) e
bounded-pull ids d (Needs s1 g) n t s next s2 e h k =
    let p = over ids (point s1) (point s2) in
    bounded-inside n (t + s2.ticks) s p _ e
    (λ le. (
      omega arith,
      limit-at_point n s p e le,
      λ x. bounded-earlier (pull ids d s next s2 (g x)) n (s1.ticks + 1 + s2.ticks) (p.ticks + 1) (omega arith)
          (bounded-pull ids d (g x) n (s1.ticks + 1) s next s2 e (h.2 x) k),
    ))

-- a composition, from the left side's last point and the right side's ticks
pub bounded-piped : (ids : List ℕ) (d : ℕ) (r : Proc) (m n t : ℕ) (s : State) (base : Point) (l : Proc) → limit s ≡ n → Bounded m t r → Bounded n base.ticks l →
    Bounded n (base.ticks + t) (piped ids d s r base l)
bounded-piped ids d (Gives o r) m n t s base l e hr hl =
    bounded-inside n (base.ticks + t) s (over ids base o.at) _ e (λ le. (omega arith, le, bounded-piped ids d r m n o.at.ticks s base l e hr.2 hl))
bounded-piped ids d (Ends x s2) m n t s base l e hr hl = bounded-end x m t n (base.ticks + t) s2 s (over ids base (point s2)) hr (λ le. omega arith) e
bounded-piped ids d (Needs s2 f) m n t s base l e hr hl =
    bounded-earlier (pull ids d s (λ v p l'. piped ids d s (f v) p l') s2 l) n (base.ticks + s2.ticks) (base.ticks + t) (omega arith)
    (bounded-pull ids d l n base.ticks s (λ v p l'. piped ids d s (f v) p l') s2 e hl
    (λ v p l' h. bounded-earlier (piped ids d s (f v) p l') n (p.ticks + (s2.ticks + 1)) (p.ticks + s2.ticks) (omega arith)
    (bounded-piped ids d (f v) m n (s2.ticks + 1) s p l' e (hr.2 v) h)))

-- a called body, as its caller sees it
pub bounded-seen : (locals : List Slot) (p : Proc) (n t : ℕ) → Bounded n t p → Bounded n t (seen_proc locals p)
bounded-seen locals (Gives o p) n t h = (h.0, h.1, bounded-seen locals p n o.at.ticks h.2)
bounded-seen locals (Ends (Value v) s) n t h = h
bounded-seen locals (Ends Starved s) n t h = h
bounded-seen locals (Ends (Trapped c) s) n t h = h
bounded-seen locals (Ends Spent s) n t h = tt
bounded-seen locals (Needs s f) n t h = (h.0, h.1, λ x. bounded-seen locals (f x) n (s.ticks + 1) (h.2 x))
