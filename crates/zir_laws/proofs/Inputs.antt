-- Over the elements of an input the trace over elements with their points is the trace itself.
use Rattle.std.specs.Prelude.{ℕ, ◌+◌, ◌-◌, ◌≤◌, List, [], ◌∷◌, ◌≡◌, refl, nat_le}
use Rattle.std.proofs.Common.{sym, ap, ◌∙◌, arith, subst}
use Rattle.std.proofs.lemmas.Bool.{le-leb}
use Rattle.zir_tree.specs.declared.value.Val.{Val}
use Rattle.zir_tree.specs.declared.ends.End.{End}
use Rattle.zir_tree.specs.declared.ends.End.TheVariants.{Value, Starved, Trap as Trapped, Spent}
use Rattle.zir_meaning.specs.Store.{Store}
use Rattle.zir_meaning.specs.Trace.{State, Point, point, Trace, ends, gives}
use Rattle.zir_meaning.specs.Composition.{limit, over, at_point, within}
use Rattle.zir_meaning.specs.Received.{from_input}
use Rattle.zir_laws.specs.Process.{Proc, Gives, Ends, Needs, run}
use Rattle.zir_laws.specs.Feed.{feed, FromInput}
use Rattle.zir_laws.proofs.Equations.{merge-none}
use Rattle.zir_laws.proofs.Counts.{Counts}
use Rattle.zir_laws.proofs.Late.{within-spent}
use Rattle.zir_laws.proofs.Bounded.{Bounded}
use Rattle.zir_laws.specs.Acts.{acts}
use Rattle.zir_laws.proofs.Programs.{proceeds-acts, run-acts}
use Rattle.zir_laws.proofs.Feed.{feeds}

-- where a run begins, with so many ticks left
abbrev begin : ℕ → Store → State
begin n store = record { taken = 0; ticks = 0; left = n; store = store }

-- the point of an input's k-th element
abbrev element_point : Store → ℕ → Point
element_point store k = record { taken = k; ticks = 0; store = store }

-- a trace of which no element is left
abbrev no_rest : Trace → Trace
no_rest t = record t { rest = [] }

-- a point of so many elements over the point of that element is itself
over-element : (store : Store) (k : ℕ) (p : Point) → p.taken ≡ k → over [] (element_point store k) p ≡ p
over-element store k p e =
    let z : 0 + p.ticks ≡ p.ticks = omega arith in
    ap (λ taken. record { taken = taken; ticks = 0 + p.ticks; store = merge' }) (sym e)
    ∙ ap (λ ticks. record { taken = p.taken; ticks = ticks; store = merge' }) z
    ∙ ap (λ store. record { taken = p.taken; ticks = p.ticks; store = store }) (merge-none store p.store)
  where
    merge' : Store
    merge' = (over [] (element_point store k) p).store

-- a state at its own point is itself
at_own_point : (n : ℕ) (store : Store) (s : State) → limit s ≡ n → at_point (begin n store) (point s) ≡ s
at_own_point n store s e =
    let z : 0 + n - s.ticks ≡ s.left = omega arith in ap (λ left. record { taken = s.taken; ticks = s.ticks; left = left; store = s.store }) z

-- what stands within n ticks stands
stands-within : (n : ℕ) (store : Store) (p : Point) (t : Trace) → p.ticks ≤ n → within (nat_le p.ticks (limit (begin n store))) t ≡ t
stands-within n store p t le = let z : p.ticks ≤ limit (begin n store) = omega arith in rw (le-leb p.ticks (limit (begin n store)) z) refl

-- an end over the point of the last element is that end
end-stands : (e : End) (n : ℕ) (store : Store) (k : ℕ) (s2 : State) → s2.taken ≡ k → limit s2 ≡ n →
    (let q = over [] (element_point store k) (point s2) in within (nat_le q.ticks (limit (begin n store)))
    (ends e (at_point (begin n store) q) [])) ≡ ends e s2 []
end-stands e n store k s2 t b =
    ap (λ q. within (nat_le q.ticks (limit (begin n store))) (ends e (at_point (begin n store) q) [])) (over-element store k (point s2) t)
    ∙ stands-within n store (point s2) (ends e (at_point (begin n store) (point s2)) []) (omega arith)
    ∙ ap (λ s. ends e s []) (at_own_point n store s2 b)

-- a process that has taken k elements of an input, over the rest of it
feed-input : (p : Proc) (n k t u : ℕ) (store : Store) → Counts k t p → Bounded n u p → (xs : List Val) →
    feed (begin n store) p (element_point store k) (from_input store k xs) ≡ no_rest (run p xs)
feed-input (Gives o p) n k t u store h b xs =
    ap (λ q. within (nat_le q.ticks (limit (begin n store)))
    (gives (record { value = o.value; at = q }) (feed (begin n store) p (element_point store k) (from_input store k xs))))
    (over-element store k o.at h.0)
    ∙ stands-within n store o.at _ b.1
    ∙ ap (gives o) (feed-input p n k o.at.ticks o.at.ticks store h.2 b.2 xs)
feed-input (Ends (Value v) s2) n k t u store h b xs = end-stands (Value v) n store k s2 h.0 b.1
feed-input (Ends Starved s2) n k t u store h b xs = absurd h
feed-input (Ends (Trapped c) s2) n k t u store h b xs = end-stands (Trapped c) n store k s2 h.0 b.1
feed-input (Ends Spent s2) n k t u store h b xs = within-spent _
feed-input (Needs s2 f) n k t u store h b [] = end-stands Starved n store k s2 h.0 b.1
feed-input (Needs s2 f) n k t u store h b (x ∷ xs) = feed-input (f x) n (k + 1) s2.ticks (s2.ticks + 1) store (h.2 x) (b.2 x) xs

-- over the elements of an input the trace is the component's own
pub from_input-trace : FromInput
from_input-trace core c n store xs =
    let s : State = begin n store in
    let z : limit s ≡ n = omega arith in
    feeds core c s (from_input store 0 xs)
    ∙ feed-input (acts core c s) n 0 0 0 store ((proceeds-acts core c).counts s)
    (subst (λ n. Bounded n 0 (acts core c s)) z ((proceeds-acts core c).bounded s)) xs
    ∙ ap no_rest (run-acts core c s xs)
