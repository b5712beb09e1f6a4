-- What stands within a limit of ticks, and that a composition rests on the state that it began at through its limit of ticks alone.
use Rattle.std.specs.Prelude.{ℕ, ◌-◌, ◌≤◌, ◌<◌, List, ◌≡◌, refl, nat_le}
use Rattle.std.proofs.Common.{ap, ◌∙◌}
use Rattle.std.proofs.lemmas.Bool.{le-leb, lt-leb}
use Rattle.zir_bit_tree.specs.declared.value.Val.{Val}
use Rattle.zir_bit_meaning.specs.Trace.{State, Point, point}
use Rattle.zir_bit_meaning.specs.Composition.{limit, over, at_point, waiting}
use Rattle.zir_bit_laws.specs.Process.{Proc, Gives, Ends, Needs, spent_proc, end_proc, holds, inside, pull, piped}
use Rattle.zir_bit_laws.proofs.Equations.{funext}

-- what follows at no more ticks than the limit
pub holds-within : (n m : ℕ) (p : Proc) → n ≤ m → holds (nat_le n m) p ≡ p
holds-within n m p h = rw (le-leb n m h) refl

-- what follows past the limit
pub holds-past : (n m : ℕ) (p : Proc) → m < n → holds (nat_le n m) p ≡ spent_proc
holds-past n m p h = rw (lt-leb n m h) refl

-- the state at a point
pub at_point-limit : (s s' : State) (p : Point) → limit s ≡ limit s' → at_point s p ≡ at_point s' p
at_point-limit s s' p e = ap (λ n. record { taken = p.taken; ticks = p.ticks; left = n - p.ticks; store = p.store }) e

-- what follows within the limit
inside-limit : (s s' : State) (p : Point) (a b : Proc) → limit s ≡ limit s' → a ≡ b → inside s p a ≡ inside s' p b
inside-limit s s' p a b e h = ap (λ n. holds (nat_le p.ticks n) a) e ∙ ap (λ a. inside s' p a) h

-- a left side that runs up to its next output
pub pull-limit : (ids : List ℕ) (d : ℕ) (s s' : State) (next next' : Val → Point → Proc → Proc) (s2 : State) (l : Proc) →
    limit s ≡ limit s' → ((v : Val) (p : Point) (l : Proc) → next v p l ≡ next' v p l) → pull ids d s next s2 l ≡ pull ids d s' next' s2 l
pull-limit ids d s s' next next' s2 (Gives o l) e h = h o.value o.at l
pull-limit ids d s s' next next' s2 (Ends x s1) e h =
    let p = over ids (point s1) (waiting d x (point s2)) in inside-limit s s' p _ _ e (ap (end_proc x) (at_point-limit s s' p e))
pull-limit ids d s s' next next' s2 (Needs s1 g) e h =
    let p = over ids (point s1) (point s2) in
    inside-limit s s' p _ _ e
    (ap (λ q. Needs q (λ x. pull ids d s next s2 (g x))) (at_point-limit s s' p e)
    ∙ ap (Needs (at_point s' p)) (funext _ _ (λ x. pull-limit ids d s s' next next' s2 (g x) e h)))

-- a composition
pub piped-limit : (ids : List ℕ) (d : ℕ) (s s' : State) (r : Proc) (b : Point) (l : Proc) → limit s ≡ limit s' → piped ids d s r b l ≡ piped ids d s' r b l
piped-limit ids d s s' (Gives o r) b l e =
    let p = over ids b o.at in inside-limit s s' p _ _ e (ap (Gives (record { value = o.value; at = p })) (piped-limit ids d s s' r b l e))
piped-limit ids d s s' (Ends x s2) b l e =
    let p = over ids b (point s2) in inside-limit s s' p _ _ e (ap (end_proc x) (at_point-limit s s' p e))
piped-limit ids d s s' (Needs s2 f) b l e = pull-limit ids d s s' _ _ s2 l e (λ v p l. piped-limit ids d s s' (f v) p l e)
