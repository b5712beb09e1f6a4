-- What is late stays late, and what is past the limit is spent.
use Rattle.std.specs.Prelude.{ℕ, ◌+◌, ◌≤◌, ◌<◌, List, ◌≡◌, refl, Bool, true, false, nat_le}
use Rattle.std.proofs.Common.{arith}
use Rattle.std.proofs.lemmas.Bool.{lt-leb}
use Rattle.zir_bit_tree.specs.declared.value.Val.{Val}
use Rattle.zir_bit_tree.specs.declared.ends.End.{End}
use Rattle.zir_bit_tree.specs.declared.ends.End.TheVariants.{Value, Starved, Trap as Trapped, Spent}
use Rattle.zir_bit_meaning.specs.Trace.{State, Point, point}
use Rattle.zir_bit_meaning.specs.Composition.{limit, over, at_point, waiting}
use Rattle.zir_bit_laws.specs.Process.{Proc, Gives, Ends, Needs, spent_proc, NextProc, then_proc, end_proc, holds, inside, pull, piped}
use Rattle.zir_bit_laws.proofs.Counts.{Counts}
use Rattle.zir_machine.specs.Late.{Late}

-- late by more is late by less
pub late-earlier : (p : Proc) (t u : ℕ) → u ≤ t → Late t p → Late u p
late-earlier (Gives o p) t u le h = (omega arith, late-earlier p t u le h.1)
late-earlier (Ends (Value v) s) t u le h = omega arith
late-earlier (Ends Starved s) t u le h = omega arith
late-earlier (Ends (Trapped c) s) t u le h = omega arith
late-earlier (Ends Spent s) t u le h = tt
late-earlier (Needs s f) t u le h = (omega arith, λ x. late-earlier (f x) t u le (h.1 x))

-- a process that counts from t ticks is late by t
pub late-counts : (p : Proc) (k t : ℕ) → Counts k t p → Late t p
late-counts (Gives o p) k t h = (h.1, late-earlier p o.at.ticks t h.1 (late-counts p k o.at.ticks h.2))
late-counts (Ends (Value v) s) k t h = h.1
late-counts (Ends Starved s) k t h = absurd h
late-counts (Ends (Trapped c) s) k t h = h.1
late-counts (Ends Spent s) k t h = tt
late-counts (Needs s f) k t h = (h.1, λ x. late-earlier (f x) s.ticks t h.1 (late-counts (f x) (k + 1) s.ticks (h.2 x)))

-- what follows from where it ends on
pub late-then : (p : Proc) (next : NextProc) (t : ℕ) → Late t p → ((v : Val) (s : State) → Late s.ticks (next v s)) → Late t (then_proc p next)
late-then (Gives o p) next t h n = (h.0, late-then p next t h.1 n)
late-then (Ends (Value v) s) next t h n = late-earlier (next v s) s.ticks t h (n v s)
late-then (Ends Starved s) next t h n = h
late-then (Ends (Trapped c) s) next t h n = h
late-then (Ends Spent s) next t h n = tt
late-then (Needs s f) next t h n = (h.0, λ x. late-then (f x) next t (h.1 x) n)

-- cut at a limit
late-holds : (b : Bool) (p : Proc) (t : ℕ) → Late t p → Late t (holds b p)
late-holds true p t h = h
late-holds false p t h = tt

-- an end of two sides, cut at the limit
late-inside-end : (ids : List ℕ) (s s1 : State) (p : Point) (e : End) (t1 t T : ℕ) → Late t1 (Ends e s1) → (t1 ≤ s1.ticks → T ≤ p.ticks) → Late T (inside s p (end_proc e (at_point s p)))
late-inside-end ids s s1 p (Value v) t1 t T h le = late-holds (nat_le p.ticks (limit s)) _ T (le h)
late-inside-end ids s s1 p Starved t1 t T h le = late-holds (nat_le p.ticks (limit s)) _ T (le h)
late-inside-end ids s s1 p (Trapped c) t1 t T h le = late-holds (nat_le p.ticks (limit s)) _ T (le h)
late-inside-end ids s s1 p Spent t1 t T h le = late-holds (nat_le p.ticks (limit s)) spent_proc T tt

-- a left side that is late by t1, while the right side waits at s2
pub late-pull : (ids : List ℕ) (d : ℕ) (s : State) (next : Val → Point → Proc → Proc) (s2 : State) (l : Proc) (t1 T : ℕ) → Late t1 l → T ≤ t1 + s2.ticks → ((v : Val) (p : Point) (l' : Proc) → t1 ≤ p.ticks → Late t1 l' → Late T (next v p l')) → Late T (pull ids d s next s2 l)
late-pull ids d s next s2 (Gives o l) t1 T h le n = n o.value o.at l h.0 h.1
late-pull ids d s next s2 (Ends e s1) t1 T h le n = late-inside-end ids s s1 (over ids (point s1) (waiting d e (point s2))) e t1 0 T h (λ a. omega arith)
late-pull ids d s next s2 (Needs s1 g) t1 T h le n =
    late-holds (nat_le (s1.ticks + s2.ticks) (limit s)) (Needs (at_point s (over ids (point s1) (point s2))) (λ x. pull ids d s next s2 (g x))) T
    (omega arith, λ x. late-pull ids d s next s2 (g x) t1 T (h.1 x) le n)

-- two sides, late by t2 and t1
pub late-piped : (ids : List ℕ) (d : ℕ) (s : State) (r : Proc) (b : Point) (l : Proc) (t2 t1 T : ℕ) → Late t2 r → Late t1 l → T ≤ b.ticks + t2 → T ≤ t1 + t2 → Late T (piped ids d s r b l)
late-piped ids d s (Gives o r) b l t2 t1 T h g le lf =
    late-holds (nat_le (b.ticks + o.at.ticks) (limit s)) (Gives (record { value = o.value; at = over ids b o.at }) (piped ids d s r b l)) T (omega arith, late-piped ids d s r b l t2 t1 T h.1 g le lf)
late-piped ids d s (Ends e s2) b l t2 t1 T h g le lf = late-inside-end ids s s2 (over ids b (point s2)) e t2 0 T h (λ a. omega arith)
late-piped ids d s (Needs s2 f) b l t2 t1 T h g le lf =
    late-pull ids d s (λ v p l'. piped ids d s (f v) p l') s2 l t1 T g (omega arith) (λ v p l' a k. late-piped ids d s (f v) p l' t2 t1 T (h.1 v) k (omega arith) lf)

-- past the limit nothing is left
past : (n m : ℕ) (p : Proc) → m < n → holds (nat_le n m) p ≡ spent_proc
past n m p h = rw (lt-leb n m h) refl

-- an end past the limit, or a spent one, is spent
past-end : (s s1 : State) (p : Point) (e : End) (t1 : ℕ) → Late t1 (Ends e s1) → (t1 ≤ s1.ticks → limit s < p.ticks) → inside s p (end_proc e (at_point s p)) ≡ spent_proc
past-end s s1 p (Value v) t1 h lt = past p.ticks (limit s) _ (lt h)
past-end s s1 p Starved t1 h lt = past p.ticks (limit s) _ (lt h)
past-end s s1 p (Trapped c) t1 h lt = past p.ticks (limit s) _ (lt h)
past-end s s1 p Spent t1 h lt = spent-holds (nat_le p.ticks (limit s))
  where
    spent-holds : (b : Bool) → holds b spent_proc ≡ spent_proc
    spent-holds true = refl
    spent-holds false = refl

-- a left side whose next event is past the limit
pub pull-past : (ids : List ℕ) (d : ℕ) (s : State) (next : Val → Point → Proc → Proc) (s2 : State) (l : Proc) (t1 : ℕ) → Late t1 l → limit s < t1 + s2.ticks → ((v : Val) (p : Point) (l' : Proc) → t1 ≤ p.ticks → Late t1 l' → next v p l' ≡ spent_proc) → pull ids d s next s2 l ≡ spent_proc
pull-past ids d s next s2 (Gives o l) t1 h lt n = n o.value o.at l h.0 h.1
pull-past ids d s next s2 (Ends e s1) t1 h lt n = past-end s s1 (over ids (point s1) (waiting d e (point s2))) e t1 h (λ a. omega arith)
pull-past ids d s next s2 (Needs s1 g) t1 h lt n = past (s1.ticks + s2.ticks) (limit s) _ (omega arith)

-- two sides whose next event is past the limit
pub piped-past : (ids : List ℕ) (d : ℕ) (s : State) (r : Proc) (b : Point) (l : Proc) (t2 t1 : ℕ) → Late t2 r → Late t1 l → limit s < b.ticks + t2 → limit s < t1 + t2 → piped ids d s r b l ≡ spent_proc
piped-past ids d s (Gives o r) b l t2 t1 h g lt lf = past (b.ticks + o.at.ticks) (limit s) _ (omega arith)
piped-past ids d s (Ends e s2) b l t2 t1 h g lt lf = past-end s s2 (over ids b (point s2)) e t2 h (λ a. omega arith)
piped-past ids d s (Needs s2 f) b l t2 t1 h g lt lf =
    pull-past ids d s (λ v p l'. piped ids d s (f v) p l') s2 l t1 g (omega arith) (λ v p l' a k. piped-past ids d s (f v) p l' t2 t1 (h.1 v) k (omega arith) lf)
