-- The trace over elements with their points is what the process gives over them.
use Rattle.std.specs.Prelude.{ℕ, zero, suc, ◌+◌, ◌-◌, List, [], ◌∷◌, ◌≡◌, refl, drop, length, nat_le}
use Rattle.std.proofs.Common.{sym, ap, ◌∙◌, arith}
use Rattle.zir_tree.specs.declared.value.Val.{Val}
use Rattle.zir_tree.specs.declared.ends.End.TheVariants.{Value, Starved, Trap as Trapped, Spent}
use Rattle.zir_meaning.specs.Trace.{State, Point, point, Out, nowhere}
use Rattle.zir_meaning.specs.Composition.{limit, point_at, over, at_point, joined, compose, fresh, values}
use Rattle.zir_meaning.specs.Received.{received}
use Rattle.zir_laws.specs.Process.{Proc, Gives, Ends, Needs, run}
use Rattle.zir_laws.specs.Feed.{feed, Feeds}
use Rattle.zir_laws.proofs.Counts.{Counts}
use Rattle.zir_laws.proofs.Late.{within-spent}
use Rattle.zir_laws.proofs.Joins.{Stands, stands-base, stands-next, gives-over, ends-over}
use Rattle.zir_laws.specs.Acts.{acts}
use Rattle.zir_laws.proofs.Programs.{proceeds-acts, run-acts}

-- no element is left of none
drop-none : (n : ℕ) → drop n (let none : List Val = [] in none) ≡ []
drop-none zero = refl
drop-none (suc n) = refl

-- a process that has taken j of all elements, the rest of them still to come
feeds-run : (p : Proc) (j t : ℕ) → Counts j t p → (s : State) (all : List Out) (base : Point) (os : List Out) →
    Stands s all j base os → point_at (point s) all (length all) ≡ point_at base os (length os) →
    joined [] s [] all Starved (at_point s (point_at (point s) all (length all))) (run p (values os)) ≡ feed s p base os
feeds-run (Gives o p) j t h s all base os st e =
    gives-over [] s o (point_at (point s) all o.at.taken) base _ _ (stands-base s all j base os st o.at.taken h.0)
    (feeds-run p j o.at.ticks h.2 s all base os st e)
feeds-run (Ends (Value v) s2) j t h s all base os st e =
    sym (ends-over [] s [] [] (Value v) (point s2) base (point_at (point s) all s2.taken) (sym (stands-base s all j base os st s2.taken h.0))
    (drop-none (base.taken - s.taken)))
feeds-run (Ends Starved s2) j t h s all base os st e = absurd h
feeds-run (Ends (Trapped c) s2) j t h s all base os st e =
    sym (ends-over [] s [] [] (Trapped c) (point s2) base (point_at (point s) all s2.taken) (sym (stands-base s all j base os st s2.taken h.0))
    (drop-none (base.taken - s.taken)))
feeds-run (Ends Spent s2) j t h s all base os st e =
    within-spent (nat_le (over [] (point_at (point s) all 0) (point nowhere)).ticks (limit s))
    ∙ sym (within-spent (nat_le (over [] base (point s2)).ticks (limit s)))
feeds-run (Needs s2 f) j t h s all base [] st e =
    sym (ends-over [] s [] [] Starved (point s2) base (point_at (point s) all (length all)) (sym e) (drop-none (base.taken - s.taken)))
feeds-run (Needs s2 f) j t h s all base (o ∷ os) st e =
    feeds-run (f o.value) (j + 1) s2.ticks (h.2 o.value) s all o.at os (stands-next s all j base o os st) e

-- the trace over elements with their points is what the process gives over them
pub feeds : Feeds
feeds core c s os =
    ap (λ t. compose [] s [] (received s os) t) (sym (run-acts core c (fresh s) (values os)))
    ∙ feeds-run (acts core c (fresh s)) 0 0 ((proceeds-acts core c).counts (fresh s)) s os (point s) os
    (λ i. let e : 0 + i ≡ i = omega arith in ap (λ i. point_at (point s) os i) e) refl
