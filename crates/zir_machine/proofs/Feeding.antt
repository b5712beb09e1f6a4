-- What a process gives over elements with their points.
use Rattle.std.specs.Prelude.{ℕ, ◌+◌, ◌≤◌, ◌<◌, ◌≡◌, refl, Bool, true, false, nat_le, List, [], ◌∷◌, ◌++◌, Option, Some, None}
use Rattle.std.proofs.Common.{ap, sym, ◌∙◌, arith}
use Rattle.std.proofs.lemmas.Bool.{lt-leb, le-leb}
use Rattle.zir_bit_tree.specs.declared.value.Val.{Val}
use Rattle.zir_tree.specs.declared.ends.Stamp.{Stamp}
use Rattle.zir_bit_tree.specs.declared.ends.End.TheVariants.{Value, Starved, Trap as Trapped, Spent}
use Rattle.zir_bit_meaning.specs.Trace.{State, Point, point, Out, Trace, spent, ends, gives}
use Rattle.zir_bit_meaning.specs.Composition.{limit, over, at_point, within}
use Rattle.zir_bit_laws.specs.Process.{Proc, Gives, Ends, Needs, spent_proc}
use Rattle.zir_bit_laws.specs.Feed.{feed}
use Rattle.zir_bit_laws.specs.Offers.{Fed}
use Rattle.zir_steps.specs.History.{RisesFrom}
use Rattle.zir_machine.specs.declared.machine.Element.{Element}
use Rattle.zir_machine.specs.Late.{Late}
use Rattle.zir_machine.specs.MachineStands.{point_of, out_of, waiting, offer_of, next_after, base_after}

-- nothing is cut within the limit
inside : (n m : ℕ) (t : Trace) → n ≤ m → within (nat_le n m) t ≡ t
inside n m t h = rw (le-leb n m h) refl

-- all is cut past the limit
outside : (n m : ℕ) (t : Trace) → m < n → within (nat_le n m) t ≡ spent
outside n m t h = rw (lt-leb n m h) refl

-- what is spent stays so
spent-within : (b : Bool) → within b spent ≡ spent
spent-within true = refl
spent-within false = refl

-- an output within the limit
pub feed_gives : (s : State) (o : Out) (p : Proc) (base : Point) (os : List Out) → base.ticks + o.at.ticks ≤ limit s → feed s (Gives o p) base os ≡ gives (record { value = o.value; at = over [] base o.at }) (feed s p base os)
feed_gives s o p base os h = inside (base.ticks + o.at.ticks) (limit s) _ h

-- a value within the limit
pub feed_value : (s : State) (v : Val) (s2 : State) (base : Point) (os : List Out) → base.ticks + s2.ticks ≤ limit s → feed s (Ends (Value v) s2) base os ≡ ends (Value v) (at_point s (over [] base (point s2))) []
feed_value s v s2 base os h = inside (base.ticks + s2.ticks) (limit s) _ h

-- a need within the limit, where no element is left
pub feed_needs : (s s2 : State) (f : Val → Proc) (base : Point) → base.ticks + s2.ticks ≤ limit s → feed s (Needs s2 f) base [] ≡ ends Starved (at_point s (over [] base (point s2))) []
feed_needs s s2 f base h = inside (base.ticks + s2.ticks) (limit s) _ h

-- a spent process
pub feed_spent : (s : State) (base : Point) (os : List Out) → feed s spent_proc base os ≡ spent
feed_spent s base os = spent-within (nat_le (base.ticks + 0) (limit s))

-- what is late past the limit is spent, where the elements rise
pub feed_past : (s : State) (p : Proc) (t : ℕ) (base : Point) (os : List Out) → Late t p → RisesFrom base.taken base.ticks os → limit s < base.ticks + t → feed s p base os ≡ spent
feed_past s (Gives o p) t base os l r h = outside (base.ticks + o.at.ticks) (limit s) _ (omega (arith, l.0))
feed_past s (Ends (Value v) s2) t base os l r h = outside (base.ticks + s2.ticks) (limit s) _ (omega (arith, l))
feed_past s (Ends Starved s2) t base os l r h = outside (base.ticks + s2.ticks) (limit s) _ (omega (arith, l))
feed_past s (Ends (Trapped c) s2) t base os l r h = outside (base.ticks + s2.ticks) (limit s) _ (omega (arith, l))
feed_past s (Ends Spent s2) t base os l r h = spent-within (nat_le (base.ticks + s2.ticks) (limit s))
feed_past s (Needs s2 f) t base [] l r h = outside (base.ticks + s2.ticks) (limit s) _ (omega (arith, l.0))
feed_past s (Needs s2 f) t base (o ∷ os) l r h = feed_past s (f o.value) t o.at os (l.1 o.value) r.2 (omega (arith, r.1))

-- a step leaves what is given over the elements
pub feed_moved : (s : State) (next : Option Element) (j : Option Val) (p q : Proc) (base : Stamp) (more : List Out) → Fed (offer_of next) j p q →
    feed s p (point_of base) (waiting next ++ more) ≡ feed s q (point_of (base_after next j base)) (waiting (next_after next j) ++ more)
feed_moved s None None p q base more e = ap (λ p. feed s p (point_of base) more) e
feed_moved s None (Some y) p q base more e = absurd e
feed_moved s (Some x) None p q base more e =
    ap (λ p. feed s p (point_of base) (out_of x ∷ more)) e.2 ∙ sym (ap (λ q. feed s q (point_of x.stamp) more) e.3)
feed_moved s (Some x) (Some y) p q base more e = ap (λ p. feed s p (point_of base) (out_of x ∷ more)) e.1

-- the elements still rise after a step
pub rises_moved : (next : Option Element) (j : Option Val) (base : Stamp) (more : List Out) → RisesFrom base.taken base.ticks (waiting next ++ more) →
    RisesFrom (base_after next j base).taken (base_after next j base).ticks (waiting (next_after next j) ++ more)
rises_moved None None base more r = r
rises_moved None (Some y) base more r = r
rises_moved (Some x) None base more r = r.2
rises_moved (Some x) (Some y) base more r = r

-- the base does not fall where the elements rise
pub base_rises : (next : Option Element) (j : Option Val) (base : Stamp) → RisesFrom base.taken base.ticks (waiting next) →
    (base.taken ≤ (base_after next j base).taken) × (base.ticks ≤ (base_after next j base).ticks)
base_rises None None base r = (omega arith, omega arith)
base_rises None (Some y) base r = (omega arith, omega arith)
base_rises (Some x) None base r = (r.0, r.1)
base_rises (Some x) (Some y) base r = (omega arith, omega arith)
