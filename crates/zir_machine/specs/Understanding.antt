-- What is understood of a node keeps the laws of what is inside it.
use Rattle.std.specs.Prelude.{ℕ, zero, suc, ◌≡◌, refl, ◌+◌, ◌-◌, ◌≤◌, ◌≢◌, List, [], ◌∷◌, Bool, true, false, ◌&&◌, nat_le, nat_eq, Option, Some, None, is_none}
use Rattle.std.proofs.Common.{ap, arith, sym, subst, ◌∙◌, eq-eqb}
use Rattle.std.proofs.lemmas.Bool.{leb-true, le-leb, eqb-true}
use Rattle.zir_bit_tree.specs.declared.value.Val.{Val}
use Rattle.zir_tree.specs.declared.place.Place.{Place}
use Rattle.zir_bit_tree.specs.declared.tree.Comp.{Comp, Take as TakeComp}
use Rattle.zir_bit_tree.specs.declared.tree.Member.{Member}
use Rattle.zir_bit_meaning.specs.Store.{merge}
use Rattle.zir_bit_meaning.specs.Trace.{State, Point, point}
use Rattle.zir_bit_meaning.specs.Composition.{limit, over, at_point}
use Rattle.zir_bit_meaning.specs.Component.{bind}
use Rattle.zir_bit_laws.specs.Process.{Proc, Gives, Needs, spent_proc, NextProc, then_proc, turns_proc, proc, list_proc, holds, piped, pull}
use Rattle.zir_bit_laws.proofs.Equations.{merge-none}
use Rattle.zir_bit_laws.proofs.Limits.{holds-within}
use Rattle.zir_bit_laws.proofs.Counts.{counts-proc, counts-turns}
use Rattle.zir_machine.specs.declared.progress.Focus.{Focus}
use Rattle.zir_machine.specs.declared.progress.Focus.TheVariants.{Begin, Ended, Giving, Given, Spent}
use Rattle.zir_machine.specs.declared.progress.Waits.{Waits}
use Rattle.zir_machine.specs.declared.progress.Waits.TheVariants.{Neither, Right, Both}
use Rattle.zir_machine.specs.Standing.{base_point, given_value}
use Rattle.zir_machine.specs.Late.{Late}
use Rattle.zir_machine.specs.Understood.{ended_in, is_begin, leaf, Held, Looped, Linked, members_of, again, rest_of_row, row_in, row_sound, row_awaits, loop_does, left_state, right_state, left_does, right_does, link_goes, link_does, floor_at, lifted, waits_sound, goes_sound, link_sound, is_both, link_awaits}
use Rattle.zir_machine.specs.Lateness.{late-counts, late-then, late-piped, late-pull}

-- a test of two parts
pub both-left : (a b : Bool) → a && b ≡ true → a ≡ true
both-left true b h = refl
both-left false b h = absurd (cc)

-- the right one of two facts
pub both-right : (a b : Bool) → a && b ≡ true → b ≡ true
both-right true b h = h
both-right false b h = absurd (cc)

-- two facts together
pub both : (a b : Bool) → a ≡ true → b ≡ true → a && b ≡ true
both a b h k = rw h k

-- a component from where it begins
pub proc-late : (c : Comp) (s : State) → Late s.ticks (proc c s)
proc-late c s = late-counts (proc c s) s.taken s.ticks (counts-proc c s)

-- a component without parts, wherever it stands
pub leaf_late : (c : Comp) (f : Focus) (s : State) → true ≡ true → Late s.ticks (leaf c f s)
leaf_late c Begin s h = proc-late c s
leaf_late c (Ended v) s h = omega arith
leaf_late c (Giving v) s h = (omega arith, omega arith)
leaf_late c Given s h = omega arith
leaf_late c Spent s h = tt

-- a component that has begun
ended_late : (f : Focus) (s : State) → Late s.ticks (ended_in f s)
ended_late Begin s = tt
ended_late (Ended v) s = omega arith
ended_late (Giving v) s = (omega arith, omega arith)
ended_late Given s = omega arith
ended_late Spent s = tt

-- the members of a block
pub list-late : (ms : List Member) (n : ℕ) (v : Val) (s : State) → Late s.ticks (list_proc ms n v s)
list-late [] n v s = omega arith
list-late (m ∷ ms) n v s = late-then (proc m.what s) _ s.ticks (proc-late m.what s) (λ w s'. list-late ms n w (bind m.bound w s'))

-- a block that is out of ticks
pub row_spent : (hs : List Held) (k base : ℕ) (s : State) → row_in hs k base Spent s ≡ spent_proc
row_spent [] k base s = refl
row_spent (h ∷ hs) zero base s = ap (λ p. then_proc p (rest_of_row hs base h.bound)) (h.meant.spent s)
row_spent (h ∷ hs) (suc k) base s = row_spent hs k base s

-- a block that is out of ticks is sound
pub row_spent_sound : (hs : List Held) (k : ℕ) (s : State) → row_sound hs k Spent s ≡ true
row_spent_sound [] k s = refl
row_spent_sound (h ∷ hs) zero s = h.meant.spent_sound s
row_spent_sound (h ∷ hs) (suc k) s = row_spent_sound hs k s

-- giving changes no count of a block
pub row_given_sound : (hs : List Held) (k : ℕ) (v : Val) (s : State) → row_sound hs k (Giving v) s ≡ row_sound hs k Given s
row_given_sound [] k v s = refl
row_given_sound (h ∷ hs) zero v s = h.meant.given_sound v s
row_given_sound (h ∷ hs) (suc k) v s = row_given_sound hs k v s

-- a block gives what its part gives
pub row_giving : (hs : List Held) (k base : ℕ) (v : Val) (s : State) → row_in hs k base (Giving v) s ≡ Gives (record { value = v; at = point s }) (row_in hs k base Given s)
row_giving [] k base v s = refl
row_giving (h ∷ hs) zero base v s = ap (λ p. then_proc p (rest_of_row hs base h.bound)) (h.meant.giving v s)
row_giving (h ∷ hs) (suc k) base v s = row_giving hs k base v s

-- a block, wherever its part stands
pub row_late : (hs : List Held) (k base : ℕ) (f : Focus) (s : State) → row_sound hs k f s ≡ true → Late s.ticks (row_in hs k base f s)
row_late [] k base f s h = ended_late f s
row_late (m ∷ hs) zero base f s h = late-then (m.meant.does f s) _ s.ticks (m.meant.late f s h) (λ v s'. list-late (members_of hs) base v (bind m.bound v s'))
row_late (m ∷ hs) (suc k) base f s h = row_late hs k base f s h

-- a loop that is out of ticks
pub loop_spent : (l : Looped) (s : State) → loop_does l Spent s ≡ spent_proc
loop_spent l s = ap (λ p. then_proc p (again l.body.what)) (l.body.spent s)

-- a loop gives what its body gives
pub loop_giving : (l : Looped) (v : Val) (s : State) → loop_does l (Giving v) s ≡ Gives (record { value = v; at = point s }) (loop_does l Given s)
loop_giving l v s = ap (λ p. then_proc p (again l.body.what)) (l.body.giving v s)

-- a loop, wherever its body stands
pub loop_late : (l : Looped) (f : Focus) (s : State) → l.body.sound f s ≡ true → Late s.ticks (loop_does l f s)
loop_late l f s h = late-then (l.body.does f s) _ s.ticks (l.body.late f s h)
    (λ v s'. late-counts (turns_proc s'.left (proc l.body.what) s') s'.taken s'.ticks (counts-turns s'.left (proc l.body.what) (counts-proc l.body.what) s'))

-- what a sound link is
pub record Sound (l : Linked) (s : State) : Type 0 where
  pub right : l.right.sound l.right_progress.focus (right_state l s) ≡ true
  pub left : l.left.sound l.left_progress.focus (left_state l) ≡ true
  pub ready : given_value l.right_progress.focus ≡ None
  pub base : l.base.ticks ≤ l.left_progress.ticks
  pub whole : s.ticks ≤ lifted l
  pub waits : waits_sound l.waits l s ≡ true

-- what is none
nothing : (o : Option Val) → is_none o ≡ true → o ≡ None
nothing None h = refl
nothing (Some v) h = absurd (cc)

-- the facts of two sides that are sound, one by one
pub sound-parts : (l : Linked) (s : State) → goes_sound l s ≡ true → Sound l s
sound-parts l s h =
    let a : Bool = l.right.sound l.right_progress.focus (right_state l s) in
    let b : Bool = l.left.sound l.left_progress.focus (left_state l) in
    let r : Bool = is_none (given_value l.right_progress.focus) in
    let c : Bool = nat_le l.base.ticks l.left_progress.ticks in
    let d : Bool = nat_le s.ticks (lifted l) in
    let e : Bool = waits_sound l.waits l s in
    let abrcd : a && b && r && c && d ≡ true = both-left (a && b && r && c && d) e h in
    let abrc : a && b && r && c ≡ true = both-left (a && b && r && c) d abrcd in
    let abr : a && b && r ≡ true = both-left (a && b && r) c abrc in
    let ab : a && b ≡ true = both-left (a && b) r abr in
    record {
      right = both-left a b ab;
      left = both-right a b ab;
      ready = nothing (given_value l.right_progress.focus) (both-right (a && b) r abr);
      base = leb-true _ _ (both-right (a && b && r) c abrc);
      whole = leb-true _ _ (both-right (a && b && r && c) d abrcd);
      waits = both-right (a && b && r && c && d) e h;
    }

-- and back
pub sound-whole : (l : Linked) (s : State) → Sound l s → goes_sound l s ≡ true
sound-whole l s h =
    both _ _ (both _ _ (both _ _ (both _ _ (both _ _ h.right h.left) (rw h.ready refl)) (le-leb _ _ h.base)) (le-leb _ _ h.whole)) h.waits

-- what is known where the right side waits
pub right-awaits : (w : Waits) (l : Linked) (s : State) → w ≢ Neither → waits_sound w l s ≡ true → l.right.awaits l.right_progress.focus ≡ true
right-awaits Neither l s n h = absurd (n refl)
right-awaits Right l s n h = h
right-awaits Both l s n h =
    let a : Bool = l.right.awaits l.right_progress.focus in let b : Bool = l.left.awaits l.left_progress.focus in
    let c : Bool = nat_eq s.ticks (lifted l) in let d : Bool = nat_eq s.taken l.left_progress.taken in
    both-left a b (both-left (a && b) c (both-left (a && b && c) d h))

-- and where both do
pub record BothWait (l : Linked) (s : State) : Type 0 where
  pub right : l.right.awaits l.right_progress.focus ≡ true
  pub left : l.left.awaits l.left_progress.focus ≡ true
  pub ticks : s.ticks ≡ lifted l
  pub taken : s.taken ≡ l.left_progress.taken

-- the facts of two sides that wait, one by one
pub both-wait : (l : Linked) (s : State) → waits_sound Both l s ≡ true → BothWait l s
both-wait l s h =
    let a : Bool = l.right.awaits l.right_progress.focus in let b : Bool = l.left.awaits l.left_progress.focus in
    let c : Bool = nat_eq s.ticks (lifted l) in let d : Bool = nat_eq s.taken l.left_progress.taken in
    let abc : a && b && c ≡ true = both-left (a && b && c) d h in
    let ab : a && b ≡ true = both-left (a && b) c abc in
    record { right = both-left a b ab; left = both-right a b ab; ticks = eqb-true _ _ (both-right (a && b) c abc); taken = eqb-true _ _ (both-right (a && b && c) d h) }

-- four facts together
pub four : (a b : Bool) (m n i j : ℕ) → a ≡ true → b ≡ true → m ≡ n → i ≡ j → a && b && nat_eq m n && nat_eq i j ≡ true
four a b m n i j p q e f = both (a && b && nat_eq m n) (nat_eq i j) (both (a && b) (nat_eq m n) (both a b p q) (eq-eqb m n e)) (eq-eqb i j f)

-- two sides, whoever waits
pub late-waiting : (w : Waits) (l : Linked) (s : State) → l.waits ≡ w → Sound l s → Late s.ticks (link_goes l s)
late-waiting Neither l s e h =
    let f : lifted l ≡ l.base.ticks + l.right_progress.ticks = ap (λ w. floor_at w l.base l.left_progress + l.right_progress.ticks) e in
    late-piped [] l.depth s (right_does l s) (base_point l.base) (left_does l) l.right_progress.ticks l.left_progress.ticks s.ticks
    (l.right.late l.right_progress.focus (right_state l s) h.right) (l.left.late l.left_progress.focus (left_state l) h.left) (omega (arith, f, h.whole)) (omega (arith, f, h.whole, h.base))
late-waiting Right l s e h =
    let f : lifted l ≡ l.left_progress.ticks + l.right_progress.ticks = ap (λ w. floor_at w l.base l.left_progress + l.right_progress.ticks) e in
    late-needing l s h (right-awaits Right l s (λ k. absurd (cc)) (ap (λ w. waits_sound w l s) (sym e) ∙ h.waits)) f
  where
    late-needing : (l : Linked) (s : State) → Sound l s → l.right.awaits l.right_progress.focus ≡ true → lifted l ≡ l.left_progress.ticks + l.right_progress.ticks → Late s.ticks (link_goes l s)
    late-needing l s h a f =
        let w : (g : Val → Proc) × (right_does l s ≡ Needs (right_state l s) g) = l.right.awaiting l.right_progress.focus (right_state l s) h.right a in
        let r : Late l.right_progress.ticks (Needs (right_state l s) w.0) = subst (Late l.right_progress.ticks) w.1 (l.right.late l.right_progress.focus (right_state l s) h.right) in
        subst (λ r. Late s.ticks (piped [] l.depth s r (base_point l.base) (left_does l))) (sym w.1)
        (late-pull [] l.depth s (λ v p l'. piped [] l.depth s (w.0 v) p l') (right_state l s) (left_does l) l.left_progress.ticks s.ticks (l.left.late l.left_progress.focus (left_state l) h.left) (omega (arith, f, h.whole))
        (λ v p l' b k. late-piped [] l.depth s (w.0 v) p l' l.right_progress.ticks l.left_progress.ticks s.ticks (r.1 v) k (omega (arith, f, h.whole, b)) (omega (arith, f, h.whole))))
late-waiting Both l s e h =
    let f : lifted l ≡ l.left_progress.ticks + l.right_progress.ticks = ap (λ w. floor_at w l.base l.left_progress + l.right_progress.ticks) e in
    let a : l.right.awaits l.right_progress.focus ≡ true = right-awaits Both l s (λ k. absurd (cc)) (ap (λ w. waits_sound w l s) (sym e) ∙ h.waits) in
    let w : (g : Val → Proc) × (right_does l s ≡ Needs (right_state l s) g) = l.right.awaiting l.right_progress.focus (right_state l s) h.right a in
    let r : Late l.right_progress.ticks (Needs (right_state l s) w.0) = subst (Late l.right_progress.ticks) w.1 (l.right.late l.right_progress.focus (right_state l s) h.right) in
    subst (λ r. Late s.ticks (piped [] l.depth s r (base_point l.base) (left_does l))) (sym w.1)
    (late-pull [] l.depth s (λ v p l'. piped [] l.depth s (w.0 v) p l') (right_state l s) (left_does l) l.left_progress.ticks s.ticks (l.left.late l.left_progress.focus (left_state l) h.left) (omega (arith, f, h.whole))
    (λ v p l' b k. late-piped [] l.depth s (w.0 v) p l' l.right_progress.ticks l.left_progress.ticks s.ticks (r.1 v) k (omega (arith, f, h.whole, b)) (omega (arith, f, h.whole))))

-- two sides that are sound
pub goes-late : (l : Linked) (s : State) → goes_sound l s ≡ true → Late s.ticks (link_goes l s)
goes-late l s h = late-waiting l.waits l s refl (sound-parts l s h)

-- a composition gives what its right side gave
pub link_giving : (l : Linked) (v : Val) (s : State) → link_does l (Giving v) s ≡ Gives (record { value = v; at = point s }) (link_does l Given s)
link_giving l v s = refl

-- a composition, wherever it stands
pub link_late : (l : Linked) (f : Focus) (s : State) → link_sound l f s ≡ true → Late s.ticks (link_does l f s)
link_late l Begin s h = goes-late l s h
link_late l (Ended v) s h = omega arith
link_late l (Giving v) s h = (omega arith, goes-late l s h)
link_late l Given s h = goes-late l s h
link_late l Spent s h = tt

-- What awaits an element needs one.

-- nothing waits at the beginning
pub begin_ready : (f : Focus) → is_begin f ≡ true → given_value f ≡ None
begin_ready Begin h = refl
begin_ready (Ended v) h = refl
begin_ready (Giving v) h = absurd (cc)
begin_ready Given h = refl
begin_ready Spent h = refl

-- a take at its beginning
pub take_awaiting : (p : Place) (f : Focus) (s : State) → true ≡ true → is_begin f ≡ true → (g : Val → Proc) × (leaf (TakeComp p) f s ≡ Needs s g)
take_awaiting p Begin s h a = (_, refl)
take_awaiting p (Ended v) s h a = absurd (cc)
take_awaiting p (Giving v) s h a = absurd (cc)
take_awaiting p Given s h a = absurd (cc)
take_awaiting p Spent s h a = absurd (cc)

-- no output of a block waits where it needs an element
pub row_awaits_ready : (hs : List Held) (k : ℕ) (f : Focus) → row_awaits hs k f ≡ true → given_value f ≡ None
row_awaits_ready [] k f h = absurd (cc)
row_awaits_ready (m ∷ hs) zero f h = m.meant.awaits_ready f h
row_awaits_ready (m ∷ hs) (suc k) f h = row_awaits_ready hs k f h

-- what a part needs, the whole needs
then_needs : (p : Proc) (next : NextProc) (s : State) → (g : Val → Proc) × (p ≡ Needs s g) → (g : Val → Proc) × (then_proc p next ≡ Needs s g)
then_needs p next s w = ((λ x. then_proc (w.0 x) next), ap (λ p. then_proc p next) w.1)

-- a block whose part needs an element
pub row_awaiting : (hs : List Held) (k base : ℕ) (f : Focus) (s : State) → row_sound hs k f s ≡ true → row_awaits hs k f ≡ true → (g : Val → Proc) × (row_in hs k base f s ≡ Needs s g)
row_awaiting [] k base f s h a = absurd (cc)
row_awaiting (m ∷ hs) zero base f s h a = then_needs (m.meant.does f s) (rest_of_row hs base m.bound) s (m.meant.awaiting f s h a)
row_awaiting (m ∷ hs) (suc k) base f s h a = row_awaiting hs k base f s h a

-- a loop whose body needs an element
pub loop_awaiting : (l : Looped) (f : Focus) (s : State) → l.body.sound f s ≡ true → l.body.awaits f ≡ true → (g : Val → Proc) × (loop_does l f s ≡ Needs s g)
loop_awaiting l f s h a = then_needs (l.body.does f s) (again l.body.what) s (l.body.awaiting f s h a)

-- no output of a composition waits where it needs an element
pub link_awaits_ready : (l : Linked) (f : Focus) → link_awaits l f ≡ true → given_value f ≡ None
link_awaits_ready l Begin h = refl
link_awaits_ready l (Ended v) h = refl
link_awaits_ready l (Giving v) h = absurd (cc)
link_awaits_ready l Given h = refl
link_awaits_ready l Spent h = refl

-- both wait
is-both : (w : Waits) → is_both w ≡ true → w ≡ Both
is-both Neither h = absurd (cc)
is-both Right h = absurd (cc)
is-both Both h = refl

-- the whole needs an element where it stands
needs-here : (d : ℕ) (s : State) (r l : Proc) (s2 s1 : State) (f g : Val → Proc) (b : Point) → r ≡ Needs s2 f → l ≡ Needs s1 g → s.ticks ≡ s1.ticks + s2.ticks → s.taken ≡ s1.taken → s2.store ≡ s.store → (k : Val → Proc) × (piped [] d s r b l ≡ Needs s k)
needs-here d s r l s2 s1 f g b e h t k st = (
  (λ x. pull [] d s (λ v p l'. piped [] d s (f v) p l') s2 (g x)),
  ap (λ r. piped [] d s r b l) e ∙ ap (λ l. piped [] d s (Needs s2 f) b l) h
      ∙ ap (λ n. holds (nat_le n (limit s)) (Needs (at_point s (over [] (point s1) (point s2))) (λ x. pull [] d s (λ v p l'. piped [] d s (f v) p l') s2 (g x)))) (sym t)
      ∙ holds-within s.ticks (limit s) _ (omega arith)
      ∙ ap (λ s'. Needs s' (λ x. pull [] d s (λ v p l'. piped [] d s (f v) p l') s2 (g x))) (same s s1 s2 t k st),
)
  where
    same : (s s1 s2 : State) → s.ticks ≡ s1.ticks + s2.ticks → s.taken ≡ s1.taken → s2.store ≡ s.store → at_point s (over [] (point s1) (point s2)) ≡ s
    same s s1 s2 t k st =
        let left : limit s - (s1.ticks + s2.ticks) ≡ s.left = omega (arith, t) in
        ap (λ n. record { taken = n; ticks = s1.ticks + s2.ticks; left = limit s - (s1.ticks + s2.ticks); store = merge [] s1.store s2.store }) (sym k)
        ∙ ap (λ n. record { taken = s.taken; ticks = s1.ticks + s2.ticks; left = n; store = merge [] s1.store s2.store }) left
        ∙ ap (λ n. record { taken = s.taken; ticks = n; left = s.left; store = merge [] s1.store s2.store }) (sym t)
        ∙ ap (λ n. record { taken = s.taken; ticks = s.ticks; left = s.left; store = n }) (merge-none s1.store s2.store ∙ st)

-- two sides that both wait
goes_awaiting : (l : Linked) (s : State) → goes_sound l s ≡ true → is_both l.waits ≡ true → (g : Val → Proc) × (link_goes l s ≡ Needs s g)
goes_awaiting l s h a =
    let w : Sound l s = sound-parts l s h in
    let e : l.waits ≡ Both = is-both l.waits a in
    let b : BothWait l s = both-wait l s (ap (λ w. waits_sound w l s) (sym e) ∙ w.waits) in
    let f : lifted l ≡ l.left_progress.ticks + l.right_progress.ticks = ap (λ w. floor_at w l.base l.left_progress + l.right_progress.ticks) e in
    let r : (g : Val → Proc) × (right_does l s ≡ Needs (right_state l s) g) = l.right.awaiting l.right_progress.focus (right_state l s) w.right b.right in
    let m : (g : Val → Proc) × (left_does l ≡ Needs (left_state l) g) = l.left.awaiting l.left_progress.focus (left_state l) w.left b.left in
    needs-here l.depth s (right_does l s) (left_does l) (right_state l s) (left_state l) r.0 m.0 (base_point l.base) r.1 m.1 (b.ticks ∙ f) b.taken refl

-- a composition whose sides both wait
pub link_awaiting : (l : Linked) (f : Focus) (s : State) → link_sound l f s ≡ true → link_awaits l f ≡ true → (g : Val → Proc) × (link_does l f s ≡ Needs s g)
link_awaiting l Begin s h a = goes_awaiting l s h a
link_awaiting l (Ended v) s h a = absurd (cc)
link_awaiting l (Giving v) s h a = absurd (cc)
link_awaiting l Given s h a = goes_awaiting l s h a
link_awaiting l Spent s h a = absurd (cc)

-- a component that never awaits
pub never_ready : (f : Focus) → false ≡ true → given_value f ≡ None
never_ready f h = absurd (cc)

-- it needs no element
pub never_awaiting : (c : Comp) (f : Focus) (s : State) → true ≡ true → false ≡ true → (g : Val → Proc) × (leaf c f s ≡ Needs s g)
never_awaiting c f s h a = absurd (cc)
