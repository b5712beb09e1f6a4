-- One side asked, as the whole composition.
use Rattle.std.specs.Prelude.{ℕ, ◌≡◌, refl, zero, suc, ◌+◌, ◌≤◌, ◌<◌, ◌⊎◌, [], Option, Some, None, Bool, true, false}
use Rattle.std.proofs.Common.{ap, sym, subst, ◌∙◌, arith, inl, inr}
use Rattle.zir_bit_tree.specs.declared.value.Val.{Val}
use Rattle.zir_bit_meaning.specs.Trace.{State, Point, point}
use Rattle.zir_bit_meaning.specs.Composition.{limit}
use Rattle.zir_bit_laws.specs.Process.{Proc, Gives, Needs, piped}
use Rattle.zir_bit_laws.specs.Offers.{Fed}
use Rattle.zir_bit_laws.proofs.Offers.{fed_left, fed_right}
use Rattle.zir_bit_laws.proofs.Limits.{piped-limit}
use Rattle.zir_steps.specs.declared.answer.Answer.{Answer}
use Rattle.zir_steps.specs.declared.answer.Answer.TheVariants.{Need}
use Rattle.zir_machine.specs.declared.progress.Focus.{Focus}
use Rattle.zir_machine.specs.declared.progress.Focus.TheVariants.{Begin, Ended, Giving, Given, Spent}
use Rattle.zir_machine.specs.declared.progress.Waits.{Waits}
use Rattle.zir_machine.specs.declared.progress.Waits.TheVariants.{Neither, Right, Both}
use Rattle.zir_machine.specs.Standing.{is_going, base_point, given_value}
use Rattle.zir_machine.specs.Steps.{Stepped, Paced, Uses}
use Rattle.zir_machine.specs.Understood.{Linked, ended_in, left_state, right_state, left_does, right_does, link_goes, link_does, link_sound, link_awaits, floor_at, lifted, goes_sound, waits_sound}
use Rattle.zir_machine.specs.Understanding.{Sound, sound-parts, BothWait, both-wait}
use Rattle.zir_machine.specs.Asking.{Asked, AskUses, AskPaced}
use Rattle.zir_machine.proofs.Links.{piped-counts}
use Rattle.zir_machine.proofs.Stepping.{fed_trans, fed_same}

-- the same process asked
pub asked_same : (r : Option Answer) (p q : Proc) (m : Linked) (f : Focus) (s : State) → p ≡ q → Asked r None None q m f s → Asked r None None p m f s
asked_same r p q m f s e h = subst (λ p. Asked r None None p m f s) (sym e) h

-- what the whole is offered was taken
pub asked_taken : (r : Option Answer) (i j : Option Val) (p q : Proc) (m : Linked) (f : Focus) (s : State) → j ≡ None → Fed i j p q → Asked r None None q m f s → Asked r i j p m f s
asked_taken r i j p q m f s e w h = subst (λ j. Asked r i j p m f s) (sym e) (taken r (subst (λ j. Fed i j p q) e w) h)
  where
    taken : (r : Option Answer) → Fed i None p q → Asked r None None q m f s → Asked r i None p m f s
    taken None w h = record { moved = fed_trans i None None p q (link_goes m s) w h.moved; sound = h.sound; going = h.going }
    taken (Some a) w h = record { step = record { moved = fed_trans i None None p q (link_does m f s) w h.step.moved; stands = h.step.stands }; sound = h.sound; waits = h.waits }

-- both wait, and nothing is offered
pub both_asked : (l : Linked) (f : Focus) (s : State) (i : Option Val) → i ≡ None → is_going f ≡ true → l.waits ≡ Both → goes_sound l s ≡ true →
    (link_awaits l f ≡ true → (g : Val → Proc) × (link_does l f s ≡ Needs s g)) → link_does l f s ≡ link_goes l s → link_sound l f s ≡ goes_sound l s → link_awaits l f ≡ true → Asked (Some Need) i i (link_goes l s) l f s
both_asked l f s i e g w h needs does sound awaits =
    let n : (g : Val → Proc) × (link_does l f s ≡ Needs s g) = needs awaits in
    record { step = record { moved = fed_same i (link_goes l s) (link_does l f s) (sym does); stands = (e, n.0, n.1) }; sound = sound ∙ h; waits = λ e. awaits }

-- a composition whose sides both wait needs an element
pub both_awaits : (l : Linked) (f : Focus) → is_going f ≡ true → l.waits ≡ Both → link_awaits l f ≡ true
both_awaits l Begin h e = ap is_both_of e
  where
    is_both_of : Waits → Bool
    is_both_of Neither = false
    is_both_of Right = false
    is_both_of Both = true
both_awaits l (Ended v) h e = absurd (cc)
both_awaits l (Giving v) h e = absurd (cc)
both_awaits l Given h e = ap is_both_of e
  where
    is_both_of : Waits → Bool
    is_both_of Neither = false
    is_both_of Right = false
    is_both_of Both = true
both_awaits l Spent h e = absurd (cc)

-- a composition that does not go on, and gives nothing, does what any ended component does
pub rests_does : (l : Linked) (f : Focus) (s : State) → is_going f ≡ false → given_value f ≡ None → link_does l f s ≡ ended_in f s
rests_does l Begin s h g = absurd (cc)
rests_does l (Ended v) s h g = refl
rests_does l (Giving v) s h g = absurd (cc)
rests_does l Given s h g = absurd (cc)
rests_does l Spent s h g = refl

-- an output waits where it can be read
pub giving_of : (f : Focus) (v : Val) → given_value f ≡ Some v → f ≡ Giving v
giving_of Begin v h = absurd (cc)
giving_of (Ended w) v h = absurd (cc)
giving_of (Giving w) v h = cc
giving_of Given v h = absurd (cc)
giving_of Spent v h = absurd (cc)

-- the right side takes the left side's output
pub hands : (l : Linked) (s s' : State) (v : Val) (r' : Proc) (j : Option Val) (b : Point) → given_value l.left_progress.focus ≡ Some v → Fed (Some v) j (right_does l s) r' → j ≡ None → limit s' ≡ limit s →
    b.taken ≡ l.left_progress.taken → b.ticks ≡ l.left_progress.ticks → link_goes l s ≡ piped [] l.depth s' r' b (l.left.does Given (left_state l))
hands l s s' v r' j b e w z lim bt bk =
    let left : Proc = l.left.does Given (left_state l) in
    let gives : left_does l ≡ Gives (record { value = v; at = point (left_state l) }) left = ap (λ f. l.left.does f (left_state l)) (giving_of l.left_progress.focus v e) ∙ l.left.giving v (left_state l) in
    fed_right [] l.depth s (base_point l.base) (record { value = v; at = point (left_state l) }) (right_does l s) r' (left_does l) left gives (subst (λ j. Fed (Some v) j (right_does l s) r') z w)
    ∙ piped-counts l.depth s r' (point (left_state l)) b left (sym bt) (sym bk)
    ∙ piped-limit [] l.depth s s' r' b left (sym lim)

-- the left side takes what the whole is offered
pub offers : (l : Linked) (s : State) (i j : Option Val) (q : Proc) → goes_sound l s ≡ true → l.waits ≡ Both → Fed i j (left_does l) q → Fed i j (link_goes l s) (piped [] l.depth s (right_does l s) (base_point l.base) q)
offers l s i j q h e w =
    let k : Sound l s = sound-parts l s h in
    let b : BothWait l s = both-wait l s (ap (λ w. waits_sound w l s) (sym e) ∙ k.waits) in
    let f : lifted l ≡ l.left_progress.ticks + l.right_progress.ticks = ap (λ w. floor_at w l.base l.left_progress + l.right_progress.ticks) e in
    let r : (g : Val → Proc) × (right_does l s ≡ Needs (right_state l s) g) = l.right.awaiting l.right_progress.focus (right_state l s) k.right b.right in
    let m : (g : Val → Proc) × (left_does l ≡ Needs (left_state l) g) = l.left.awaiting l.left_progress.focus (left_state l) k.left b.left in
    fed_left i j [] l.depth s (right_state l s) r.0 (base_point l.base) (right_does l s) (left_does l) q r.1
    (λ s1 g n. let same : s1 ≡ left_state l = needs_state s1 (left_state l) g m.0 (sym n ∙ m.1) in
    subst (λ s1. s1.ticks + l.right_progress.ticks ≤ limit s) (sym same) (omega (arith, b.ticks, f))) w
  where
    needs_state : (s t : State) (f g : Val → Proc) → Needs s f ≡ Needs t g → s ≡ t
    needs_state s t f g h = cc

-- Fuel and ticks.

-- an answer of the whole, from where it stood
pub paced_from : (a : Answer) (fuel fuel' t ticks ticks' : ℕ) → ticks ≤ t → AskUses a fuel fuel' t ticks ticks' → Paced a fuel fuel' ticks ticks'
paced_from a fuel fuel' t ticks ticks' le w = record {
  fuel_falls = w.fuel_falls;
  ticks_rise = w.ticks_rise;
  used = λ n lt. let z : t < ticks' = w.used n lt in omega (arith, z, le);
  yields = λ e. let z : t < ticks' = w.yields e in omega (arith, z, le);
  pauses = w.pauses;
}

-- one of two is the greater
below : (a b : ℕ) → (a < b) ⊎ (b ≤ a)
below zero zero = inr (omega arith)
below zero (suc b) = inl (omega arith)
below (suc a) zero = inr (omega arith)
below (suc a) (suc b) = elim (below a b) [ inl h ↦ inl (omega arith) | inr h ↦ inr (omega arith) ]

-- an answer after going on
pub ask_after : (a : Answer) (f g h t u k n v : ℕ) → Uses f g t u → k ≤ n → AskUses a g h u n v → AskUses a f h t k v
ask_after a f g h t u k n v w le p = record {
  fuel_falls = omega (arith, w.fuel_falls, p.fuel_falls);
  ticks_rise = omega (arith, le, p.ticks_rise);
  climbs = λ s. let z : u ≤ v = p.climbs s in omega (arith, z, w.ticks_rise);
  used = λ s lt. let z : u ≤ v = p.climbs s in elim (below g f) [ inl y ↦ (let x : t < u = w.used y in omega (arith, x, z)) | inr y ↦ (let x : u < v = p.used s (omega (arith, y, lt)) in omega (arith, x, w.ticks_rise)) ];
  yields = λ e. let z : u < v = p.yields e in omega (arith, z, w.ticks_rise);
  pauses = p.pauses;
}

-- what is known where only the right side waits
pub right_waiting : (l : Linked) (s : State) → l.waits ≡ Right → goes_sound l s ≡ true → l.right.awaits l.right_progress.focus ≡ true
right_waiting l s e h = ap (λ w. waits_sound w l s) (sym e) ∙ (sound-parts l s h).waits

-- and where both do
pub both_waiting : (l : Linked) (s : State) → l.waits ≡ Both → goes_sound l s ≡ true → BothWait l s
both_waiting l s e h = both-wait l s (ap (λ w. waits_sound w l s) (sym e) ∙ (sound-parts l s h).waits)

-- both wait, and nothing is used
pub both_paced : (l : Linked) (s : State) (fuel : ℕ) → l.waits ≡ Both → goes_sound l s ≡ true → AskUses Need fuel fuel (lifted l) s.ticks s.ticks
both_paced l s fuel e h =
    let b : BothWait l s = both_waiting l s e h in
    record { fuel_falls = omega arith; ticks_rise = omega arith; climbs = λ n. omega (arith, b.ticks); used = λ n lt. absurd (omega (arith, lt)); yields = λ y. absurd (cc); pauses = λ y. absurd (cc) }

-- a composition that does not go on steps as any ended component does
pub rests_steps : (a : Answer) (i j : Option Val) (l : Linked) (f f' : Focus) (s s' : State) → is_going f ≡ false → given_value f ≡ None → is_going f' ≡ false → given_value f' ≡ None →
    Stepped a i j (ended_in f s) (ended_in f' s') f' s' → Stepped a i j (link_does l f s) (link_does l f' s') f' s'
rests_steps a i j l f f' s s' h g h' g' w =
    subst (λ p. Stepped a i j p (link_does l f' s') f' s') (sym (rests_does l f s h g))
    (subst (λ q. Stepped a i j (ended_in f s) q f' s') (sym (rests_does l f' s' h' g')) w)

-- what rests is sound
pub rests_sound : (l : Linked) (f : Focus) (s : State) → is_going f ≡ false → given_value f ≡ None → link_sound l f s ≡ true
rests_sound l Begin s h g = absurd (cc)
rests_sound l (Ended v) s h g = refl
rests_sound l (Giving v) s h g = absurd (cc)
rests_sound l Given s h g = absurd (cc)
rests_sound l Spent s h g = refl

-- the answer after some asking
pub work_paced : (r : Option Answer) (a : Answer) (l m n : Linked) (s : State) (f g h k v : ℕ) → r ≡ Some a → goes_sound l s ≡ true → Uses f g (lifted l) (lifted m) → s.ticks ≤ k →
    AskPaced r g h (lifted m) n k v → Paced a f h s.ticks v
work_paced r a l m n s f g h k v e d w le p =
    paced_from a f h (lifted l) s.ticks v (sound-parts l s d).whole
    (ask_after a f g h (lifted l) (lifted m) s.ticks k v w le (subst (λ r. AskPaced r g h (lifted m) n k v) e p))
