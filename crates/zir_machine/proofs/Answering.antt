-- What the answer of a side is for the whole composition.
use Rattle.std.specs.Prelude.{ℕ, ◌≡◌, refl, ◌+◌, ◌-◌, ◌≤◌, ◌<◌, [], None, true, take}
use Rattle.std.proofs.Common.{ap, sym, subst, ◌∙◌, arith}
use Rattle.zir_bit_tree.specs.declared.value.Val.{Val}
use Rattle.zir_bit_tree.specs.declared.ends.End.TheVariants.{Value}
use Rattle.zir_bit_meaning.specs.Store.{merge}
use Rattle.zir_bit_meaning.specs.Trace.{State, Point, point}
use Rattle.zir_bit_meaning.specs.Composition.{limit, over, at_point, waiting}
use Rattle.zir_bit_laws.specs.Process.{Proc, Gives, Ends, Needs, spent_proc, piped}
use Rattle.zir_bit_laws.proofs.Equations.{merge-none}
use Rattle.zir_bit_laws.proofs.Limits.{piped-limit, holds-within}
use Rattle.zir_steps.specs.declared.answer.Answer.TheVariants.{Yield, Skip, Done, Stopped}
use Rattle.zir_machine.specs.declared.progress.Focus.{Focus}
use Rattle.zir_machine.specs.declared.progress.Focus.TheVariants.{Begin, Ended, Giving, Given, Spent}
use Rattle.zir_machine.specs.Standing.{is_going, base_point, given_value}
use Rattle.zir_machine.specs.Steps.{Stands}
use Rattle.zir_machine.specs.Late.{Late}
use Rattle.zir_machine.specs.Lateness.{piped-past, pull-past}
use Rattle.zir_machine.specs.Understood.{Linked, left_state, right_state, left_does, right_does, link_goes, link_does, link_sound, goes_sound}
use Rattle.zir_machine.specs.Understanding.{Sound, sound-whole}
use Rattle.zir_machine.specs.Asking.{GoesOn, Answers, Sides}
use Rattle.zir_machine.proofs.Links.{same_state}

-- a composition that goes on does what its sides do
pub going_does : (l : Linked) (f : Focus) (s : State) → is_going f ≡ true → link_does l f s ≡ link_goes l s
going_does l Begin s h = refl
going_does l (Ended v) s h = absurd (cc)
going_does l (Giving v) s h = absurd (cc)
going_does l Given s h = refl
going_does l Spent s h = absurd (cc)

-- its sides are sound where it goes on
pub going_sound : (l : Linked) (f : Focus) (s : State) → is_going f ≡ true → link_sound l f s ≡ goes_sound l s
going_sound l Begin s h = refl
going_sound l (Ended v) s h = absurd (cc)
going_sound l (Giving v) s h = absurd (cc)
going_sound l Given s h = refl
going_sound l Spent s h = absurd (cc)

-- no output waits where it goes on
going_ready : (f : Focus) → is_going f ≡ true → given_value f ≡ None
going_ready Begin h = refl
going_ready (Ended v) h = refl
going_ready (Giving v) h = absurd (cc)
going_ready Given h = refl
going_ready Spent h = refl

-- it pauses where it stands
pub skip_answers : (l m : Linked) (s s' : State) (f : Focus) → is_going f ≡ true → link_goes l s ≡ link_goes m s' → Sound m s' → Answers Skip None None (link_goes l s) m f s'
skip_answers l m s s' f g e h = record { step = record { moved = e ∙ sym (going_does m f s' g); stands = going_ready f g }; sound = going_sound m f s' g ∙ sound-whole m s' h; waits = λ e. absurd (cc) }

-- it goes on as the same process
pub goes_on : (l m : Linked) (s s' : State) (f : Focus) → is_going f ≡ true → link_goes l s ≡ link_goes m s' → Sound m s' → GoesOn None None (link_goes l s) m f s'
goes_on l m s s' f g e h = record { moved = e; sound = sound-whole m s' h; going = g }

-- nothing is left, and it says so
pub spent_answers : (l m : Linked) (s s' : State) (f : Focus) → f ≡ Spent → link_goes l s ≡ spent_proc → Answers Stopped None None (link_goes l s) m f s'
spent_answers l m s s' f e h = record {
  step = record { moved = h ∙ sym (ap (λ f. link_does m f s') e); stands = ap (λ f. link_does m f s') e };
  sound = ap (λ f. link_sound m f s') e;
  waits = λ e. absurd (cc);
}

-- the limit stays
pub same_limit : (s s' : State) (n : ℕ) → n ≤ limit s → s'.ticks ≡ n → s'.left ≡ limit s - n → limit s' ≡ limit s
same_limit s s' n le a b = omega (arith, a, b, le)

-- the point of the right side over the base
pub over-point : (b p : Point) (s' : State) → s'.taken ≡ b.taken → s'.ticks ≡ b.ticks + p.ticks → s'.store ≡ p.store → over [] b p ≡ point s'
over-point b p s' a c d =
    ap (λ n. record { taken = n; ticks = b.ticks + p.ticks; store = merge [] b.store p.store }) (sym a)
    ∙ ap (λ n. record { taken = s'.taken; ticks = n; store = merge [] b.store p.store }) (sym c)
    ∙ ap (λ st. record { taken = s'.taken; ticks = s'.ticks; store = st }) (merge-none b.store p.store ∙ sym d)

-- the whole stands where the right side does over the base
pub at-over : (s s' : State) (b p : Point) → s'.taken ≡ b.taken → s'.ticks ≡ b.ticks + p.ticks → s'.left ≡ limit s - (b.ticks + p.ticks) → s'.store ≡ p.store → at_point s (over [] b p) ≡ s'
at-over s s' b p a c d e = same_state _ _ (sym a) (sym c) (sym d) (merge-none b.store p.store ∙ sym e)

-- past the limit the right side's next event is spent
pub right_past : (l : Linked) (s : State) → Sides l s → limit s < l.base.ticks + l.right_progress.ticks → link_goes l s ≡ spent_proc
right_past l s h lt = piped-past [] l.depth s (right_does l s) (base_point l.base) (left_does l) l.right_progress.ticks l.left_progress.ticks
    (l.right.late l.right_progress.focus (right_state l s) h.right) (l.left.late l.left_progress.focus (left_state l) h.left) lt (omega (arith, lt, h.base))

-- an output of the right side is one of the whole
pub right_gives : (l m : Linked) (s s' : State) (f : Focus) → f ≡ l.right_progress.focus → Stands Yield l.right_progress.focus (right_state l s) None (right_does l s) →
    l.base.ticks + l.right_progress.ticks ≤ limit s → s'.taken ≡ l.base.taken → s'.ticks ≡ l.base.ticks + l.right_progress.ticks → s'.left ≡ limit s - (l.base.ticks + l.right_progress.ticks) → s'.store ≡ s.store →
    link_goes m s' ≡ piped [] l.depth s' (l.right.does Given (right_state l s)) (base_point l.base) (left_does l) → Sound m s' → Answers Yield None None (link_goes l s) m f s'
right_gives l m s s' f e w le a b c d k h =
    let v : Val = w.0 in
    let g : f ≡ Giving v = e ∙ w.1 in
    let r : Proc = l.right.does Given (right_state l s) in
    let p : Point = over [] (base_point l.base) (point (right_state l s)) in
    let lim : limit s' ≡ limit s = same_limit s s' (l.base.ticks + l.right_progress.ticks) le b c in
    record {
      step = record {
        moved =
            ap (λ f. piped [] l.depth s (l.right.does f (right_state l s)) (base_point l.base) (left_does l)) w.1
            ∙ ap (λ r. piped [] l.depth s r (base_point l.base) (left_does l)) (l.right.giving v (right_state l s))
            ∙ holds-within p.ticks (limit s) (Gives (record { value = v; at = p }) (piped [] l.depth s r (base_point l.base) (left_does l))) le
            ∙ ap (λ p. Gives (record { value = v; at = p }) (piped [] l.depth s r (base_point l.base) (left_does l))) (over-point (base_point l.base) (point (right_state l s)) s' a b d)
            ∙ ap (Gives (record { value = v; at = point s' })) (piped-limit [] l.depth s s' r (base_point l.base) (left_does l) (sym lim) ∙ sym k)
            ∙ sym (ap (λ f. link_does m f s') g);
        stands = (v, g);
      };
      sound = ap (λ f. link_sound m f s') g ∙ sound-whole m s' h;
      waits = λ e. absurd (cc);
    }

-- it ended with a value
pub ended_answers : (l m : Linked) (s s' : State) (f : Focus) (v : Val) → f ≡ Ended v → link_goes l s ≡ Ends (Value v) s' → Answers Done None None (link_goes l s) m f s'
ended_answers l m s s' f v e h = record {
  step = record { moved = h ∙ sym (ap (λ f. link_does m f s') e); stands = (v, e, ap (λ f. link_does m f s') e) };
  sound = ap (λ f. link_sound m f s') e;
  waits = λ e. absurd (cc);
}

-- the end of the right side is that of the whole
pub right_ends : (l : Linked) (s s' : State) (f : Focus) (w : Stands Done l.right_progress.focus (right_state l s) None (right_does l s)) →
    l.base.ticks + l.right_progress.ticks ≤ limit s → s'.taken ≡ l.base.taken → s'.ticks ≡ l.base.ticks + l.right_progress.ticks → s'.left ≡ limit s - (l.base.ticks + l.right_progress.ticks) → s'.store ≡ s.store → link_goes l s ≡ Ends (Value w.0) s'
right_ends l s s' f w le a b c d =
    let p : Point = over [] (base_point l.base) (point (right_state l s)) in
    ap (λ r. piped [] l.depth s r (base_point l.base) (left_does l)) w.2
    ∙ holds-within p.ticks (limit s) (Ends (Value w.0) (at_point s p)) le
    ∙ ap (Ends (Value w.0)) (at-over s s' (base_point l.base) (point (right_state l s)) a b c d)

-- While the right side waits for an element.

-- the next event of the left side is past the limit
pub left_past : (l : Linked) (s : State) → Sides l s → l.right.awaits l.right_progress.focus ≡ true → limit s < l.left_progress.ticks + l.right_progress.ticks → link_goes l s ≡ spent_proc
left_past l s h a lt =
    let w : (g : Val → Proc) × (right_does l s ≡ Needs (right_state l s) g) = l.right.awaiting l.right_progress.focus (right_state l s) h.right a in
    let r : Late l.right_progress.ticks (Needs (right_state l s) w.0) = subst (Late l.right_progress.ticks) w.1 (l.right.late l.right_progress.focus (right_state l s) h.right) in
    ap (λ r. piped [] l.depth s r (base_point l.base) (left_does l)) w.1
    ∙ pull-past [] l.depth s (λ v p l'. piped [] l.depth s (w.0 v) p l') (right_state l s) (left_does l) l.left_progress.ticks (l.left.late l.left_progress.focus (left_state l) h.left) lt
    (λ v p l' b k. piped-past [] l.depth s (w.0 v) p l' l.right_progress.ticks l.left_progress.ticks (r.1 v) k (omega (arith, lt, b)) lt)

-- the end of the left side is that of the whole, where the right one needs an element
pub left_ends : (l : Linked) (s s' : State) (v : Val) → Sides l s → l.right.awaits l.right_progress.focus ≡ true → left_does l ≡ Ends (Value v) (left_state l) →
    l.left_progress.ticks + l.right_progress.ticks ≤ limit s → s'.taken ≡ l.left_progress.taken → s'.ticks ≡ l.left_progress.ticks + l.right_progress.ticks → s'.left ≡ limit s - (l.left_progress.ticks + l.right_progress.ticks) → s'.store ≡ take l.depth s.store → link_goes l s ≡ Ends (Value v) s'
left_ends l s s' v h a e le b c d k =
    let w : (g : Val → Proc) × (right_does l s ≡ Needs (right_state l s) g) = l.right.awaiting l.right_progress.focus (right_state l s) h.right a in
    let p : Point = over [] (point (left_state l)) (waiting l.depth (Value v) (point (right_state l s))) in
    ap (λ r. piped [] l.depth s r (base_point l.base) (left_does l)) w.1
    ∙ ap (λ q. piped [] l.depth s (Needs (right_state l s) w.0) (base_point l.base) q) e
    ∙ holds-within p.ticks (limit s) (Ends (Value v) (at_point s p)) le
    ∙ ap (Ends (Value v)) (at-over s s' (point (left_state l)) (waiting l.depth (Value v) (point (right_state l s))) b c d k)
