-- What a composition comes to by what its sides come to.
use Rattle.std.proofs.Common.{◌≡◌, ◌∙◌, ◌+◌, ◌-◌, ◌≤◌, ℕ, suc, List, Bool, true, false, Option, Some, None, ap, sym, subst, refl, arith, add-zero, nat_le}
use Rattle.zir_tree.specs.declared.ends.Stamp.{Stamp}
use Rattle.zir_tree.specs.declared.ends.Trap.{Trap}
use Rattle.zir_flow.specs.declared.instruction.Joint.{Joint}
use Rattle.zir_flow.specs.declared.instruction.Instruction.{Instruction}
use Rattle.zir_flow.specs.Threads.{Thread, cells_from}
use Rattle.zir_flow.specs.Stages.{Stage, Joined, Room, Turned, Giving, Failed, Gone as Over, pulled, either_turned, right_ended, turned_on, Going, going_on}
use Rattle.zir_stage.specs.declared.event.Offer.{Offer}
use Rattle.zir_stage.specs.declared.event.Event.{Event}
use Rattle.zir_stage.specs.declared.event.Event.TheVariants.{Gives, Needs, Ends, Traps, Gone}
use Rattle.zir_stage.specs.Coming.{Came, Stops, IsLeft, IsSpent, said, says, spent, gives_at, traps_at, over_if, point_if, point_within}
use Rattle.zir_stage.specs.Standing.{given, stood}
use Rattle.zir_stage.proofs.Forking.{came_by}
use Rattle.zir_flow.proofs.Turning.{right_on, then_on}
use Rattle.zir_stage.proofs.Turning.{stops_right, stops_left, spun_left}

-- a thread that stands at a composition
pub joined_is : (link : Option Stamp) (o : Option Joint) (p : Stamp) (j : Joint) (th : Thread) (l r : Stage) (room : Room) → link ≡ Some p → o ≡ Some j →
    stood link o th l r room ≡ Joined th j l r p.taken p.ticks
joined_is link o p j th l r room e f = rw (e, f) refl

-- where the right side has only gone on
pub came_nothing : (n : ℕ) (code : List Instruction) (th : Thread) (j : Joint) (l r r' s' : Stage) (p : Stamp) → turned_on n code r ≡ Going r' →
    s' ≡ Joined th j l r' p.taken p.ticks → turned_on n code (Joined th j l r p.taken p.ticks) ≡ Going s'
came_nothing n code th j l r r' s' p e f = right_on n code th j l r r' p.taken p.ticks e ∙ ap Going (sym f)

gives_limited : (b : Bool) (o : Offer) (s : Stage) (t n : ℕ) →
    either_turned b (Giving (cells_from o.cells o.at (given s)) t n s) Over ≡ says (gives_at o (point_if b t n)) s
gives_limited true o s t n = refl
gives_limited false o s t n = refl

traps_limited : (b : Bool) (trap : Trap) (s : Stage) (t n : ℕ) → either_turned b (Failed trap t n s) Over ≡ says (traps_at trap (point_if b t n)) s
traps_limited true trap s t n = refl
traps_limited false trap s t n = refl

ends_limited : (b : Bool) (j : Joint) (th : Thread) (l r : Stage) (t n : ℕ) →
    either_turned b (right_ended j th l r t n) Over ≡ over_if 0 j th l r (point_if b t n)
ends_limited true j th l r t n = refl
ends_limited false j th l r t n = refl

-- where the right side gives an output
pub came_gives : (n : ℕ) (code : List Instruction) (th : Thread) (j : Joint) (l r r' s' : Stage) (p : Stamp) (o : Offer) (at : Option Stamp) (e : Event) →
    Stops code n r (says (Gives o) r') → at ≡ point_within p.taken p.ticks o.stamp.ticks th.memory.limit → e ≡ gives_at o at →
    s' ≡ Joined th j l r' p.taken p.ticks → Came code n (Joined th j l r p.taken p.ticks) (Some e) s'
came_gives n code th j l r r' s' p o at e stop f g h =
    came_by (Some e) n n code _ s' _ (sym (add-zero n)) (stops_right n code th j l r p.taken p.ticks (says (Gives o) r') stop)
    (gives_limited (nat_le (p.ticks + o.stamp.ticks) th.memory.limit) o (Joined th j l r' p.taken p.ticks) p.taken (p.ticks + o.stamp.ticks)
    ∙ ap (λ x. says (gives_at o x) (Joined th j l r' p.taken p.ticks)) (sym f) ∙ ap (λ x. says x (Joined th j l r' p.taken p.ticks)) (sym g)
    ∙ ap (says e) (sym h))

-- where it traps
pub came_traps : (n : ℕ) (code : List Instruction) (th : Thread) (j : Joint) (l r r' s' : Stage) (p q : Stamp) (trap : Trap) (at : Option Stamp) (e : Event) →
    Stops code n r (says (Traps trap q) r') → at ≡ point_within p.taken p.ticks q.ticks th.memory.limit → e ≡ traps_at trap at →
    s' ≡ Joined th j l r' p.taken p.ticks → Came code n (Joined th j l r p.taken p.ticks) (Some e) s'
came_traps n code th j l r r' s' p q trap at e stop f g h =
    came_by (Some e) n n code _ s' _ (sym (add-zero n)) (stops_right n code th j l r p.taken p.ticks (says (Traps trap q) r') stop)
    (traps_limited (nat_le (p.ticks + q.ticks) th.memory.limit) trap (Joined th j l r' p.taken p.ticks) p.taken (p.ticks + q.ticks)
    ∙ ap (λ x. says (traps_at trap x) (Joined th j l r' p.taken p.ticks)) (sym f) ∙ ap (λ x. says x (Joined th j l r' p.taken p.ticks)) (sym g)
    ∙ ap (says e) (sym h))

-- where it ends
pub came_ends : (n k : ℕ) (code : List Instruction) (th : Thread) (j : Joint) (l r r' s' : Stage) (p q : Stamp) (at : Option Stamp) (e : Option Event) →
    k ≡ n + spent e → Stops code n r (says (Ends q) r') → at ≡ point_within p.taken p.ticks q.ticks th.memory.limit →
    over_if 0 j th l r' at ≡ said e s' → Came code k (Joined th j l r p.taken p.ticks) e s'
came_ends n k code th j l r r' s' p q at e m stop f g =
    came_by e n k code _ s' _ m (stops_right n code th j l r p.taken p.ticks (says (Ends q) r') stop)
    (ends_limited (nat_le (p.ticks + q.ticks) th.memory.limit) j th l r' p.taken (p.ticks + q.ticks)
    ∙ ap (over_if 0 j th l r') (sym f) ∙ g)

-- where no tick is left
pub came_gone : (n : ℕ) (code : List Instruction) (th : Thread) (j : Joint) (l r r' s' : Stage) (p : Stamp) → Stops code n r (says Gone r') →
    Came code n (Joined th j l r p.taken p.ticks) (Some Gone) s'
came_gone n code th j l r r' s' p stop =
    came_by (Some Gone) n n code _ s' _ (sym (add-zero n)) (stops_right n code th j l r p.taken p.ticks (says Gone r') stop) refl

-- where it needs an element and the left side has only gone on
pub came_waiting : (n m : ℕ) (code : List Instruction) (th : Thread) (j : Joint) (l l' r r' s' : Stage) (p q : Stamp) → Stops code n r (says (Needs q) r') →
    turned_on m code l ≡ Going l' → s' ≡ Joined th j l' r' p.taken p.ticks → turned_on (n + m) code (Joined th j l r p.taken p.ticks) ≡ Going s'
came_waiting n m code th j l l' r r' s' p q stop e f =
    spun_left n m code th j l l' r r' p.taken p.ticks q.taken q.ticks stop e ∙ ap Going (sym f)

-- where it needs an element and the left side has come to an event
pub came_pulled : (n m k : ℕ) (code : List Instruction) (th : Thread) (j : Joint) (l r r' s' : Stage) (p q : Stamp) (x : Turned) (e : Option Event) →
    k ≡ (n + m) + spent e → Stops code n r (says (Needs q) r') → Stops code m l x → pulled code th j r' p.taken p.ticks q.ticks x ≡ said e s' →
    Came code k (Joined th j l r p.taken p.ticks) e s'
came_pulled n m k code th j l r r' s' p q x e g stop left f =
    came_by e (n + m) k code _ s' _ g (stops_left n m code th j l r r' p.taken p.ticks q.taken q.ticks x stop left) f

-- no turns come back
pub spent_less : (e : Option Event) (a b : ℕ) → IsSpent e a b → b ≤ a
spent_less None a b h = omega (arith, h)
spent_less (Some e) a b h = h.0

-- an event under another name
pub stops_as : (n : ℕ) (code : List Instruction) (s s' : Stage) (e e' : Event) → e ≡ e' → Stops code n s (says e s') → Stops code n s (says e' s')
stops_as n code s s' e e' f h = subst (λ x. Stops code n s (says x s')) f h

rests_on : (e : Event) (s : Stage) (next : Stage → Turned) → going_on next (says e s) ≡ says e s
rests_on (Gives o) s next = refl
rests_on (Needs p) s next = refl
rests_on (Ends p) s next = refl
rests_on (Traps t p) s next = refl
rests_on Gone s next = refl

-- what a stage has come to is what it comes to within all its turns
pub came_within : (r : Option Event) (n k : ℕ) (code : List Instruction) (s s' : Stage) → k ≤ n → Came code (n - k) s r s' → IsLeft r k →
    turned_on n code s ≡ said r s'
came_within None n k code s s' less h left =
    let e : n ≡ n - k = omega (arith, left) in
    ap (λ i. turned_on i code s) e ∙ h
came_within (Some event) n k code s s' less (s1, e, h) left =
    let g : n ≡ (n - k) + suc (k - 1) = omega (arith, less, left) in
    ap (λ i. turned_on i code s) g ∙ then_on (n - k) (suc (k - 1)) code s s1 e ∙ ap (going_on (turned_on (k - 1) code)) h
    ∙ rests_on event s' (turned_on (k - 1) code)
