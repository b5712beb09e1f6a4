-- What a thread alone comes to by its pause.
use Rattle.std.proofs.Common.{◌≡◌, ◌∙◌, ◌+◌, ℕ, List, Option, Some, None, ap, sym, subst, add-zero}
use Rattle.zir_flow.specs.declared.instruction.Joint.{Joint}
use Rattle.zir_flow.specs.declared.instruction.Instruction.{Instruction}
use Rattle.zir_flow.specs.Threads.{Thread, move}
use Rattle.zir_flow.specs.Stages.{Stage, Alone, Room, Turned, Going, joined, turned_by, turned_on}
use Rattle.zir_stage.specs.declared.thread.Pause.{Pause}
use Rattle.zir_stage.specs.declared.thread.Pause.TheVariants.{Goes, Offers, Wants, Halts, Fails, Spends, Forks}
use Rattle.zir_stage.specs.declared.event.Event.{Event}
use Rattle.zir_stage.specs.Pausing.{joint_at, forked, fork_by}
use Rattle.zir_stage.specs.Coming.{Came, Stops, Paced, said, spent, event_by}
use Rattle.zir_flow.proofs.Staying.{Stays, moves_stay}
use Rattle.zir_flow.proofs.Turning.{then_on}
use Rattle.zir_stage.proofs.Turning.{goes_one}

forked_same : (o : Option Joint) (code : List Instruction) (at th : Thread) → move code at ≡ forked o th → th ≡ at
forked_same (Some j) code at th e = subst (λ m. Stays m at) e (moves_stay code at)
forked_same None code at th e = subst (λ m. Stays m at) e (moves_stay code at)

-- the place where a thread waits or begins a composition is where it was
fork_moves : (code : List Instruction) (at th : Thread) (o : Option Joint) → move code at ≡ forked (joint_at code at.place) th → joint_at code th.place ≡ o →
    move code at ≡ forked o th
fork_moves code at th o e h =
    let same : th ≡ at = forked_same (joint_at code at.place) code at th e in
    e ∙ ap (λ j. forked j th) (ap (λ t. joint_at code t.place) (sym same) ∙ h)

-- where no composition begins
pub paced_event : (p : Pause) (n : ℕ) (code : List Instruction) (th th' : Thread) (room : Room) → Paced code n th p th' →
    fork_by p (joint_at code th'.place) ≡ None → Came code n (Alone th room) (event_by p th') (Alone th' room)
paced_event Goes n code th th' room h e = h room
paced_event (Offers at k) n code th th' room (s, w, m) e = (Alone s room, w room, ap (λ x. turned_by x room) m)
paced_event Wants n code th th' room (s, w, m) e = (Alone s room, w room, ap (λ x. turned_by x room) m)
paced_event Halts n code th th' room (s, w, m) e = (Alone s room, w room, ap (λ x. turned_by x room) m)
paced_event (Fails t) n code th th' room (s, w, m) e = (Alone s room, w room, ap (λ x. turned_by x room) m)
paced_event Spends n code th th' room (s, w, m) e = (Alone s room, w room, ap (λ x. turned_by x room) m)
paced_event Forks n code th th' room (s, w, m) e = (Alone s room, w room, ap (λ x. turned_by x room) (fork_moves code s th' None m e))

-- where a composition begins
pub paced_fork : (p : Pause) (n : ℕ) (code : List Instruction) (th th' : Thread) (room : Room) (j : Joint) → Paced code n th p th' →
    fork_by p (joint_at code th'.place) ≡ Some j → Stops code n (Alone th room) (joined j th' room)
paced_fork Goes n code th th' room j h e = cc
paced_fork (Offers at k) n code th th' room j h e = cc
paced_fork Wants n code th th' room j h e = cc
paced_fork Halts n code th th' room j h e = cc
paced_fork (Fails t) n code th th' room j h e = cc
paced_fork Spends n code th th' room j h e = cc
paced_fork Forks n code th th' room j (s, w, m) e = (Alone s room, w room, ap (λ x. turned_by x room) (fork_moves code s th' (Some j) m e))

pub fork_joint : (p : Pause) (o : Option Joint) (j : Joint) → fork_by p o ≡ Some j → o ≡ Some j
fork_joint Goes o j e = cc
fork_joint (Offers at k) o j e = cc
fork_joint Wants o j e = cc
fork_joint Halts o j e = cc
fork_joint (Fails t) o j e = cc
fork_joint Spends o j e = cc
fork_joint Forks o j e = e

-- what a stage has come to by one turn, which it takes where it only goes on
pub came_by : (r : Option Event) (n k : ℕ) (code : List Instruction) (s s' : Stage) (t : Turned) → k ≡ n + spent r → Stops code n s t → t ≡ said r s' →
    Came code k s r s'
came_by None n k code s s' t g (s1, e, h) f = goes_one n k code s s' g (s1, e, h ∙ f)
came_by (Some event) n k code s s' t g (s1, e, h) f = (s1, ap (λ i. turned_on i code s) (g ∙ add-zero n) ∙ e, h ∙ f)

-- more turns from where others lead
pub came_on : (r : Option Event) (n m k : ℕ) (code : List Instruction) (s s1 s' : Stage) → k ≡ n + m → turned_on n code s ≡ Going s1 →
    Came code m s1 r s' → Came code k s r s'
came_on None n m k code s s1 s' g e h = ap (λ i. turned_on i code s) g ∙ then_on n m code s s1 e ∙ h
came_on (Some event) n m k code s s1 s' g e (s2, f, h) = (s2, ap (λ i. turned_on i code s) g ∙ then_on n m code s s1 e ∙ f, h)
