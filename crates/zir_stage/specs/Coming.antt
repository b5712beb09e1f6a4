-- What stages and threads come to within so many turns.
use Rattle.std.specs.Prelude.{ℕ, ◌+◌, ◌<◌, ◌≤◌, List, Bool, true, false, Option, Some, None, ◌≡◌, nat_le}
use Rattle.zir_flow.specs.declared.instruction.Instruction.{Instruction}
use Rattle.zir_flow.specs.Threads.{Thread, move, cells_from, written}
use Rattle.zir_flow.specs.Stages.{Stage as Standing, Alone, Room, Open, behind, brought_back, seen, room_of, Turned, Going, Giving, Needing, Ended, Failed, Gone as Over, turn, turned_on}
use Rattle.zir_tree.specs.declared.ends.Stamp.{Stamp}
use Rattle.zir_tree.specs.declared.ends.Trap.{Trap}
use Rattle.zir_expr.specs.Memory.{from_base}
use Rattle.zir_flow.specs.declared.instruction.Joint.{Joint}
use Rattle.zir_stage.specs.declared.event.Offer.{Offer}
use Rattle.zir_stage.specs.declared.event.Event.{Event}
use Rattle.zir_stage.specs.declared.event.Event.TheVariants.{Gives, Needs, Ends, Traps, Gone}
use Rattle.zir_stage.specs.declared.thread.Pause.{Pause}
use Rattle.zir_stage.specs.declared.thread.Pause.TheVariants.{Goes, Offers, Wants, Halts, Fails, Spends, Forks}
use Rattle.zir_stage.specs.Pausing.{moved_as, joint_at}
use Rattle.zir_stage.specs.Standing.{given}

-- what an event says of the stage that has come to it
abbrev pub says : Event → Standing → Turned
says (Gives o) s = Giving (cells_from o.cells o.at (given s)) o.stamp.taken o.stamp.ticks s
says (Needs p) s = Needing p.taken p.ticks s
says (Ends p) s = Ended p.taken p.ticks s
says (Traps t p) s = Failed t p.taken p.ticks s
says Gone s = Over

-- the same, and of a stage that only goes on
abbrev pub said : Option Event → Standing → Turned
said None s = Going s
said (Some e) s = says e s

-- after so many turns a stage only goes on, and the next one is this
abbrev pub Stops : List Instruction → ℕ → Standing → Turned → Type 0
Stops code n s t = (s' : Standing) × (turned_on n code s ≡ Going s') × (turn code s' ≡ t)

-- a stage has gone on for so many turns, and then come to an event, if there is one
abbrev pub Came : List Instruction → ℕ → Standing → Option Event → Standing → Type 0
Came code n s None s' = turned_on n code s ≡ Going s'
Came code n s (Some e) s' = Stops code n s (says e s')

-- a thread has gone on for so many turns, whatever its room
abbrev pub Went : List Instruction → ℕ → Thread → Thread → Type 0
Went code n th th' = (room : Room) → turned_on n code (Alone th room) ≡ Going (Alone th' room)

-- a thread has gone on for so many turns, and then come to a pause
abbrev pub Reaches : List Instruction → ℕ → Thread → Pause → Thread → Type 0
Reaches code n th p th' = (at : Thread) × (Went code n th at) × (move code at ≡ moved_as p (joint_at code at.place) th')

-- a thread has gone on for so many turns, and then come to a pause, if there is one
abbrev pub Paced : List Instruction → ℕ → Thread → Pause → Thread → Type 0
Paced code n th Goes th' = Went code n th th'
Paced code n th (Offers at k) th' = Reaches code n th (Offers at k) th'
Paced code n th Wants th' = Reaches code n th Wants th'
Paced code n th Halts th' = Reaches code n th Halts th'
Paced code n th (Fails t) th' = Reaches code n th (Fails t) th'
Paced code n th Spends th' = Reaches code n th Spends th'
Paced code n th Forks th' = Reaches code n th Forks th'

-- the elements and ticks at the point where a thread is
abbrev pub point_of : Thread → Stamp
point_of th = record { taken = th.taken; ticks = th.memory.used }

-- what a thread comes to by its pause where no composition begins
abbrev pub event_by : Pause → Thread → Option Event
event_by Goes th = None
event_by (Offers at n) th = Some (Gives (record { at = at; cells = n; stamp = point_of th }))
event_by Wants th = Some (Needs (point_of th))
event_by Halts th = Some (Ends (point_of th))
event_by (Fails t) th = Some (Traps t (point_of th))
event_by Spends th = Some Gone
event_by Forks th = Some (Needs (point_of th))

-- no turn is left where nothing has come
abbrev pub IsLeft : Option Event → ℕ → Type 0
IsLeft None n = n ≡ 0
IsLeft (Some e) n = 0 < n

-- how many turns of its own a stage takes with what it comes to: one where it goes on
abbrev pub spent : Option Event → ℕ
spent None = 1
spent (Some e) = 0

-- a point with more ticks, if they are within the budget
abbrev pub point_if : Bool → ℕ → ℕ → Option Stamp
point_if true taken ticks = Some (record { taken = taken; ticks = ticks })
point_if false taken ticks = None

-- a point at the sum of two ticks, if that is within the budget
abbrev pub point_within : ℕ → ℕ → ℕ → ℕ → Option Stamp
point_within taken a b limit = point_if (nat_le (a + b) limit) taken (a + b)

-- an output at a point, if there is one
abbrev pub gives_at : Offer → Option Stamp → Event
gives_at o (Some p) = Gives (record { at = o.at; cells = o.cells; stamp = p })
gives_at o None = Gone

-- a trap at a point, if there is one
abbrev pub traps_at : Trap → Option Stamp → Event
traps_at t (Some p) = Traps t p
traps_at t None = Gone

-- a need at a point, if there is one
abbrev pub needs_at : Option Stamp → Event
needs_at (Some p) = Needs p
needs_at None = Gone

-- a composition is over, and so many cells of the left side's value go over
abbrev pub over : ℕ → Joint → Thread → Standing → Standing → ℕ → ℕ → Turned
over n j th left right taken ticks =
    behind j th (written (from_base th.base j.scope) (cells_from n (from_base th.base j.scope) (seen left)) (brought_back j.back th.base (seen left) (seen right)))
    taken ticks (Open (seen left) (room_of left) (room_of right))

-- the same where the ticks are within the budget
abbrev pub over_if : ℕ → Joint → Thread → Standing → Standing → Option Stamp → Turned
over_if n j th left right (Some p) = over n j th left right p.taken p.ticks
over_if n j th left right None = Over

-- some turns are spent where nothing has come, and at least one is left where something has
abbrev pub IsSpent : Option Event → ℕ → ℕ → Type 0
IsSpent None before later = later < before
IsSpent (Some e) before later = (later ≤ before) × (0 < later)
