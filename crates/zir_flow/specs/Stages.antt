-- What a stage does: a thread alone, or a composition of two stages in which it stands.
use Rattle.std.specs.Prelude.{ℕ, zero, suc, ◌+◌, ◌-◌, ℤ, List, [], ◌∷◌, Bool, true, false, nat_le}
use Rattle.zir_tree.specs.declared.ends.Trap.{Trap}
use Rattle.zir_expr.specs.Memory.{from_base, place_of}
use Rattle.zir_expr.specs.Memory.Frames.{Memory}
use Rattle.zir_flow.specs.declared.instruction.Back.{Back}
use Rattle.zir_flow.specs.declared.instruction.Joint.{Joint}
use Rattle.zir_flow.specs.declared.instruction.Instruction.{Instruction}
use Rattle.zir_flow.specs.Threads.{Thread, Move, Goes, Offers, Wants, Halts, Fails, Spends, Forks, move, fed, cells_from, written}

-- memory for the left sides of compositions, and for those inside both sides; with none there is no composition
pub data Room : Type 0 where
  Closed : Room
  Open : (memory : Memory) (left : Room) (right : Room) → Room

-- a thread with room for compositions; or a thread that stands at a composition, its sides, and the elements and ticks of the left side at the output that it
-- gave last
pub data Stage : Type 0 where
  Alone : (th : Thread) (room : Room) → Stage
  Joined : (th : Thread) (j : Joint) (left : Stage) (right : Stage) (taken : ℕ) (ticks : ℕ) → Stage

-- what a stage does: the event, with the elements taken and the ticks at its point
pub data Turned : Type 0 where
  Going : (s : Stage) → Turned
  Giving : (cells : List ℤ) (taken : ℕ) (ticks : ℕ) (s : Stage) → Turned
  Needing : (taken : ℕ) (ticks : ℕ) (s : Stage) → Turned
  Ended : (taken : ℕ) (ticks : ℕ) (s : Stage) → Turned
  Failed : (t : Trap) (taken : ℕ) (ticks : ℕ) (s : Stage) → Turned
  Gone : Turned

-- the left side's memory: its own with the cells in scope as they are, and the same meter
abbrev pub copied : ℕ → Memory → Memory → Memory
copied k m spare = written 0 (cells_from k 0 m) (record spare { used = m.used; limit = m.limit })

-- a thread whose cells the right side of a composition works on
abbrev pub emptied : Thread → Thread
emptied th = record th { memory = record th.memory { cells = [] } }

-- the left side where a composition begins
abbrev pub left_begins : Joint → Thread → Memory → Thread
left_begins j th spare =
    record { place = from_base th.place 1; base = th.base; calls = []; deep = th.deep; memory = copied (from_base th.base j.scope) th.memory spare; taken = th.taken }

-- the right side, which takes its own elements and uses its own ticks
abbrev pub right_begins : Joint → Thread → Thread
right_begins j th =
    record {
      place = from_base (from_base th.place 1) j.right;
      base = th.base;
      calls = [];
      deep = th.deep;
      memory = record th.memory { used = 0; limit = th.memory.limit - th.memory.used };
      taken = 0;
    }

-- a composition begins, where there is room
abbrev pub joined : Joint → Thread → Room → Turned
joined j th Closed = Gone
joined j th (Open spare l r) = Going (Joined (emptied th) j (Alone (left_begins j th spare) l) (Alone (right_begins j th) r) th.taken th.memory.used)

-- a stage that does what its thread does
abbrev pub turned_by : Move → Room → Turned
turned_by (Goes th) room = Going (Alone th room)
turned_by (Offers cells th) room = Giving cells th.taken th.memory.used (Alone th room)
turned_by (Wants th) room = Needing th.taken th.memory.used (Alone th room)
turned_by (Halts th) room = Ended th.taken th.memory.used (Alone th room)
turned_by (Fails t th) room = Failed t th.taken th.memory.used (Alone th room)
turned_by Spends room = Gone
turned_by (Forks j th) room = joined j th room

-- cells of one memory over the same ones of another
abbrev pub brought_back : List Back → ℕ → Memory → Memory → Memory
brought_back [] base left right = right
brought_back (b ∷ back) base left right =
    brought_back back base left (written (place_of base b.at) (cells_from b.cells (place_of base b.at) left) right)

-- the memory as it is seen from outside: that of a composition's right side with what the left side assigns
abbrev pub seen : Stage → Memory
seen (Alone th room) = th.memory
seen (Joined th j left right taken ticks) = brought_back j.back th.base (seen left) (seen right)

-- the memory of a stage's own left side, and the room inside it, when it is over
abbrev pub room_of : Stage → Room
room_of (Alone th room) = room
room_of (Joined th j left right taken ticks) = Open (seen left) (room_of left) (room_of right)

-- the memory behind a composition with so many elements taken and ticks used, its cells from this memory
abbrev pub behind : Joint → Thread → Memory → ℕ → ℕ → Room → Turned
behind j th m taken ticks room =
    Going (Alone (record th { place = from_base (from_base th.place 1) j.behind; memory = record m { used = ticks; limit = th.memory.limit }; taken = taken }) room)

-- one of two
abbrev pub either_turned : Bool → Turned → Turned → Turned
either_turned true a b = a
either_turned false a b = b

-- within the budget of the composition
abbrev pub within_limit : Thread → ℕ → Turned → Turned
within_limit th ticks next = either_turned (nat_le ticks th.memory.limit) next Gone

-- the right side has ended with a value
abbrev pub right_ended : Joint → Thread → Stage → Stage → ℕ → ℕ → Turned
right_ended j th left right taken ticks =
    behind j th (brought_back j.back th.base (seen left) (seen right)) taken ticks (Open (seen left) (room_of left) (room_of right))

-- the left side has, and its value goes over
abbrev pub left_ended : Joint → Thread → Stage → Stage → ℕ → ℕ → Turned
left_ended j th left right taken ticks =
    let at = from_base th.base j.scope in
    behind j th (written at (cells_from j.value at (seen left)) (brought_back j.back th.base (seen left) (seen right))) taken ticks
    (Open (seen left) (room_of left) (room_of right))

-- a stage that needs an element has it
abbrev pub handed : List Instruction → List ℤ → Stage → Stage
handed code cells (Alone th room) = Alone (fed code cells th) room
handed code cells (Joined th j left right taken ticks) = Joined th j (handed code cells left) right taken ticks

-- what the left side does where the right side needs an element at so many ticks
abbrev pub pulled : List Instruction → Thread → Joint → Stage → ℕ → ℕ → ℕ → Turned → Turned
pulled code th j right taken ticks own (Going left) = Going (Joined th j left right taken ticks)
pulled code th j right taken ticks own (Giving cells t u left) = Going (Joined th j left (handed code cells right) t u)
pulled code th j right taken ticks own (Needing t u left) = within_limit th (u + own) (Needing t (u + own) (Joined th j left right taken ticks))
pulled code th j right taken ticks own (Ended t u left) = within_limit th (u + own) (left_ended j th left right t (u + own))
pulled code th j right taken ticks own (Failed trap t u left) = within_limit th (u + own) (Failed trap t (u + own) (Joined th j left right taken ticks))
pulled code th j right taken ticks own Gone = Gone

-- what a composition does by what its right side does; where that needs an element, by what the left side does
abbrev pub composed : List Instruction → Thread → Joint → Stage → ℕ → ℕ → Turned → Turned → Turned
composed code th j left taken ticks leftward (Going right) = Going (Joined th j left right taken ticks)
composed code th j left taken ticks leftward (Giving cells t u right) =
    within_limit th (ticks + u) (Giving cells taken (ticks + u) (Joined th j left right taken ticks))
composed code th j left taken ticks leftward (Needing t u right) = pulled code th j right taken ticks u leftward
composed code th j left taken ticks leftward (Ended t u right) = within_limit th (ticks + u) (right_ended j th left right taken (ticks + u))
composed code th j left taken ticks leftward (Failed trap t u right) =
    within_limit th (ticks + u) (Failed trap taken (ticks + u) (Joined th j left right taken ticks))
composed code th j left taken ticks leftward Gone = Gone

-- what a stage does next
abbrev pub turn : List Instruction → Stage → Turned
turn code (Alone th room) = turned_by (move code th) room
turn code (Joined th j left right taken ticks) = composed code th j left taken ticks (turn code left) (turn code right)

-- a turn, and where the stage only goes on what follows
abbrev pub going_on : (Stage → Turned) → Turned → Turned
going_on next (Going s) = next s
going_on next (Giving cells taken ticks s) = Giving cells taken ticks s
going_on next (Needing taken ticks s) = Needing taken ticks s
going_on next (Ended taken ticks s) = Ended taken ticks s
going_on next (Failed t taken ticks s) = Failed t taken ticks s
going_on next Gone = Gone

-- what a stage comes to within so many turns: its next event, or how far it has come
abbrev pub turned_on : ℕ → List Instruction → Stage → Turned
turned_on zero code s = Going s
turned_on (suc n) code s = going_on (turned_on n code) (turn code s)
