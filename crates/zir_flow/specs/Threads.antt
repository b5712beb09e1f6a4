-- What instructions do with a thread: a place in the code, the cells, and the elements that were taken.
use Rattle.std.specs.Prelude.{ℕ, zero, suc, ℤ, pos, negsuc, ◌+◌, ◌-◌, ◌*◌, ◌%◌, ◌^◌, List, [], ◌∷◌, Bool, true, false, Option, Some, None, length, nat_lt, slice_get}
use Rattle.zir_tree.specs.declared.ends.Trap.{Trap}
use Rattle.zir_expr.specs.declared.frame.Spot.TheVariants.{Local}
use Rattle.zir_expr.specs.Answers.{is_set}
use Rattle.zir_expr.specs.Memory.{cell_at, put_cell, after, from_base, place_of, Ran, Done, Trapped, Out, ticked}
use Rattle.zir_expr.specs.Memory.Frames.{Memory}
use Rattle.zir_expr.specs.Running.{go_all}
use Rattle.zir_flow.specs.declared.instruction.Series.{Series}
use Rattle.zir_flow.specs.declared.instruction.Joint.{Joint}
use Rattle.zir_flow.specs.declared.instruction.Caller.{Caller}
use Rattle.zir_flow.specs.declared.instruction.Instruction.{Instruction}
use Rattle.zir_flow.specs.declared.instruction.Instruction.TheVariants.{Run, Tick, Take, Takes, Give, Gives, Ahead, Again, Branch, Turn, Enter, Leave, Pipe, Stop}

-- a place in the code, where the cells of the body that runs begin, the calls that it is in, the innermost first, how many there may be, the memory, and how
-- many elements were taken
pub record Thread : Type 0 where
  pub place : ℕ
  pub base : ℕ
  pub calls : List Caller
  pub deep : ℕ
  pub memory : Memory
  pub taken : ℕ

-- what an instruction makes of a thread: it goes on, offers cells, wants an element, has come to its end, traps, has no tick left, or begins a composition
pub data Move : Type 0 where
  Goes : (th : Thread) → Move
  Offers : (cells : List ℤ) (th : Thread) → Move
  Wants : (th : Thread) → Move
  Halts : (th : Thread) → Move
  Fails : (t : Trap) (th : Thread) → Move
  Spends : Move
  Forks : (j : Joint) (th : Thread) → Move

-- so many cells from an index on
abbrev pub cells_from : ℕ → ℕ → Memory → List ℤ
cells_from zero i m = []
cells_from (suc n) i m = cell_at i m ∷ cells_from n (after i) m

-- these cells from an index on
abbrev pub written : ℕ → List ℤ → Memory → Memory
written i [] m = m
written i (x ∷ xs) m = written (after i) xs (put_cell i x m)

-- so many instructions behind the next one
abbrev pub onward : ℕ → Thread → Thread
onward k th = record th { place = from_base (after th.place) k }

-- so many instructions back
abbrev pub backward : ℕ → Thread → Thread
backward k th = record th { place = (th.place + (2 ^ 64 - k)) % 2 ^ 64 }

-- the next instruction with another memory
abbrev pub next_with : Thread → Memory → Thread
next_with th m = onward 0 (record th { memory = m })

-- a thread after steps
abbrev pub after_steps : Ran → (Memory → Move) → Thread → Move
after_steps (Done m) next th = next m
after_steps (Trapped t m) next th = Fails t (record th { memory = m })
after_steps Out next th = Spends

-- one of two
abbrev pub either_move : Bool → Move → Move → Move
either_move true a b = a
either_move false a b = b

-- the count in a cell: none for what is below 0
abbrev pub count_in : ℤ → ℕ
count_in (pos n) = n
count_in (negsuc n) = 0

-- how many of a series have come
abbrev pub come : Series → Thread → ℕ
come s th = count_in (cell_at (place_of th.base (Local s.counter)) th.memory)

-- the cells where the next one of a series stands
abbrev pub next_of : Series → Thread → ℕ
next_of s th = (place_of th.base s.from + come s th * s.size) % 2 ^ 64

-- one more of a series has come
abbrev pub counted_on : Series → Thread → Memory → Memory
counted_on s th m = put_cell (place_of th.base (Local s.counter)) (pos (come s th + 1)) m

-- one turn fewer, where one is left
abbrev pub turn_of : ℤ → ℕ → ℕ → Thread → Move
turn_of (pos (suc n)) i k th = Goes (next_with th (put_cell i (pos n) th.memory))
turn_of (pos zero) i k th = Goes (onward k th)
turn_of (negsuc n) i k th = Goes (onward k th)

-- the body of an instance, if there may be one more call
abbrev pub enter_if : Bool → ℕ → ℕ → Thread → Move
enter_if true place at th =
    Goes (record th { place = place; base = from_base th.base at; calls = record { place = after th.place; base = th.base } ∷ th.calls })
enter_if false place at th = Spends

-- back to the innermost caller
abbrev pub left_for : List Caller → Thread → Move
left_for [] th = Spends
left_for (c ∷ calls) th = Goes (record th { place = c.place; base = c.base; calls = calls })

-- a cell and a truth value are the same
abbrev pub goes_if : Bool → Bool → Bool
goes_if true b = b
goes_if false true = false
goes_if false false = true

-- what an instruction makes of a thread
abbrev pub moved_by : Instruction → Thread → Move
moved_by (Run steps) th = after_steps (go_all steps th.base th.memory) (λ m. Goes (next_with th m)) th
moved_by Tick th = after_steps (ticked th.memory) (λ m. Goes (next_with th m)) th
moved_by (Take to) th = Wants th
moved_by (Takes s k) th = either_move (nat_lt (come s th) s.count) (Wants th) (Goes (onward k th))
moved_by (Give x n) th = Offers (cells_from n (place_of th.base x) th.memory) (onward 0 th)
moved_by (Gives s) th =
    either_move (nat_lt (come s th) s.count)
    (after_steps (ticked th.memory) (λ m. Offers (cells_from s.size (next_of s th) (counted_on s th m)) (record th { memory = counted_on s th m })) th)
    (Goes (onward 0 th))
moved_by (Ahead k) th = Goes (onward k th)
moved_by (Again k) th = Goes (backward k th)
moved_by (Branch x on k) th = either_move (goes_if (is_set (cell_at (place_of th.base x) th.memory)) on) (Goes (onward k th)) (Goes (onward 0 th))
moved_by (Turn c k) th = turn_of (cell_at (place_of th.base (Local c)) th.memory) (place_of th.base (Local c)) k th
moved_by (Enter place at) th = enter_if (nat_lt (length th.calls) th.deep) place at th
moved_by Leave th = left_for th.calls th
moved_by (Pipe j) th = Forks j th
moved_by Stop th = Halts th

-- the same where there is an instruction
abbrev pub move_if : Option Instruction → Thread → Move
move_if (Some i) th = moved_by i th
move_if None th = Spends

-- what a thread does next
abbrev pub move : List Instruction → Thread → Move
move code th = move_if (slice_get code th.place) th

-- one of two
abbrev pub either_thread : Bool → Thread → Thread → Thread
either_thread true a b = a
either_thread false a b = b

-- the cells of an element go where the instruction has them, if it wants one
abbrev pub fed_by : Option Instruction → List ℤ → Thread → Thread
fed_by None cells th = th
fed_by (Some (Run steps)) cells th = th
fed_by (Some Tick) cells th = th
fed_by (Some (Take to)) cells th = record (next_with th (written (place_of th.base (Local to)) cells th.memory)) { taken = after th.taken }
fed_by (Some (Takes s k)) cells th =
    either_thread (nat_lt (come s th) s.count)
    (record (next_with th (counted_on s th (written (next_of s th) cells th.memory))) { taken = after th.taken }) th
fed_by (Some (Give x n)) cells th = th
fed_by (Some (Gives s)) cells th = th
fed_by (Some (Ahead k)) cells th = th
fed_by (Some (Again k)) cells th = th
fed_by (Some (Branch x on k)) cells th = th
fed_by (Some (Turn c k)) cells th = th
fed_by (Some (Enter place at)) cells th = th
fed_by (Some Leave) cells th = th
fed_by (Some (Pipe j)) cells th = th
fed_by (Some Stop) cells th = th

-- a thread that wants an element has it
abbrev pub fed : List Instruction → List ℤ → Thread → Thread
fed code cells th = fed_by (slice_get code th.place) cells th
