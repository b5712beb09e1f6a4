-- What each operation does with the memory of a run.
pub mod Frames
use Rattle.std.specs.Prelude.{ℕ, zero, suc, ℤ, pos, ◌+◌, ◌%◌, ◌^◌, Bool, true, false, Result, Ok, Err, slice_index_or, slice_set, nat_lt}
use Rattle.std.specs.Int.{cast_unsigned}
use mir.Syntax.{w64}
use Rattle.zir_tree.specs.declared.place.Place.{Place}
use Rattle.zir_tree.specs.declared.ends.Trap.{Trap}
use Rattle.zir_expr.specs.declared.frame.Halt.{Halt}
use Rattle.zir_expr.specs.declared.frame.Halt.TheVariants.{Trap as ByTrap, Spent}
use Rattle.zir_expr.specs.declared.frame.Spot.{Spot}
use Rattle.zir_expr.specs.declared.frame.Spot.TheVariants.{Top, Local}
use Rattle.zir_expr.specs.Memory.Frames.{Memory}

-- the cell at an index, and 0 past the last
abbrev pub cell_at : ℕ → Memory → ℤ
cell_at i m = slice_index_or m.cells i (pos 0)

-- another cell at an index, and nothing past the last
abbrev pub put_cell : ℕ → ℤ → Memory → Memory
put_cell i n m = record m { cells = slice_set m.cells i n }

-- the index after another, as a machine counts
abbrev pub after : ℕ → ℕ
after i = (i + 1) % 2 ^ 64

-- so many cells copied, one after the other
abbrev pub moved : ℕ → ℕ → ℕ → Memory → Memory
moved zero to from m = m
moved (suc n) to from m = moved n (after to) (after from) (put_cell to (cell_at from m) m)

-- the index at an offset from a base, as a machine counts
unfoldable pub from_base : ℕ → ℕ → ℕ
from_base base offset = (base + offset) % 2 ^ 64

-- the index of the cell at a spot
abbrev pub place_of : ℕ → Spot → ℕ
place_of base (Top o) = o
place_of base (Local o) = from_base base o

-- the index so many cells after a spot
abbrev pub address_of : ℕ → Spot → ℤ → ℕ
address_of base spot offset = (place_of base spot + cast_unsigned w64 offset) % 2 ^ 64

-- how steps end: at their end, by a trap, or with a budget that is spent
pub data Ran : Type 0 where
  Done : (m : Memory) → Ran
  Trapped : (t : Trap) (m : Memory) → Ran
  Out : Ran

-- steps, and where they come to their end what follows
abbrev pub then_run : Ran → (Memory → Ran) → Ran
then_run (Done m) next = next m
then_run (Trapped t m) next = Trapped t m
then_run Out next = Out

-- what code that halted means
abbrev pub halted : Halt → Memory → Ran
halted ByTrap m = Trapped m.trap m
halted Spent m = Out

-- what code means by its answer and the memory after it
abbrev pub ended : {U : Type 0} → Result U Halt → Memory → Ran
ended (Ok u) m = Done m
ended (Err h) m = halted h m

-- a tick where one is left
abbrev pub tick_if : Bool → Memory → Ran
tick_if true m = Done (record m { used = m.used + 1 })
tick_if false m = Out

-- a tick
abbrev pub ticked : Memory → Ran
ticked m = tick_if (nat_lt m.used m.limit) m

-- a trap of this number at this place
abbrev pub trapped : ℕ → Place → Memory → Ran
trapped code p m = Trapped (record { code = code; at = p }) (record m { trap = record { code = code; at = p } })
