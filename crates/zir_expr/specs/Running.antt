-- What steps do with the memory of a run.
use Rattle.std.specs.Prelude.{ℕ, zero, suc, ℤ, pos, negsuc, ◌-◌, ◌+ℤ◌, ◌*ℤ◌, List, [], ◌∷◌, Bool, true, false, Result, Ok, Err, nat_lt}
use Rattle.std.specs.Int.{int_wrap}
use mir.Syntax.{w32, w64}
use Rattle.zir_tree.specs.declared.place.Place.{Place}
use Rattle.zir_expr.specs.declared.frame.Spot.{Spot}
use Rattle.zir_expr.specs.declared.scalar.Change.{Change}
use Rattle.zir_expr.specs.declared.scalar.Operation.{Operation}
use Rattle.zir_expr.specs.declared.complex.ComplexOperation.{ComplexOperation}
use Rattle.zir_expr.specs.declared.complex.Parts.{Parts}
use Rattle.zir_expr.specs.declared.steps.Elements.{Elements}
use Rattle.zir_expr.specs.declared.steps.Fork.{Fork}
use Rattle.zir_expr.specs.declared.steps.Turn.{Turn}
use Rattle.zir_expr.specs.declared.steps.Counting.{Counting}
use Rattle.zir_expr.specs.declared.steps.Step.{Step, Number, Copy, Move, Change as ChangeStep, Operate, Complex, Locate, Load, Store, Fail, Branch', While', Count', Call', Row_of-Step, end_of-Step, more_of-Step, end_of-Code, more_of-Code}
use Rattle.zir_expr.specs.Answers.{is_set}
use Rattle.zir_expr.specs.Memory.{cell_at, put_cell, after, moved, from_base, place_of, address_of, Ran, Done, Out, then_run, ticked, trapped}
use Rattle.zir_expr.specs.Memory.Frames.{Memory}
use Rattle.zir_expr.specs.Scalars.{changed, operated, complex_operated}

-- a number into a cell
abbrev pub number_to : Spot → ℤ → ℕ → Memory → Memory
number_to to n base m = put_cell (place_of base to) n m

-- a cell into another
abbrev pub copy_to : Spot → Spot → ℕ → Memory → Memory
copy_to to from base m = put_cell (place_of base to) (cell_at (place_of base from) m) m

-- a prefix or a conversion of a cell into another
abbrev pub changed_to : Change → Spot → Spot → ℕ → Memory → Memory
changed_to c to a base m = put_cell (place_of base to) (changed c (cell_at (place_of base a) m)) m

-- a cell, or a trap
abbrev pub put_or_trap : Result ℤ ℕ → ℕ → Place → Memory → Ran
put_or_trap (Ok n) i p m = Done (put_cell i n m)
put_or_trap (Err code) i p m = trapped code p m

-- an operator at two cells into a cell
abbrev pub operated_to : Operation → Spot → Spot → Spot → Place → ℕ → Memory → Ran
operated_to o to a b p base m = put_or_trap (operated o (cell_at (place_of base a) m) (cell_at (place_of base b) m)) (place_of base to) p m

-- the two cells of a complex number
abbrev pub parts_at : ℕ → Memory → Parts
parts_at i m = record { real = cell_at i m; imaginary = cell_at (after i) m }

-- a complex number into two cells
abbrev pub put_parts : ℕ → Parts → Memory → Memory
put_parts i p m = put_cell (after i) p.imaginary (put_cell i p.real m)

-- an operator at complex numbers into two cells
abbrev pub complex_to : ComplexOperation → Spot → Spot → Spot → ℕ → Memory → Memory
complex_to o to a b base m = put_parts (place_of base to) (complex_operated o (parts_at (place_of base a) m) (parts_at (place_of base b) m)) m

-- the offset of an element, so many cells behind another offset, where its index is inside
abbrev pub offset_if : Bool → ℤ → ℤ → Elements → Result ℤ ℕ
offset_if true from k e = Ok (int_wrap w64 (from +ℤ int_wrap w64 (k *ℤ pos e.size)))
offset_if false from k e = Err e.code

-- the offset of the element at an index
abbrev pub offset_of : ℤ → ℤ → Elements → Result ℤ ℕ
offset_of from (pos k) e = offset_if (nat_lt k e.room) from (pos k) e
offset_of from (negsuc k) e = Err e.code

-- the offset of an element into a cell, or a trap
abbrev pub located_to : Spot → Spot → Spot → Elements → ℕ → Memory → Ran
located_to to from index e base m = put_or_trap (offset_of (cell_at (place_of base from) m) (cell_at (place_of base index) m) e) (place_of base to) e.at m

-- cells at an offset into others
abbrev pub loaded_to : Spot → Spot → Spot → ℕ → ℕ → Memory → Memory
loaded_to to from offset n base m = moved n (place_of base to) (address_of base from (cell_at (place_of base offset) m)) m

-- cells into others at an offset
abbrev pub stored_to : Spot → Spot → Spot → ℕ → ℕ → Memory → Memory
stored_to to offset from n base m = moved n (address_of base to (cell_at (place_of base offset) m)) (place_of base from) m

-- one of two ways, by a cell
abbrev pub branch : Bool → (Memory → Ran) → (Memory → Ran) → Memory → Ran
branch true first second m = first m
branch false first second m = second m

-- steps that leave a test in a cell, and while it is not 0 a tick and a turn, of which there are at most so many
abbrev pub go_turns : ℕ → (Memory → Ran) → Spot → ℕ → (Memory → Ran) → Memory → Ran
go_turns zero test c base body m = then_run (test m) (λ m'. branch (is_set (cell_at (place_of base c) m')) (λ m''. Out) Done m')
go_turns (suc more) test c base body m =
    then_run (test m) (λ m1. branch (is_set (cell_at (place_of base c) m1))
    (λ m2. then_run (ticked m2) (λ m3. then_run (body m3) (λ m4. go_turns more test c base body m4))) Done m1)

-- so many turns from an index on, each a tick, the index into its cell, and a turn; the next index wraps at 32 bits
abbrev pub go_counted : ℕ → ℤ → Spot → ℕ → (Memory → Ran) → Memory → Ran
go_counted zero i index base body m = Done m
go_counted (suc more) i index base body m =
    then_run (ticked m) (λ m1. then_run (body (put_cell (place_of base index) i m1)) (go_counted more (int_wrap w32 (i +ℤ pos 1)) index base body))

-- so many turns, none below 1
abbrev pub turns_in : ℤ → ℕ
turns_in (pos n) = n
turns_in (negsuc n) = 0

abbrev mutual
  -- a step
  pub go : Step → ℕ → Memory → Ran
  go (Number to n) base m = Done (number_to to n base m)
  go (Copy to from) base m = Done (copy_to to from base m)
  go (Move to from n) base m = Done (moved n (place_of base to) (place_of base from) m)
  go (ChangeStep c to a) base m = Done (changed_to c to a base m)
  go (Operate o to a b p) base m = operated_to o to a b p base m
  go (Complex o to a b) base m = Done (complex_to o to a b base m)
  go (Locate to from index e) base m = located_to to from index e base m
  go (Load to from offset n) base m = Done (loaded_to to from offset n base m)
  go (Store to offset from n) base m = Done (stored_to to offset from n base m)
  go (Fail code p) base m = trapped code p m
  go (Branch' test _ first _ second) base m = branch (is_set (cell_at (place_of base test) m)) (go_row first base) (go_row second base) m
  go (While' _ test c _ body) base m = go_turns (m.limit - m.used) (go_row test base) c base (go_row body base) m
  go (Count' turns index _ body) base m = go_counted (turns_in (cell_at (place_of base turns) m)) (cell_at (place_of base index) m) index base
      (go_row body base) m
  go (Call' _ (more_of-Code _ steps end_of-Code) at) base m = then_run (ticked m) (go_row steps (from_base base at))

  -- steps one after the other
  pub go_row : {n : _} → Row_of-Step n → ℕ → Memory → Ran
  go_row end_of-Step base m = Done m
  go_row (more_of-Step s row) base m = then_run (go s base m) (go_row row base)

-- the same for a list of steps
abbrev pub go_all : List Step → ℕ → Memory → Ran
go_all [] base m = Done m
go_all (s ∷ steps) base m = then_run (go s base m) (go_all steps base)

-- a choice between two ways
abbrev pub go_fork : Fork → ℕ → Memory → Ran
go_fork f base m = branch (is_set (cell_at (place_of base f.test) m)) (go_all f.first base) (go_all f.second base) m

-- a loop with a test, whose turns are at most as many as ticks are left
abbrev pub go_loop : Turn → ℕ → Memory → Ran
go_loop w base m = go_turns (m.limit - m.used) (go_all w.test base) w.cell base (go_all w.body base) m

-- a loop that counts, by the cells of its number of turns and of its first index
abbrev pub go_counting : Counting → ℕ → Memory → Ran
go_counting k base m =
    go_counted (turns_in (cell_at (place_of base k.turns) m)) (cell_at (place_of base k.index) m) k.index base (go_all k.body base) m
