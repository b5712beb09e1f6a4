-- Where a component stands.
use Rattle.std.specs.Prelude.{ℕ, suc, ◌≡◌, ◌+◌, ◌-◌, ◌≤◌, ◌<◌, List, [], Bool, true, false, Option, Some, None}
use Rattle.zir_bit_tree.specs.declared.value.Val.{Val}
use Rattle.zir_bit_tree.specs.declared.value.Val.TheVariants.{Unit as UnitVal}
use Rattle.zir_bit_tree.specs.declared.value.Slot.{Slot}
use Rattle.zir_bit_meaning.specs.Trace.{State, Point}
use Rattle.zir_machine.specs.declared.progress.Focus.{Focus}
use Rattle.zir_machine.specs.declared.progress.Focus.TheVariants.{Begin, Ended, Giving, Given, Spent}
use Rattle.zir_machine.specs.declared.progress.Progress.{Progress}
use Rattle.zir_machine.specs.declared.progress.Base.{Base}

-- the state of a run with this in scope
abbrev pub state_of : Progress → List Slot → State
state_of p store = record { taken = p.taken; ticks = p.ticks; left = p.left; store = store }

-- a base as a point of a trace
abbrev pub base_point : Base → Point
base_point b = record { taken = b.taken; ticks = b.ticks; store = [] }

-- the value that it ended with, and else the unit value
abbrev pub ended_value : Focus → Val
ended_value Begin = UnitVal
ended_value (Ended v) = v
ended_value (Giving v) = UnitVal
ended_value Given = UnitVal
ended_value Spent = UnitVal

-- the output that waits, if one does
abbrev pub given_value : Focus → Option Val
given_value Begin = None
given_value (Ended v) = None
given_value (Giving v) = Some v
given_value Given = None
given_value Spent = None

-- no output waits
abbrev pub IsReady : Focus → Type 0
IsReady f = given_value f ≡ None

-- a tick, or the end of the budget
abbrev pub Ticks : Bool → Progress → Progress → Type 0
Ticks true p q = (p.left ≡ suc q.left) × (q.ticks ≡ p.ticks + 1) × (q.taken ≡ p.taken) × (q.focus ≡ p.focus)
Ticks false p q = (p.left ≡ 0) × (q.left ≡ p.left) × (q.ticks ≡ p.ticks) × (q.taken ≡ p.taken) × (q.focus ≡ Spent)

-- a tick with an element, or the end of the budget
abbrev pub Takes : Bool → Val → Progress → Progress → Type 0
Takes true x p q = (p.left ≡ suc q.left) × (q.ticks ≡ p.ticks + 1) × (q.taken ≡ p.taken + 1) × (q.focus ≡ Ended x)
Takes false x p q = (p.left ≡ 0) × (q.left ≡ p.left) × (q.ticks ≡ p.ticks) × (q.taken ≡ p.taken) × (q.focus ≡ Spent)

-- a turn of a loop has begun after a tick, or the budget was spent
abbrev pub Turned : Bool → Progress → Progress → Type 0
Turned true p q = p.ticks < q.ticks
Turned false p q = q.focus ≡ Spent

-- it stands at these counts, or is past its limit
abbrev pub Rises : Bool → ℕ → ℕ → Progress → Progress → Type 0
Rises true taken ticks p q = (ticks ≤ p.ticks + p.left) × (q.taken ≡ taken) × (q.ticks ≡ ticks) × (q.left ≡ p.ticks + p.left - ticks) × (q.focus ≡ p.focus)
Rises false taken ticks p q = (p.ticks + p.left < ticks) × (q.taken ≡ p.taken) × (q.ticks ≡ p.ticks) × (q.left ≡ p.left) × (q.focus ≡ Spent)

-- a composition whose sides go on: it is at its beginning, or its output was taken out
abbrev pub is_going : Focus → Bool
is_going Begin = true
is_going (Ended v) = false
is_going (Giving v) = false
is_going Given = true
is_going Spent = false
