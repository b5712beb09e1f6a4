-- What a worker stands for: a component, what it received, and what it gave.
use Rattle.std.specs.Prelude.{ℕ, List, [], ◌∷◌, ◌++◌, ◌≤◌, ◌≡◌}
use Rattle.zir_bit_tree.specs.declared.tree.Comp.{Comp}
use Rattle.zir_tree.specs.declared.ends.Stamp.{Stamp}
use Rattle.zir_bit_meaning.specs.Store.{Store}
use Rattle.zir_bit_meaning.specs.Trace.{State, Out, Trace}
use Rattle.zir_bit_meaning.specs.Received.{worked}

-- a component with what was in scope where it began, the elements taken before it began, its ticks, the elements that it received, and the outputs that it gave
pub record History : Type 0 where
  pub component : Comp
  pub store : Store
  pub start : ℕ
  pub limit : ℕ
  pub received : List Out
  pub given : List Out

-- where the component began
abbrev pub begun : History → State
begun h = record { taken = h.start; ticks = 0; left = h.limit; store = h.store }

-- the trace of the component over what was received
abbrev pub trace_of : History → Trace
trace_of h = worked h.component (begun h) h.received

-- one more element was received
abbrev pub receive : History → Out → History
receive h o = record h { received = h.received ++ o ∷ [] }

-- one more output was given
abbrev pub give : History → Out → History
give h o = record h { given = h.given ++ o ∷ [] }

-- the points of these elements rise from this many elements taken and ticks
abbrev pub RisesFrom : ℕ → ℕ → List Out → Type 0
RisesFrom taken ticks [] = Unit {0}
RisesFrom taken ticks (o ∷ os) = (taken ≤ o.at.taken) × (ticks ≤ o.at.ticks) × RisesFrom o.at.taken o.at.ticks os

-- the points of what was received rise from the start
abbrev pub Rises : History → Type 0
Rises h = RisesFrom h.start 0 h.received

-- what was given is a front part of the trace's outputs
abbrev pub IsFront : History → Type 0
IsFront h = (more : List Out) × ((trace_of h).outs ≡ h.given ++ more)

-- the stamp of an output: the elements taken and the ticks of its point
abbrev pub stamp_of : Out → Stamp
stamp_of o = record { taken = o.at.taken; ticks = o.at.ticks }
