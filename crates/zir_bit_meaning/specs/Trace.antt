-- Traces: the outputs of a component with the points at which they came, and then one end with its point.
use Rattle.std.specs.Prelude.{ℕ, zero, suc, ◌+◌, List, [], ◌∷◌, ◌++◌}
use Rattle.zir_bit_tree.specs.declared.value.Val.{Val}
use Rattle.zir_bit_tree.specs.declared.ends.End.{End}
use Rattle.zir_bit_tree.specs.declared.ends.End.TheVariants.{Value, Starved, Trap as Trapped, Spent}
use Rattle.zir_bit_meaning.specs.Store.{Store}

-- how far a run has come: the elements taken, the ticks used, the ticks left, and what is in scope
pub record State : Type 0 where
  pub taken : ℕ
  pub ticks : ℕ
  pub left : ℕ
  pub store : Store

-- a place of a trace
pub record Point : Type 0 where
  pub taken : ℕ
  pub ticks : ℕ
  pub store : Store

-- where a run stands
abbrev pub point : State → Point
point s = record { taken = s.taken; ticks = s.ticks; store = s.store }

-- an output, with the point at which it came
pub record Out : Type 0 where
  pub value : Val
  pub at : Point

-- the outputs, the end, where it stands, and the elements that are not taken
pub record Trace : Type 0 where
  pub outs : List Out
  pub end : End
  pub last : State
  pub rest : List Val

-- nothing rests on where a budget was spent, so every spent trace ends at this one state
abbrev pub nowhere : State
nowhere = record { taken = 0; ticks = 0; left = 0; store = [] }

-- no output, and no budget for more
abbrev pub spent : Trace
spent = record { outs = []; end = Spent; last = nowhere; rest = [] }

-- no output, and this end
abbrev pub ends : End → State → List Val → Trace
ends (Value v) s xs = record { outs = []; end = Value v; last = s; rest = xs }
ends Starved s xs = record { outs = []; end = Starved; last = s; rest = xs }
ends (Trapped t) s xs = record { outs = []; end = Trapped t; last = s; rest = xs }
ends Spent s xs = spent

-- one output, and then a trace
abbrev pub gives : Out → Trace → Trace
gives o t = record t { outs = o ∷ t.outs }

-- some outputs, and then a trace
abbrev pub after : List Out → Trace → Trace
after os t = record t { outs = os ++ t.outs }

-- what follows a control value
abbrev pub Next : Type 0
Next = Val → State → List Val → Trace

-- some outputs and an end, and where that is a value what follows it
abbrev pub then_end : End → List Out → State → List Val → Next → Trace
then_end (Value v) os s xs next = after os (next v s xs)
then_end Starved os s xs next = record { outs = os; end = Starved; last = s; rest = xs }
then_end (Trapped t) os s xs next = record { outs = os; end = Trapped t; last = s; rest = xs }
then_end Spent os s xs next = record { outs = os; end = Spent; last = s; rest = xs }

-- a trace, and where it ends with a value what follows from there
abbrev pub then_do : Trace → Next → Trace
then_do t next = then_end t.end t.outs t.last t.rest next

-- one of these ticks, and then what follows, and spent where there is none
abbrev pub tick_of : ℕ → State → List Val → (State → List Val → Trace) → Trace
tick_of zero s xs next = spent
tick_of (suc left) s xs next = next (record s { ticks = s.ticks + 1; left = left }) xs

-- one tick, and then what follows
abbrev pub tick : State → List Val → (State → List Val → Trace) → Trace
tick s xs next = tick_of s.left s xs next
