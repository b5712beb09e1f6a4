-- The history that a machine stands for.
use Rattle.std.specs.Prelude.{ℕ, ◌+◌, ◌≤◌, ◌≡◌, min, List, [], ◌∷◌, ◌++◌, Option, Some, None}
use Rattle.zir_bit_tree.specs.declared.value.Val.{Val}
use Rattle.zir_bit_tree.specs.declared.value.Slot.{Slot}
use Rattle.zir_tree.specs.declared.ends.Stamp.{Stamp}
use Rattle.zir_bit_tree.specs.declared.ends.End.TheVariants.{Value}
use Rattle.zir_bit_tree.specs.declared.tree.Comp.{Comp}
use Rattle.zir_bit_meaning.specs.Trace.{State, Point, point, Out, spent, after}
use Rattle.zir_bit_meaning.specs.Composition.{fresh}
use Rattle.zir_bit_laws.specs.Process.{Proc, Ends, Needs, proc}
use Rattle.zir_bit_laws.specs.Feed.{feed}
use Rattle.zir_chunk.specs.Contents.{AtMost}
use Rattle.zir_steps.specs.declared.answer.Answer.{Answer}
use Rattle.zir_steps.specs.declared.answer.Answer.TheVariants.{Yield, Skip, Done, Need, Stopped}
use Rattle.zir_steps.specs.History.{History, begun, RisesFrom, Rises}
use Rattle.zir_machine.specs.declared.node.Node.{Node}
use Rattle.zir_machine.specs.declared.machine.Element.{Element}
use Rattle.zir_machine.specs.declared.progress.Progress.{Progress}
use Rattle.zir_machine.specs.declared.progress.Focus.TheVariants.{Giving, Ended}
use Rattle.zir_machine.specs.Standing.{state_of}
use Rattle.zir_machine.specs.Nodes.{comp_of, proc_in}

-- the parts of a machine that count
pub record Standing : Type 0 where
  pub node : Node
  pub progress : Progress
  pub store : List Slot
  pub base : Stamp
  pub next : Option Element
  pub pushed : Stamp
  pub limit : ℕ
  pub last : Option Answer

-- where an element stands in its producer's run
abbrev pub point_of : Stamp → Point
point_of s = record { taken = s.taken; ticks = s.ticks; store = [] }

-- an element as it is received
abbrev pub out_of : Element → Out
out_of e = record { value = e.value; at = point_of e.stamp }

-- the element that was handed in and is not taken yet, if one was
abbrev pub waiting : Option Element → List Out
waiting None = []
waiting (Some e) = out_of e ∷ []

-- the value that is offered
abbrev pub offer_of : Option Element → Option Val
offer_of None = None
offer_of (Some e) = Some e.value

-- the element is away where it was taken from the offer
abbrev pub next_after : Option Element → Option Val → Option Element
next_after next None = None
next_after next (Some x) = next

-- the stamp of the element taken last
abbrev pub base_after : Option Element → Option Val → Stamp → Stamp
base_after None None base = base
base_after (Some e) None base = e.stamp
base_after next (Some x) base = base

-- where the component stands
abbrev pub state_in : Standing → State
state_in m = state_of m.progress m.store

-- what the component still does
abbrev pub still : Standing → Proc
still m = proc_in m.node m.progress.focus (state_in m)

-- the ticks of the element taken last and those of the component together
abbrev pub here_of : Standing → Stamp
here_of m = record { taken = m.base.taken; ticks = m.base.ticks + m.progress.ticks }

-- the component's own ticks
abbrev pub own_of : Standing → ℕ
own_of m = min m.progress.ticks m.limit

-- the component has ended within the limit
pub record StoodDone (m : Standing) : Type 0 where
  pub value : Val
  pub focus : m.progress.focus ≡ Ended value
  pub ends : still m ≡ Ends (Value value) (state_in m)
  pub inside : m.base.ticks + m.progress.ticks ≤ m.limit

-- the component needs an element, within the limit, and none waits
pub record StoodNeed (m : Standing) : Type 0 where
  pub none : m.next ≡ None
  pub follows : Val → Proc
  pub needs : still m ≡ Needs (state_in m) follows
  pub inside : m.base.ticks + m.progress.ticks ≤ m.limit

-- an output waits within the limit
pub record StoodYield (m : Standing) : Type 0 where
  pub value : Val
  pub focus : m.progress.focus ≡ Giving value
  pub inside : m.base.ticks + m.progress.ticks ≤ m.limit

-- what the last answer says of the component
abbrev pub Stood : Option Answer → Standing → History → Type 0
Stood None m h = Unit {0}
Stood (Some Yield) m h = StoodYield m
Stood (Some Skip) m h = Unit {0}
Stood (Some Done) m h = StoodDone m
Stood (Some Need) m h = StoodNeed m
Stood (Some Stopped) m h = Rises h → feed (begun h) (still m) (point_of m.base) (waiting m.next) ≡ spent

-- whatever else is received, the trace is what was given and then what the component still does
pub record Stands (m : Standing) (h : History) : Type 0 where
  pub component : h.component ≡ comp_of m.node
  pub store : h.store ≡ []
  pub limit : h.limit ≡ m.limit
  pub goes : (more : List Out) → feed (begun h) (proc h.component (fresh (begun h))) (point (begun h)) (h.received ++ more) ≡ after h.given (feed (begun h) (still m) (point_of m.base) (waiting m.next ++ more))
  pub rises : (more : List Out) → RisesFrom h.start 0 (h.received ++ more) → RisesFrom m.base.taken m.base.ticks (waiting m.next ++ more)
  pub pushed : Rises h → AtMost m.pushed (here_of m)
  pub stood : Stood m.last m h

-- nothing was done yet
abbrev pub beginning : Comp → ℕ → ℕ → History
beginning c start limit = record { component = c; store = []; start = start; limit = limit; received = []; given = [] }
