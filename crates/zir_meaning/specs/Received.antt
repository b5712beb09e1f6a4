-- The trace of a component over elements that come with the points at which they were given.
use Rattle.std.specs.Prelude.{ℕ, ◌+◌, List, [], ◌∷◌, length}
use Rattle.zir_tree.specs.declared.value.Val.{Val}
use Rattle.zir_tree.specs.declared.ends.End.TheVariants.{Starved}
use Rattle.zir_tree.specs.declared.comp.Comp.{Comp}
use Rattle.zir_tree.specs.declared.program.Core.{Core}
use Rattle.zir_meaning.specs.Store.{Store}
use Rattle.zir_meaning.specs.Trace.{State, point, Out, Trace}
use Rattle.zir_meaning.specs.Composition.{point_at, at_point, fresh, compose, values}
use Rattle.zir_meaning.specs.Instances.{means}

-- elements as a left side that gives them and then starves
abbrev pub received : State → List Out → Trace
received s os = record { outs = os; end = Starved; last = at_point s (point_at (point s) os (length os)); rest = [] }

-- the composition of these elements with a component that begins at s
abbrev pub worked : Core → Comp → State → List Out → Trace
worked core c s os = compose [] s [] (received s os) (means core c (fresh s) (values os))

-- the elements of an input as a left side: the k-th one comes at k elements taken, and costs nothing
abbrev pub from_input : Store → ℕ → List Val → List Out
from_input store k [] = []
from_input store k (x ∷ xs) = record { value = x; at = record { taken = k + 1; ticks = 0; store = store } } ∷ from_input store (k + 1) xs
