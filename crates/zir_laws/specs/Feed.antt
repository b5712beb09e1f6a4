-- A process over elements that come with the points at which they were given.
use Rattle.std.specs.Prelude.{ℕ, List, [], ◌∷◌, ◌≡◌, nat_le}
use Rattle.zir_tree.specs.declared.value.Val.{Val}
use Rattle.zir_tree.specs.declared.ends.End.TheVariants.{Starved}
use Rattle.zir_tree.specs.declared.comp.Comp.{Comp}
use Rattle.zir_tree.specs.declared.program.Core.{Core}
use Rattle.zir_meaning.specs.Store.{Store}
use Rattle.zir_meaning.specs.Trace.{State, Point, point, Out, Trace, ends, gives}
use Rattle.zir_meaning.specs.Composition.{limit, over, at_point, within, fresh}
use Rattle.zir_meaning.specs.Instances.{means}
use Rattle.zir_meaning.specs.Received.{worked, from_input}
use Rattle.zir_laws.specs.Process.{Proc, Gives, Ends, Needs}
use Rattle.zir_laws.specs.Acts.{acts}

-- what a process gives over these elements, the last one before them having come at base, and how it then ends
abbrev pub feed : State → Proc → Point → List Out → Trace
feed s (Gives o p) base os =
    let q = over [] base o.at in within (nat_le q.ticks (limit s)) (gives (record { value = o.value; at = q }) (feed s p base os))
feed s (Ends e s2) base os = let q = over [] base (point s2) in within (nat_le q.ticks (limit s)) (ends e (at_point s q) [])
feed s (Needs s2 f) base [] = let q = over [] base (point s2) in within (nat_le q.ticks (limit s)) (ends Starved (at_point s q) [])
feed s (Needs s2 f) base (o ∷ os) = feed s (f o.value) o.at os

-- the trace over elements with their points is what the process gives over them
abbrev pub Feeds : Type 0
Feeds = (core : Core) (c : Comp) (s : State) (os : List Out) → worked core c s os ≡ feed s (acts core c (fresh s)) (point s) os

-- over the elements of an input that is the trace itself
abbrev pub FromInput : Type 0
FromInput = (core : Core) (c : Comp) (n : ℕ) (store : Store) (xs : List Val) →
    let s : State = record { taken = 0; ticks = 0; left = n; store = store } in
    worked core c s (from_input store 0 xs) ≡ record (means core c s xs) { rest = [] }
