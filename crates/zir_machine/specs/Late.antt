-- Processes whose points all have some ticks.
use Rattle.std.specs.Prelude.{ℕ, ◌≤◌, Bool, true, false}
use Rattle.zir_bit_tree.specs.declared.value.Val.{Val}
use Rattle.zir_bit_tree.specs.declared.ends.End.TheVariants.{Value, Starved, Trap as Trapped, Spent}
use Rattle.zir_bit_laws.specs.Process.{Proc, Gives, Ends, Needs}

-- each point has no fewer than t ticks, apart from a spent end
abbrev pub Late : ℕ → Proc → Type 0
Late t (Gives o p) = (t ≤ o.at.ticks) × Late t p
Late t (Ends (Value v) s) = t ≤ s.ticks
Late t (Ends Starved s) = t ≤ s.ticks
Late t (Ends (Trapped c) s) = t ≤ s.ticks
Late t (Ends Spent s) = Unit {0}
Late t (Needs s f) = (t ≤ s.ticks) × ((x : Val) → Late t (f x))

-- it needs an element before anything else
abbrev pub needs : Proc → Bool
needs (Gives o p) = false
needs (Ends e s) = false
needs (Needs s f) = true
