-- The law of budgets: what more ticks make of a trace.
use Rattle.std.specs.Prelude.{ℕ, ◌+◌, List, ◌++◌, ◌≡◌}
use Rattle.zir_tree.specs.declared.value.Val.{Val}
use Rattle.zir_tree.specs.declared.ends.End.{End}
use Rattle.zir_tree.specs.declared.ends.End.TheVariants.{Value, Starved, Trap as Trapped, Spent}
use Rattle.zir_tree.specs.declared.comp.Comp.{Comp}
use Rattle.zir_tree.specs.declared.program.Core.{Core}
use Rattle.zir_meaning.specs.Trace.{State, Out, Trace}
use Rattle.zir_meaning.specs.Composition.{limit}
use Rattle.zir_meaning.specs.Instances.{means}
use Rattle.zir_laws.specs.Prefixes.{OutsFrom, EndFrom}

-- a state with so many more ticks left
abbrev pub richer : ℕ → State → State
richer m s = record s { left = s.left + m }

-- a spent trace goes on, past its limit
pub record GoesOn (limit : ℕ) (t t' : Trace) : Type 0 where
  pub more : List Out
  pub outs : t'.outs ≡ t.outs ++ more
  pub later : OutsFrom (limit + 1) more
  pub end_later : EndFrom (limit + 1) t'.end t'.last

-- a trace that ends so within its limit, and the trace with so many more ticks
abbrev pub Funds : End → ℕ → ℕ → Trace → Trace → Type 0
Funds (Value v) limit m t t' = t' ≡ record t { last = richer m t.last }
Funds Starved limit m t t' = t' ≡ record t { last = richer m t.last }
Funds (Trapped c) limit m t t' = t' ≡ record t { last = richer m t.last }
Funds Spent limit m t t' = GoesOn limit t t'

-- a trace that is not spent is the same with more ticks, and a spent one goes on past its limit
abbrev pub Budgets : Type 0
Budgets = (core : Core) (c : Comp) (m : ℕ) (s : State) (xs : List Val) →
    Funds (means core c s xs).end (limit s) m (means core c s xs) (means core c (richer m s) xs)
