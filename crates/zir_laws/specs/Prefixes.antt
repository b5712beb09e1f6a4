-- The law of prefixes: what more elements make of a trace.
use Rattle.std.specs.Prelude.{ℕ, ◌+◌, ◌≤◌, List, [], ◌∷◌, ◌++◌, ◌≡◌, length}
use Rattle.zir_tree.specs.declared.value.Val.{Val}
use Rattle.zir_tree.specs.declared.ends.End.{End}
use Rattle.zir_tree.specs.declared.ends.End.TheVariants.{Value, Starved, Trap as Trapped, Spent}
use Rattle.zir_tree.specs.declared.comp.Comp.{Comp}
use Rattle.zir_tree.specs.declared.program.Core.{Core}
use Rattle.zir_meaning.specs.Trace.{State, Out, Trace}
use Rattle.zir_meaning.specs.Instances.{means}

-- none of these outputs stands at fewer ticks
abbrev pub OutsFrom : ℕ → List Out → Type 0
OutsFrom n [] = Unit {0}
OutsFrom n (o ∷ os) = (n ≤ o.at.ticks) × OutsFrom n os

-- the end stands at no fewer ticks, if it is not a spent one
abbrev pub EndFrom : ℕ → End → State → Type 0
EndFrom n (Value v) s = n ≤ s.ticks
EndFrom n Starved s = n ≤ s.ticks
EndFrom n (Trapped t) s = n ≤ s.ticks
EndFrom n Spent s = Unit {0}

-- all elements were taken, so many in all, and what comes with more elements comes at no earlier place
pub record Continues (taken : ℕ) (t t' : Trace) : Type 0 where
  pub all : t.last.taken ≡ taken
  pub more : List Out
  pub outs : t'.outs ≡ t.outs ++ more
  pub later : OutsFrom t.last.ticks more
  pub end_later : EndFrom t.last.ticks t'.end t'.last

-- a trace that ends so, and the trace when these elements follow
abbrev pub Extends : End → ℕ → List Val → Trace → Trace → Type 0
Extends (Value v) taken ys t t' = t' ≡ record t { rest = t.rest ++ ys }
Extends Starved taken ys t t' = Continues taken t t'
Extends (Trapped c) taken ys t t' = t' ≡ record t { rest = t.rest ++ ys }
Extends Spent taken ys t t' = t' ≡ t

-- a trace that does not starve is the same when more elements follow, and one that starves goes on
abbrev pub Prefixes : Type 0
Prefixes = (core : Core) (c : Comp) (s : State) (xs ys : List Val) →
    Extends (means core c s xs).end (s.taken + length xs) ys (means core c s xs) (means core c s (xs ++ ys))
