-- Stages that arrive and go on, and what is watched of them since an earlier memory.
use Rattle.std.proofs.Common.{ℕ, List}
use Rattle.zir_tree.specs.declared.value.Val.{Val}
use Rattle.zir_tree.specs.declared.ends.End.{End}
use Rattle.zir_tree.specs.declared.ends.End.TheVariants.{Value, Starved, Trap as Trapped, Spent}
use Rattle.zir_tree.specs.declared.types.Ty.{Ty}
use Rattle.zir_meaning.specs.Store.{Store}
use Rattle.zir_meaning.specs.Trace.{State}
use Rattle.zir_cells.specs.Cells.{cells_of}
use Rattle.zir_laws.specs.Process.{Proc, Gives, Ends, Needs}
use Rattle.zir_expr.specs.Memory.Frames.{Memory}
use Rattle.zir_code.specs.Scopes.{Scope}
use Rattle.zir_code.specs.Holding.{Spares}
use Rattle.zir_flow.specs.declared.instruction.Instruction.{Instruction}
use Rattle.zir_flow.specs.Stages.{Stage, seen, handed}
use Rattle.zir_flow.specs.Playing.{Watch}
use Rattle.zir_flow.proofs.Reaching.{Reaches, reaches_on}
use Rattle.zir_flow.proofs.Playing.{Arriving, Arrives, ArrivesEnd}
use Rattle.zir_flow.proofs.Standing.{Ground, HoldsKept, watched}
use Rattle.zir_flow.proofs.Straight.{spares_then}

-- a stage goes on to one where this holds
abbrev pub GoesOn : Arriving → List Instruction → Val → State → Stage → Type 0
GoesOn B code v s st = (st' : Stage) × Reaches code st st' × B v s st'

end_further : (A B : Arriving) (code : List Instruction) (e : End) (s : State) (st : Stage) →
    ((v : Val) (s' : State) (st' : Stage) → A v s' st' → GoesOn B code v s' st') → ArrivesEnd A code e s st → ArrivesEnd B code e s st
end_further A B code (Value v) s st f h = let k = f v s h.0 h.2 in (k.0, reaches_on code st h.0 k.0 h.1 k.1, k.2)
end_further A B code Starved s st f h = absurd h
end_further A B code (Trapped t) s st f h = h
end_further A B code Spent s st f h = h

-- a stage goes on from where it arrives, and what is watched may say less
pub arrives_further : (A B : Arriving) (w w' : Watch) (code : List Instruction) (p : Proc) (st : Stage) →
    ((v : Val) (s' : State) (st' : Stage) → A v s' st' → GoesOn B code v s' st') → ((st' : Stage) (store : Store) → w.holds st' store → w'.holds st' store) →
    ((x : Val) → w'.element x → w.element x) → ((x : Val) → w.output x → w'.output x) → Arrives A w code p st → Arrives B w' code p st
arrives_further A B w w' code (Gives o p) st f g e u h =
    let at = h.1 in (
      h.0,
      record { taken = at.taken; ticks = at.ticks; comes = at.comes; at = at.at; holds = g h.0 o.at.store at.holds; output = u o.value at.output },
      arrives_further A B w w' code p h.0 f g e u h.2,
    )
arrives_further A B w w' code (Ends x s) st f g e u h = end_further A B code x s st f h
arrives_further A B w w' code (Needs s k) st f g e u h =
    let at = h.1 in (
      h.0,
      record { taken = at.taken; ticks = at.ticks; comes = at.comes; at = at.at; holds = g h.0 s.store at.holds },
      λ x fits. arrives_further A B w w' code (k x) (handed code (cells_of x) h.0) f g e u (h.2 x (e x fits)),
    )

-- what is seen since an earlier memory
pub kept_since : (a : Ground) (g : Scope) (d : ℕ) (m m1 : Memory) (st : Stage) (store : Store) → Spares a.top a.base d g m m1 →
    HoldsKept a g d m1 st store → HoldsKept a g d m st store
kept_since a g d m m1 st store p h = record { held = h.held; spared = spares_then a.top a.base d g m m1 (seen st) p h.spared }

-- a component that is watched since an earlier memory
pub watched_since : (a : Ground) (g : Scope) (d : ℕ) (input out : Ty) (m m1 : Memory) (A B : Arriving) (p : Proc) (st : Stage) →
    Spares a.top a.base d g m m1 → ((v : Val) (s' : State) (st' : Stage) → A v s' st' → GoesOn B a.code v s' st') →
    Arrives A (watched a g d input out m1) a.code p st → Arrives B (watched a g d input out m) a.code p st
watched_since a g d input out m m1 A B p st q f h =
    arrives_further A B (watched a g d input out m1) (watched a g d input out m) a.code p st f (λ st' store z. kept_since a g d m m1 st' store q z)
    (λ x z. z) (λ x z. z) h
