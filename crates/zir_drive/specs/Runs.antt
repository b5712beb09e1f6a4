-- What a run of a worker has come to, in the terms of its component's trace.
use Rattle.std.specs.Prelude.{ℕ, ◌^◌, ◌≤◌, ◌≡◌, ⊤, true, List, [], length}
use Rattle.zir_bit_tree.specs.declared.value.Val.{Val}
use Rattle.zir_bit_tree.specs.declared.ends.End.{End}
use Rattle.zir_bit_tree.specs.declared.ends.End.TheVariants.{Value, Starved, Trap as Trapped, Spent}
use Rattle.zir_bit_tree.specs.declared.tree.Comp.{Comp}
use Rattle.zir_bit_meaning.specs.Trace.{Out, Trace}
use Rattle.zir_bit_meaning.specs.Composition.{values}
use Rattle.zir_bit_meaning.specs.Component.{tr}
use Rattle.zir_bit_meaning.specs.Received.{from_input}
use Rattle.zir_bit_meaning.specs.Run.{start}
use Rattle.zir_bit_meaning.specs.Samples.{spell, elements, element_values}
use Rattle.zir_outside.specs.Sinks.{Grew, GrewPart}
use Rattle.zir_steps.specs.History.{History, trace_of as trace_over}
use Rattle.zir_drive.specs.declared.Ended.{Ended}
use Rattle.zir_drive.specs.declared.Ended.TheVariants as ended
use Rattle.zir_drive.specs.declared.Outcome.{Outcome}

-- the trace of a component over the bits of these bytes, with so many ticks
abbrev pub trace_of : Comp → ℕ → List ℕ → Trace
trace_of c n bytes = tr c (start n) (element_values (elements bytes true).found)

-- a component with so many ticks that received these elements of an input, and gave these outputs
abbrev pub history : Comp → ℕ → List Val → List Out → History
history c n xs os = record { component = c; store = []; start = 0; limit = n; received = from_input [] 0 xs; given = os }

-- it stands at the beginning of this component, with some ticks, of which there are at most 2 ^ 48
abbrev pub Begins : (History → Type 0) → Comp → Type 0
Begins stands c = (n : ℕ) × (n ≤ 2 ^ 48) × stands (history c n [] [])

-- the answer tells the end of a trace
abbrev pub TellsEnd : Ended → End → Type 0
TellsEnd ended.Value e = (v : Val) × (e ≡ Value v)
TellsEnd ended.Starved e = e ≡ Starved
TellsEnd (ended.Trap t) e = e ≡ Trapped t
TellsEnd ended.Spent e = e ≡ Spent

-- so many elements were taken where the trace ended; a spent trace has no place
abbrev pub TellsTaken : Ended → ℕ → ℕ → Type 0
TellsTaken ended.Value taken k = taken ≡ k
TellsTaken ended.Starved taken k = taken ≡ k
TellsTaken (ended.Trap t) taken k = taken ≡ k
TellsTaken ended.Spent taken k = ⊤

-- the output grew by what the outputs of a trace spell, and the outcome tells how the trace ends
pub record Ran (outcome : Outcome) (t : Trace) (old new : List ℕ → Type 0) : Type 0 where
  pub end : TellsEnd outcome.end t.end
  pub taken : TellsTaken outcome.end outcome.taken t.last.taken
  pub written : outcome.written ≡ length t.outs
  pub out : Grew old new (spell true (values t.outs))

-- the output grew by a front part of what the outputs of a trace spell
abbrev pub RanPart : Trace → (List ℕ → Type 0) → (List ℕ → Type 0) → Type 0
RanPart t old new = GrewPart (spell true (values t.outs)) old new

-- a value with which each trace that it stands for ends is that of this trace
abbrev pub OwnValue : (History → Type 0) → Trace → Type 0
OwnValue stands t = (v : Val) → ((h : History) → stands h → (trace_over h).end ≡ Value v) → t.end ≡ Value v
