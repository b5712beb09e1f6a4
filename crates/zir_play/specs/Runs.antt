-- What a run of a stage has come to, in the terms of its process.
use Rattle.std.specs.Prelude.{ℕ, ◌+◌, ◌-◌, ◌%◌, ◌^◌, ◌≤◌, ◌≡◌, ◌⊎◌, ℤ, List, ◌++◌, Option, Some, length, flat_map, Result, Ok, Err, false, true}
use Rattle.zir_tree.specs.declared.value.Val.{Val}
use Rattle.zir_tree.specs.declared.format.Format.{Format}
use Rattle.zir_tree.specs.declared.types.Base.{Base}
use Rattle.zir_tree.specs.declared.ends.End.{End}
use Rattle.zir_tree.specs.declared.ends.End.TheVariants.{Value, Starved, Trap as Trapped, Spent}
use Rattle.zir_meaning.specs.Trace.{Out, Trace, after}
use Rattle.zir_meaning.specs.Composition.{values}
use Rattle.zir_meaning.specs.Elements.{Tail, spell_numbers}
use Rattle.zir_meaning.specs.Run.{RunEnd, ByValue, ByInput, ByTrap, ByBudget, ByMalformed, run_end}
use Rattle.zir_cells.specs.Cells.{cells_of}
use Rattle.zir_laws.specs.Process.{Proc, run}
use Rattle.zir_expr.specs.Memory.Frames.{Memory}
use Rattle.zir_flow.specs.declared.instruction.Instruction.{Instruction}
use Rattle.zir_flow.specs.Stages.{Stage, Going, turned_on}
use Rattle.zir_outside.specs.Sinks.{Grew, GrewPart}
use Rattle.zir_samples.specs.Writing.{Kept, Wrote, PutsPart}
use Rattle.zir_play.specs.declared.player.Finish as finish
use Rattle.zir_play.specs.declared.player.Finish.TheVariants as finishes
use Rattle.zir_play.specs.declared.player.Outcome.{Outcome}
use Rattle.zir_play.specs.declared.player.PlayError.{PlayError}
use Rattle.zir_play.specs.declared.player.PlayError.TheVariants.{Read, Write, Exhausted}
use Rattle.zir_reader.specs.Inputs.{Input, input_of}
use Rattle.zir_play.specs.Performing.{Interface, Performs, Stands}

-- the numbers of outputs, in order
abbrev pub numbers_of : List Out → List ℤ
numbers_of os = flat_map cells_of (values os)

-- the answer tells how a run ended
abbrev pub TellsEnd : finish.Finish → RunEnd → Type 0
TellsEnd finishes.Value e = (v : Val) × (e ≡ ByValue v)
TellsEnd finishes.Input e = e ≡ ByInput
TellsEnd (finishes.Malformed at) e = e ≡ ByMalformed at
TellsEnd (finishes.Trap t) e = e ≡ ByTrap t
TellsEnd finishes.Spent e = e ≡ ByBudget

-- some of these elements are left, and those before them were taken
pub record Remains (all received : List Val) (tail : Tail) (left : Option Input) : Type 0 where
  pub rest : List Val
  pub split : all ≡ received ++ rest
  pub left_is : left ≡ Some (input_of rest tail)

-- what is left of all elements where a trace ends so: those that it did not take; a spent one has taken some
abbrev pub Leaves : End → List Val → List Val → Tail → Option Input → Type 0
Leaves (Value v) all rest tail left = left ≡ Some (input_of rest tail)
Leaves Starved all rest tail left = left ≡ Some (input_of rest tail)
Leaves (Trapped t) all rest tail left = left ≡ Some (input_of rest tail)
Leaves Spent all rest tail left = (received : List Val) × Remains all received tail left

-- where a trace ends with a value, that stands in a memory
abbrev pub ValueStands : Interface → End → Memory → Type 0
ValueStands i (Value v) m = Stands i v m
ValueStands i Starved m = Unit {0}
ValueStands i (Trapped t) m = Unit {0}
ValueStands i Spent m = Unit {0}

-- the outcome tells how a trace ended, what it took and how many outputs it has; 64 bits count the elements taken
pub record Tells (o : Outcome) (tail : Tail) (t : Trace) : Type 0 where
  pub end : TellsEnd o.end (run_end tail t.end)
  pub taken : t.last.taken % 2 ^ 64 ≡ o.taken
  pub ticks : t.last.ticks ≡ o.ticks
  pub written : length t.outs ≡ o.written

-- a run came to the end of its trace over these elements: what it tells, what was written, what is left, and where the value stands
pub record Played {K : Type 0} (stands_for : K → List ℕ → Type 0) (before now : K) (old new : Kept) (i : Interface) (t : Trace) (xs : List Val) (tail : Tail) (left : Option Input) (m : Memory) (o : Outcome) : Type 0 where
  pub tells : Tells o tail t
  pub wrote : Wrote stands_for before now old new (numbers_of t.outs)
  pub rest : Leaves t.end xs t.rest tail left
  pub value : ValueStands i t.end m

-- these are the first outputs of a trace
pub record IsFront (os : List Out) (t : Trace) : Type 0 where
  pub more : List Out
  pub outs : t.outs ≡ os ++ more

-- after these elements and these outputs a process goes on as another one
pub record GoesOn (p q : Proc) (received : List Val) (os : List Out) : Type 0 where
  pub runs : (ws : List Val) → run p (received ++ ws) ≡ after os (run q ws)

-- a stage took and gave these, and then either it has come to 2^64 - 1 events, or in 2^64 - 1 turns it comes to no other
pub record IsLong (i : Interface) (code : List Instruction) (p : Proc) (received : List Val) (os : List Out) : Type 0 where
  pub next : Proc
  pub goes_on : GoesOn p next received os
  pub stage : Stage
  pub performs : Performs i code next stage
  pub long : (2 ^ 64 - 1 ≤ length received + length os) ⊎ ((s : Stage) × (turned_on (2 ^ 64 - 1) code stage ≡ Going s))

-- an element was needed behind these, and a read failed: what was written is what the process gives over them
pub record Interrupted {K : Type 0} (stands_for : K → List ℕ → Type 0) (before now : K) (old new : Kept) (p : Proc) (xs : List Val) (tail : Tail) (left : Option Input) : Type 0 where
  pub received : List Val
  pub remains : Remains xs received tail left
  pub starves : (run p received).end ≡ Starved
  pub wrote : Wrote stands_for before now old new (numbers_of (run p received).outs)
  pub front : IsFront (run p received).outs (run p xs)

-- a put failed: the sink grew by a front part of what the first outputs are written as
pub record BrokeOff {K : Type 0} (stands_for : K → List ℕ → Type 0) (before now : K) (old : Kept) (t : Trace) : Type 0 where
  pub outs : List Out
  pub front : IsFront outs t
  pub some : List ℤ
  pub more : List ℤ
  pub numbers : numbers_of outs ≡ some ++ more
  pub part : PutsPart stands_for before now old some false

-- the turns were used up: the first outputs were written
pub record UsedUp {K : Type 0} (stands_for : K → List ℕ → Type 0) (before now : K) (old new : Kept) (i : Interface) (code : List Instruction) (p : Proc) (xs : List Val) : Type 0 where
  pub received : List Val
  pub rest : List Val
  pub split : xs ≡ received ++ rest
  pub outs : List Out
  pub front : IsFront outs (run p xs)
  pub wrote : Wrote stands_for before now old new (numbers_of outs)
  pub long : IsLong i code p received outs

-- what a run that broke off has come to
abbrev pub Broke : {K : Type 0} → (K → List ℕ → Type 0) → K → K → Kept → Kept → Interface → List Instruction → Proc → List Val → Tail → Option Input → PlayError → Type 0
Broke stands_for before now old new i code p xs tail left Read = Interrupted stands_for before now old new p xs tail left
Broke stands_for before now old new i code p xs tail left Write = BrokeOff stands_for before now old (run p xs)
Broke stands_for before now old new i code p xs tail left Exhausted = UsedUp stands_for before now old new i code p xs

-- what a run over these elements has come to
abbrev pub Comes : {K : Type 0} → (K → List ℕ → Type 0) → K → K → Kept → Kept → Interface → List Instruction → Proc → List Val → Tail → Option Input → Memory → Result Outcome PlayError → Type 0
Comes stands_for before now old new i code p xs tail left m (Ok o) = Played stands_for before now old new i (run p xs) xs tail left m o
Comes stands_for before now old new i code p xs tail left m (Err why) = Broke stands_for before now old new i code p xs tail left why

-- an output that is closed: it is exactly what the outputs of the trace are written as
pub record Ran (format : Format) (base : Base) (old new : List ℕ → Type 0) (i : Interface) (t : Trace) (xs : List Val) (tail : Tail) (left : Option Input) (m : Memory) (o : Outcome) : Type 0 where
  pub tells : Tells o tail t
  pub out : Grew old new (spell_numbers format base true (numbers_of t.outs))
  pub rest : Leaves t.end xs t.rest tail left
  pub value : ValueStands i t.end m

-- where a read failed the output is, up to its whole bytes, what the process gives over the elements before
pub record Stopped (format : Format) (base : Base) (old new : List ℕ → Type 0) (p : Proc) (xs : List Val) (tail : Tail) (left : Option Input) : Type 0 where
  pub received : List Val
  pub remains : Remains xs received tail left
  pub starves : (run p received).end ≡ Starved
  pub out : Grew old new (spell_numbers format base false (numbers_of (run p received).outs))

-- what is known beyond a front part of the output
abbrev pub Cause : Format → Base → (List ℕ → Type 0) → (List ℕ → Type 0) → Interface → List Instruction → Proc → List Val → Tail → Option Input → PlayError → Type 0
Cause format base old new i code p xs tail left Read = Stopped format base old new p xs tail left
Cause format base old new i code p xs tail left Write = Unit {0}
Cause format base old new i code p xs tail left Exhausted = (received : List Val) × (outs : List Out) × IsLong i code p received outs

-- the output is a front part of what the outputs of the trace are written as
pub record RanPart (format : Format) (base : Base) (old new : List ℕ → Type 0) (i : Interface) (code : List Instruction) (p : Proc) (xs : List Val) (tail : Tail) (left : Option Input) (why : PlayError) : Type 0 where
  pub out : GrewPart (spell_numbers format base true (numbers_of (run p xs).outs)) old new
  pub cause : Cause format base old new i code p xs tail left why

-- what a run with its output closed has come to
abbrev pub Closes : Format → Base → (List ℕ → Type 0) → (List ℕ → Type 0) → Interface → List Instruction → Proc → List Val → Tail → Option Input → Memory → Result Outcome PlayError → Type 0
Closes format base old new i code p xs tail left m (Ok o) = Ran format base old new i (run p xs) xs tail left m o
Closes format base old new i code p xs tail left m (Err why) = RanPart format base old new i code p xs tail left why
