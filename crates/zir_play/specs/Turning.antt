-- How far a run has come between the events of its stage.
use Rattle.std.specs.Prelude.{ℕ, suc, ◌+◌, ◌≡◌, ℤ, List, [], ◌++◌, Option, Some, None, length, Result, Ok, Err, false}
use Rattle.zir_tree.specs.declared.value.Val.{Val}
use Rattle.zir_tree.specs.declared.ends.Stamp.{Stamp}
use Rattle.zir_meaning.specs.Trace.{Out}
use Rattle.zir_meaning.specs.Values.{Each}
use Rattle.zir_meaning.specs.Elements.{Tail}
use Rattle.zir_laws.specs.Process.{Proc, run}
use Rattle.zir_shapes.specs.Shapes.{Shaped}
use Rattle.zir_expr.specs.Memory.Frames.{Memory}
use Rattle.zir_flow.specs.declared.instruction.Instruction.{Instruction}
use Rattle.zir_flow.specs.Stages.{Stage, handed}
use Rattle.zir_samples.specs.Writing.{Kept, Wrote, PutsPart, PutsRest}
use Rattle.zir_play.specs.declared.player.Outcome.{Outcome}
use Rattle.zir_play.specs.declared.player.PlayError.{PlayError}
use Rattle.zir_play.specs.declared.player.PlayError.TheVariants.{Read, Write, Exhausted}
use Rattle.zir_play.specs.declared.player.Player.{Player}
use Rattle.zir_play.specs.declared.player.Finish.TheVariants.{Input as InputFinish, Malformed as MalformedFinish}
use Rattle.zir_reader.specs.declared.elements.Next.{Next}
use Rattle.zir_reader.specs.declared.elements.Next.TheVariants.{Element, End, Malformed, Failed as NextFailed}
use Rattle.zir_reader.specs.Inputs.{Input, Gets}
use Rattle.zir_play.specs.Performing.{Interface, Performs}
use Rattle.zir_play.specs.Runs.{numbers_of, Remains, GoesOn, Played, Broke}

-- a run under way: it took these elements and gave these outputs, so many events in all, and its stage performs what follows
pub record Under (i : Interface) (code : List Instruction) (p : Proc) (xs : List Val) (tail : Tail) (left : Option Input) (s : Stage) (next : Proc) (received : List Val) (outs : List Out) (written events : ℕ) : Type 0 where
  pub performs : Performs i code next s
  pub goes_on : GoesOn p next received outs
  pub remains : Remains xs received tail left
  pub shaped : Each (Shaped i.structs i.input) remains.rest
  pub written_is : written ≡ length outs
  pub events_are : events ≡ length received + length outs

-- a run under way, and what it wrote
pub record Goes {K : Type 0} (stands_for : K → List ℕ → Type 0) (before now : K) (old new : Kept) (i : Interface) (code : List Instruction) (p : Proc) (xs : List Val) (tail : Tail) (left : Option Input) (s : Stage) (written events : ℕ) : Type 0 where
  pub next : Proc
  pub received : List Val
  pub outs : List Out
  pub under : Under i code p xs tail left s next received outs written events
  pub wrote : Wrote stands_for before now old new (numbers_of outs)

-- what a run has come to by its next event: it goes on, it is at its end, or it broke off
abbrev pub Turned : {K : Type 0} → (K → List ℕ → Type 0) → K → K → Kept → Kept → Interface → List Instruction → Proc → List Val → Tail → Option Input → Stage → Memory → ℕ → ℕ → Result (Option Outcome) PlayError → Type 0
Turned stands_for before now old new i code p xs tail left s m written events (Ok None) =
    Goes stands_for before now old new i code p xs tail left s written (suc events)
Turned stands_for before now old new i code p xs tail left s m written events (Ok (Some o)) = Played stands_for before now old new i (run p xs) xs tail left m o
Turned stands_for before now old new i code p xs tail left s m written events (Err why) = Broke stands_for before now old new i code p xs tail left why

-- these numbers were written, or a front part of what the first of them are written as
pub record PutsFront {K : Type 0} (stands_for : K → List ℕ → Type 0) (before now : K) (old : Kept) (numbers : List ℤ) : Type 0 where
  pub some : List ℤ
  pub more : List ℤ
  pub split : numbers ≡ some ++ more
  pub part : PutsPart stands_for before now old some false

-- the cells that a player has room for
abbrev pub room_of : Player → ℕ
room_of player = length player.element.items

-- how a run ends by what was answered where it asked for an element at a point
abbrev pub EndsAs : Next → Stamp → ℕ → Outcome → Type 0
EndsAs Element point written o = ⊥
EndsAs End point written o = o ≡ record { end = InputFinish; taken = point.taken; ticks = point.ticks; written = written }
EndsAs (Malformed at) point written o = o ≡ record { end = MalformedFinish at; taken = point.taken; ticks = point.ticks; written = written }
EndsAs NextFailed point written o = ⊥

-- what came of an element that was asked for at a point: it was handed in, or there is none and the run ends so, or a read failed
abbrev pub Hands : List Instruction → Option Input → Option Input → Stage → Stage → Stamp → ℕ → Result (Option Outcome) PlayError → Type 0
Hands code old left s s' point written (Ok None) = (into : List ℤ) × Gets old left into Element × (s' ≡ handed code into s)
Hands code old left s s' point written (Ok (Some o)) = (into : List ℤ) × (next : Next) × Gets old left into next × (s' ≡ s) × EndsAs next point written o
Hands code old left s s' point written (Err Read) = (into : List ℤ) × Gets old left into NextFailed × (s' ≡ s)
Hands code old left s s' point written (Err Write) = ⊥
Hands code old left s s' point written (Err Exhausted) = ⊥

-- the rest was put where a run broke off, but where a put failed before
abbrev pub Flushed : {K : Type 0} → (K → List ℕ → Type 0) → K → K → Kept → PlayError → PlayError → Type 0
Flushed stands_for before now old Read Read = PutsRest stands_for before now old [] false
Flushed stands_for before now old Read Write = PutsPart stands_for before now old [] false
Flushed stands_for before now old Read Exhausted = ⊥
Flushed stands_for before now old Write Read = ⊥
Flushed stands_for before now old Write Write = now ≡ before
Flushed stands_for before now old Write Exhausted = ⊥
Flushed stands_for before now old Exhausted Read = ⊥
Flushed stands_for before now old Exhausted Write = PutsPart stands_for before now old [] false
Flushed stands_for before now old Exhausted Exhausted = PutsRest stands_for before now old [] false
