-- What the report on a run says, in the terms of its trace.
use Rattle.std.specs.Prelude.{ℕ, ◌≡◌, List, Option, Some, None, length}
use Rattle.zir_tree.specs.declared.ends.Trap.{Trap}
use Rattle.zir_bit_meaning.specs.Trace.{Trace}
use Rattle.zir_bit_meaning.specs.Samples.{Ended}
use Rattle.zir_bit_meaning.specs.Run.{RunEnd, ByTrap, run_end}
use Rattle.zir_bit_meaning.specs.Answer.{status_of}
use Rattle.zir_bit_meaning.specs.Notes.{note_of}
use Rattle.zir_notes.specs.declared.Ending.{Ending}
use Rattle.zir_notes.specs.Endings.{run_end_of}
use Rattle.zir_steps.specs.History.{History}
use Rattle.zir_drive.specs.declared.Outcome.{Outcome}
use Rattle.zir_drive.specs.Runs.{TellsEnd, TellsTaken, OwnValue}

-- the outcome and the worker that ran tell of this trace
pub record TellsRun (stands : History → Type 0) (outcome : Outcome) (t : Trace) : Type 0 where
  pub end : TellsEnd outcome.end t.end
  pub taken : TellsTaken outcome.end outcome.taken t.last.taken
  pub written : outcome.written ≡ length t.outs
  pub value : OwnValue stands t

-- the note tells this end of a run, and only a trap has no note
abbrev pub IsNoteOf : Option Ending → RunEnd → Type 0
IsNoteOf (Some ending) e = run_end_of ending ≡ e
IsNoteOf None e = (t : Trap) × (e ≡ ByTrap t)

-- the status of a run with this trace
abbrev pub status_over : Trace → ℕ
status_over t = status_of (run_end Ended t.end)

-- the note on a run with this trace and so many ticks
abbrev pub note_over : ℕ → Trace → List ℕ
note_over ticks t = note_of (run_end Ended t.end) ticks t.last.taken (length t.outs)
