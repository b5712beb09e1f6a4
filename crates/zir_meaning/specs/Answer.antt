-- What a run of programs answers: a status, and the bytes of its output and of its notes.
use Rattle.std.specs.Prelude.{ℕ, zero, suc, true, List, [], ◌∷◌, map, length, Option, Some, None}
use Rattle.zir_tree.specs.declared.format.Format.{Format}
use Rattle.zir_tree.specs.declared.types.Ty.{Ty}
use Rattle.zir_tree.specs.declared.types.Base.TheVariants.{Unit as UnitTy}
use Rattle.zir_tree.specs.declared.program.Core.{Core}
use Rattle.zir_meaning.specs.Elements.{elements, spell}
use Rattle.zir_meaning.specs.Notes.{ended_note, input_note, trap_note, spent_note, malformed_note, fault_note}
use Rattle.zir_meaning.specs.Run.{RunEnd, ByValue, ByInput, ByTrap, ByBudget, ByMalformed, ByReadFault, run_of}

-- a status, and the bytes of the output and of the notes
pub record Answer : Type 0 where
  pub status : ℕ
  pub out : List ℕ
  pub notes : List ℕ

-- a program with the name that its text was loaded by
pub record Loaded : Type 0 where
  pub name : List ℕ
  pub core : Core

-- the program of this number, behind the first one
abbrev pub program_at : Loaded → List Loaded → ℕ → Loaded
program_at first [] number = first
program_at first (second ∷ more) zero = first
program_at first (second ∷ more) (suc number) = program_at second more number

-- the type of the value that a program ends with
abbrev pub value_type : Option Ty → Ty
value_type None = record { lengths = []; base = UnitTy }
value_type (Some t) = t

-- the status that tells how a run ended
abbrev pub status_of : RunEnd → ℕ
status_of (ByValue v) = 0
status_of ByInput = 0
status_of (ByTrap t) = 4
status_of ByBudget = 5
status_of (ByMalformed at) = 6
status_of ByReadFault = 7

-- the notes on a run that ended in this program with so many ticks, taken and written
abbrev pub note_of : RunEnd → Loaded → ℕ → ℕ → ℕ → List ℕ
note_of (ByValue v) program n taken written = ended_note program.core.structs (value_type program.core.value) v taken written
note_of ByInput program n taken written = input_note taken written
note_of (ByTrap t) program n taken written = trap_note program.name t taken written
note_of ByBudget program n taken written = spent_note n written
note_of (ByMalformed at) program n taken written = malformed_note at taken written
note_of ByReadFault program n taken written = fault_note

-- what these programs answer in this format with so many ticks, where these bytes are all of their input
abbrev pub answer_of : Format → ℕ → Loaded → List Loaded → List ℕ → Answer
answer_of format n first more bytes =
    let r = run_of first.core (map (λ p. p.core) more) (elements format first.core.input bytes true) n in
    record { status = status_of r.end; out = spell format first.core.output r.outs true; notes = note_of r.end (program_at first more r.program) n r.taken (length r.outs) }
