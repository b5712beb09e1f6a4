-- What the run of a program answers: a status, and the bytes of its output and of its notes.
use Rattle.std.specs.Prelude.{ℕ, List, true, length}
use Rattle.zir_bit_tree.specs.declared.tree.Prog.{Prog}
use Rattle.zir_bit_meaning.specs.Samples.{elements, spell}
use Rattle.zir_bit_meaning.specs.Run.{RunEnd, ByValue, ByInput, ByTrap, ByBudget, ByReadFault, run_of}
use Rattle.zir_bit_meaning.specs.Notes.{note_of}

-- a status, and the bytes of the output and of the notes
pub record Answer : Type 0 where
  pub status : ℕ
  pub out : List ℕ
  pub notes : List ℕ

-- the status that tells how a run ended
abbrev pub status_of : RunEnd → ℕ
status_of (ByValue v) = 0
status_of ByInput = 0
status_of (ByTrap t) = 4
status_of ByBudget = 5
status_of ByReadFault = 7

-- what a program answers with so many ticks, where these bytes are all of its input
abbrev pub answer_of : ℕ → Prog → List ℕ → Answer
answer_of n program bytes = let r = run_of program (elements bytes true) n in record { status = status_of r.end; out = spell true r.outs; notes = note_of r.end n r.taken (length r.outs) }
