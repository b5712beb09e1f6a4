-- The notes on how a run ended.
use Rattle.std.specs.Prelude.{ℕ, List}
use Rattle.zir_meaning.specs.Notes.{ended_note, input_note, trap_note, spent_note, malformed_note, fault_note}
use Rattle.zir_end_notes.specs.declared.Ending.{Ending}
use Rattle.zir_end_notes.specs.declared.Ending.TheVariants.{Value, Input, Trap, Spent, Malformed, ReadFault}

-- the note on an ending, by the budget of ticks and the elements that were taken and written
abbrev pub end_note : Ending → ℕ → ℕ → ℕ → List ℕ
end_note (Value value ty structs) ticks taken written = ended_note structs.now ty.now value.now taken written
end_note Input ticks taken written = input_note taken written
end_note (Trap trap name) ticks taken written = trap_note name.now trap taken written
end_note Spent ticks taken written = spent_note ticks written
end_note (Malformed at) ticks taken written = malformed_note at taken written
end_note ReadFault ticks taken written = fault_note
