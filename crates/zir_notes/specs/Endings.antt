-- The end of a run that a note tells of.
use Rattle.zir_bit_meaning.specs.Run.{RunEnd, ByValue, ByInput, ByBudget}
use Rattle.zir_notes.specs.declared.Ending.{Ending}
use Rattle.zir_notes.specs.declared.Ending.TheVariants.{Value, Input, Spent}

-- the end of a run that an ending tells of
abbrev pub run_end_of : Ending → RunEnd
run_end_of (Value v) = ByValue v
run_end_of Input = ByInput
run_end_of Spent = ByBudget
