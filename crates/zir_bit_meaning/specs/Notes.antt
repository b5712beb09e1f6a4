-- What the notes say of how a run ended, byte for byte.
use Rattle.std.specs.Prelude.{ℕ, true, false, List, [], ◌++◌, codes, decimal}
use Rattle.zir_bit_tree.specs.declared.value.Val.{Val}
use Rattle.zir_bit_tree.specs.declared.value.Val.TheVariants.{Unit as UnitVal, Bit as BitVal}
use Rattle.zir_bit_meaning.specs.Run.{RunEnd, ByValue, ByInput, ByTrap, ByBudget, ByReadFault}

-- a value as a program spells it
abbrev pub spelling_of : Val → List ℕ
spelling_of UnitVal = codes "()"
spelling_of (BitVal false) = codes "'0"
spelling_of (BitVal true) = codes "'1"

-- a text as a line of its own
abbrev pub line_of : List ℕ → List ℕ
line_of text = text ++ codes "\n"

-- a line of words and a number, which stands in decimal without leading zeros
abbrev pub number_line : List ℕ → ℕ → List ℕ
number_line words n = line_of (words ++ decimal n)

-- the lines on how many elements were taken and written
abbrev pub counts_of : ℕ → ℕ → List ℕ
counts_of taken written = number_line (codes "taken ") taken ++ number_line (codes "written ") written

-- the note on a run by its end, its budget of ticks, and the elements that it took and wrote; a trap and a read fault have none
abbrev pub note_of : RunEnd → ℕ → ℕ → ℕ → List ℕ
note_of (ByValue v) ticks taken written = line_of (codes "ended " ++ spelling_of v) ++ counts_of taken written
note_of ByInput ticks taken written = line_of (codes "input ended") ++ counts_of taken written
note_of (ByTrap t) ticks taken written = []
note_of ByBudget ticks taken written = number_line (codes "out of ticks ") ticks ++ number_line (codes "written ") written
note_of ByReadFault ticks taken written = []
