-- What elements in memory stand for.
use Rattle.std.specs.Prelude.{ℕ, ◌-◌, ◌/◌, Option, Some, None, length, drop}
use Rattle.zir_meaning.specs.Items.{pieces}
use Rattle.zir_meaning.specs.Elements.{Tail, Ended, Malformed}
use Rattle.zir_reader.specs.declared.memory.MemElements.{MemElements}
use Rattle.zir_reader.specs.Inputs.{Input}

-- what follows the elements: the end, or malformed input behind a place
abbrev pub tail_of : Option ℕ → Tail
tail_of None = Ended
tail_of (Some at) = Malformed at

-- the elements that were not given yet, without a last one that is too short
abbrev pub left_in : MemElements → Input
left_in m =
    record { elements = pieces ((length m.cells.items - m.given) / m.size) m.size (drop m.given m.cells.items); tail = tail_of m.malformed }

-- how many cells an element has
abbrev pub size_of : MemElements → ℕ
size_of m = m.size

-- how often a call failed
abbrev pub faults_of : MemElements → ℕ
faults_of m = m.faults
