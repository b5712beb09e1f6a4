-- What stands under the adapters, and their counts of faults.
use Rattle.std.specs.Prelude.{ℕ}
use Rattle.zir_outside.specs.declared.real.StdInput.{StdInput}
use Rattle.zir_outside.specs.declared.real.StdOutput.{StdOutput}
use Rattle.zir_outside.specs.declared.real.StdNotes.{StdNotes}
use Rattle.zir_outside.specs.declared.real.FileShelf.{FileShelf}

-- the reader under the input
abbrev pub reader_of : {R : Type 0} → StdInput R → R
reader_of input = input.reader

-- how often the input failed
abbrev pub input_faults : {R : Type 0} → StdInput R → ℕ
input_faults input = input.faults

-- the writer under the output
abbrev pub output_writer : {W : Type 0} → StdOutput W → W
output_writer output = output.writer

-- how often the output failed
abbrev pub output_faults : {W : Type 0} → StdOutput W → ℕ
output_faults output = output.faults

-- the writer under the notes
abbrev pub notes_writer : {W : Type 0} → StdNotes W → W
notes_writer notes = notes.writer

-- how often the notes failed
abbrev pub notes_faults : {W : Type 0} → StdNotes W → ℕ
notes_faults notes = notes.faults

-- how often the files failed
abbrev pub shelf_faults : {R : Type 0} → FileShelf R → ℕ
shelf_faults shelf = shelf.faults
