-- What was added so far, and what the rest adds.
use Rattle.std.proofs.Common.{◌≡◌, ◌++◌, drop}
use Rattle.zir_notes.specs.Reports.{type_words}
use Rattle.zir_notes.proofs.reports.add_type.Given as goal

abbrev pub invariant-loop-length : goal.invariant-loop-length
invariant-loop-length l = l.text.items ++ type_words l.structs (drop l.length-index l.length-items) l.ty.base ≡ l.initial.text.items ++ type_words l.structs l.length-items l.ty.base
