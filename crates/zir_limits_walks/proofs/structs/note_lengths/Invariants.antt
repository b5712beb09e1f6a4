use Rattle.std.proofs.Common.{◌≡◌, drop}
use Rattle.zir_types.specs.Limits.{in_struct_fields}
use Rattle.zir_limits.specs.Notes.{noted}
use Rattle.zir_limits_walks.proofs.structs.note_lengths.Given as goal

-- what is noted so far, and what the rest adds
abbrev pub invariant-loop-field : goal.invariant-loop-field
invariant-loop-field l = noted (in_struct_fields l.fields) l.initial.notes ≡ noted (in_struct_fields (drop l.field-index l.fields)) l.notes
