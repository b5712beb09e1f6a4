use Rattle.std.proofs.Common.{◌≡◌, List, drop}
use Rattle.zir_types.specs.declared.scope.Seen.{Seen}
use Rattle.zir_types.specs.Limits.{in_fields}
use Rattle.zir_limits.specs.Facts.{told, sight}
use Rattle.zir_limits.specs.Notes.{noted}
use Rattle.zir_limits_walks.proofs.bodies.note_fields.Given as goal

-- what is noted so far, and what the rest adds
abbrev pub invariant-loop-field : goal.invariant-loop-field
invariant-loop-field l =
    (vs : List Seen) → noted (in_fields (sight (told l.facts) vs) l.fields) l.initial.notes ≡ noted (in_fields (sight (told l.facts) vs) (drop l.field-index l.fields)) l.notes
