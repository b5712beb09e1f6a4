use Rattle.std.proofs.Common.{◌≡◌, drop}
use Rattle.zir_types.specs.Scope.{Visible}
use Rattle.zir_types.specs.Limits.{in_structs}
use Rattle.zir_limits.specs.Notes.{noted}
use Rattle.zir_limits_walks.proofs.structs.note_structs.Given as goal

-- what is noted so far, and what the rest adds
abbrev pub invariant-loop-d : goal.invariant-loop-d
invariant-loop-d l = (g : Visible) → noted (in_structs g l.ds l.shapes) l.initial.notes ≡ noted (in_structs g (drop l.d-index l.ds) (drop l.place l.shapes)) l.notes
