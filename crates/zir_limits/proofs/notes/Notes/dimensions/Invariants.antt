use Rattle.std.proofs.Common.{◌≡◌, drop}
use Rattle.zir_types.specs.Measures.{spans}
use Rattle.zir_limits.specs.Notes.{noted}
use Rattle.zir_limits.proofs.notes.Notes.dimensions.Given as goal

-- what is noted so far, and what the rest adds
abbrev pub invariant-loop-dimension : goal.invariant-loop-dimension
invariant-loop-dimension l = noted (spans l.dimensions) l.initial.self ≡ noted (spans (drop l.dimension-index l.dimensions)) l.self
