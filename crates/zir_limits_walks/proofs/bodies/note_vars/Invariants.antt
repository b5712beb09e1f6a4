use Rattle.std.proofs.Common.{◌≡◌, drop}
use Rattle.zir_types.specs.Limits.{in_vars}
use Rattle.zir_limits.specs.Facts.{told, sight}
use Rattle.zir_limits.specs.Notes.{noted}
use Rattle.zir_limits_walks.proofs.bodies.note_vars.Given as goal

-- what is noted so far, and what the rest adds
abbrev pub invariant-loop-v : goal.invariant-loop-v
invariant-loop-v l = noted (in_vars (sight (told l.facts) l.scope) l.vars) l.initial.notes ≡ noted (in_vars (sight (told l.facts) l.scope) (drop l.v-index l.vars)) l.notes
