use Rattle.std.proofs.Common.{◌≡◌, drop}
use Rattle.zir_types.specs.Measures.{in_path}
use Rattle.zir_limits.specs.Facts.{told, sight}
use Rattle.zir_limits.specs.Notes.{noted}
use Rattle.zir_limits.proofs.expression.note_path.Given as goal

-- what is noted so far, and what the rest adds
abbrev pub invariant-loop-step : goal.invariant-loop-step
invariant-loop-step l =
    noted (in_path (sight (told l.facts) l.scope) l.steps) l.initial.notes ≡ noted (in_path (sight (told l.facts) l.scope) (drop l.step-index l.steps)) l.notes
