use Rattle.std.proofs.Common.{◌≡◌, drop}
use Rattle.zir_types.specs.Measures.{in_exprs}
use Rattle.zir_limits.specs.Facts.{told, sight}
use Rattle.zir_limits.specs.Notes.{noted}
use Rattle.zir_limits.proofs.expression.+expressions.Given as goal

-- what is noted so far, and what the rest adds
abbrev pub invariant-note_exprs-loop-e : goal.invariant-note_exprs-loop-e
invariant-note_exprs-loop-e l =
    noted (in_exprs (sight (told l.facts) l.scope) l.es) l.initial.notes ≡ noted (in_exprs (sight (told l.facts) l.scope) (drop l.e-index l.es)) l.notes
