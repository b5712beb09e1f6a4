use Rattle.std.proofs.Common.{◌≡◌, max, drop}
use Rattle.zir_types.specs.Needs.{path_need}
use Rattle.zir_limits.specs.Facts.{told, needs_in}
use Rattle.zir_limits.proofs.need.path_need.Given as goal

-- the greatest so far, and that of the rest
abbrev pub invariant-loop-step : goal.invariant-loop-step
invariant-loop-step l = path_need (needs_in (told l.facts)) l.steps ≡ max l.need (path_need (needs_in (told l.facts)) (drop l.step-index l.steps))
