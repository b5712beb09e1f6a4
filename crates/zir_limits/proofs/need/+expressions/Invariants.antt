use Rattle.std.proofs.Common.{◌≡◌, max, drop}
use Rattle.zir_types.specs.Needs.{exprs_need}
use Rattle.zir_limits.specs.Facts.{told, needs_in}
use Rattle.zir_limits.proofs.need.+expressions.Given as goal

-- the greatest so far, and that of the rest
abbrev pub invariant-exprs_need-loop-e : goal.invariant-exprs_need-loop-e
invariant-exprs_need-loop-e l = exprs_need (needs_in (told l.facts)) l.es ≡ max l.need (exprs_need (needs_in (told l.facts)) (drop l.e-index l.es))
