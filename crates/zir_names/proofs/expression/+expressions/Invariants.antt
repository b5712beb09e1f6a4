use Rattle.std.proofs.Common.{◌≡◌, drop}
use Rattle.zir_names.specs.Expressions.{each, expr}
use Rattle.zir_names.proofs.Lists.{gathered}
use Rattle.zir_names.proofs.expression.+expressions.Given as goal

-- what is made so far, and what the rest makes
abbrev pub invariant-resolve_exprs-loop-e : goal.invariant-resolve_exprs-loop-e
invariant-resolve_exprs-loop-e l = each (expr l.scope) l.es ≡ gathered l.made (each (expr l.scope) (drop l.e-index l.es))
