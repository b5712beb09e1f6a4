use Rattle.std.proofs.Common.{drop}
use Rattle.zir_limits.specs.Facts.{told}
use Rattle.zir_limits_walks.proofs.Visiting.{FunctionsSoFar}
use Rattle.zir_limits_walks.proofs.bodies.visit_functions.Given as goal

-- what is noted, called and known so far
abbrev pub invariant-loop-f : goal.invariant-loop-f
invariant-loop-f l =
    FunctionsSoFar (told l.initial.facts) l.initial.scope l.initial.notes l.functions (told l.facts) l.scope l.notes l.calls (drop l.f-index l.functions)
