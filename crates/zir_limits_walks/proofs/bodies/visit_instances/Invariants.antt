use Rattle.std.proofs.Common.{drop}
use Rattle.zir_limits.specs.Facts.{told}
use Rattle.zir_limits_walks.proofs.Visiting.{InstancesSoFar}
use Rattle.zir_limits_walks.proofs.bodies.visit_instances.Given as goal

-- what is noted, called and known so far
abbrev pub invariant-loop-i : goal.invariant-loop-i
invariant-loop-i l =
    InstancesSoFar (told l.initial.facts) l.initial.scope l.initial.notes l.instances (told l.facts) l.scope l.notes l.calls (drop l.i-index l.instances)
