use Rattle.zir_assigned.proofs.Making.{FunctionsSoFar}
use Rattle.zir_assigned.proofs.assigned.Assigned.of_functions.Given as goal

abbrev pub invariant-loop-f : goal.invariant-loop-f
invariant-loop-f l = FunctionsSoFar l.made l.functions l.f-index
