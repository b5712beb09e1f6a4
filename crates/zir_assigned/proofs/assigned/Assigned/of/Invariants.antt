use Rattle.zir_meaning.specs.Assigned.{fun_assigns}
use Rattle.zir_assigned.proofs.Making.{InstancesSoFar}
use Rattle.zir_assigned.proofs.assigned.Assigned.of.Given as goal

abbrev pub invariant-loop-i : goal.invariant-loop-i
invariant-loop-i l = InstancesSoFar l.made (fun_assigns l.functions) l.instances l.i-index
