use Rattle.zir_names.proofs.Chains.{Reaches}
use Rattle.zir_names.proofs.scope.Scope.find.Given as goal

-- the declarations up to this place have what all have of the name
abbrev pub invariant-loop-at : goal.invariant-loop-at
invariant-loop-at l = Reaches l.self-inside.links.items l.name l.at

abbrev pub decreases-loop-at : goal.decreases-loop-at
decreases-loop-at l = l.at
