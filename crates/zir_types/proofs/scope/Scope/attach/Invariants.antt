use Rattle.std.proofs.Common.{◌≡◌}
use Rattle.zir_types.specs.Scope.{declare}
use Rattle.zir_types.proofs.scope.Scope.attach.Given as goal

-- the variables up to here are declared
abbrev pub invariant-loop-variable : goal.invariant-loop-variable
invariant-loop-variable l = l.self ≡ declare l.yielded l.initial.self
