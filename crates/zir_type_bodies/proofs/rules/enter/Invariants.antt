use Rattle.std.proofs.Common.{◌≡◌, take}
use Rattle.zir_types.specs.Scope.{declare}
use Rattle.zir_type_bodies.proofs.rules.enter.Given as goal

-- the variables up to here are declared
abbrev pub invariant-loop-v : goal.invariant-loop-v
invariant-loop-v l = l.scope ≡ declare (take l.v-index l.seen) l.initial.scope
