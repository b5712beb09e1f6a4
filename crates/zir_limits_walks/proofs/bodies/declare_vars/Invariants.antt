use Rattle.std.proofs.Common.{◌≡◌, ◌++◌, drop}
use Rattle.zir_types.specs.Known.{seen_vars}
use Rattle.zir_limits_walks.proofs.bodies.declare_vars.Given as goal

-- what is in scope so far, and what the rest adds
abbrev pub invariant-loop-v : goal.invariant-loop-v
invariant-loop-v l = l.initial.scope ++ seen_vars l.vars ≡ l.scope ++ seen_vars (drop l.v-index l.vars)
