use Rattle.std.proofs.Common.{drop, ◌<◌, ◌^◌}
use Rattle.zir_compile.specs.Names.{scope_of}
use Rattle.zir_eval.proofs.Beginning.{Goes}
use Rattle.zir_eval.proofs.initials.initials.Given as goal

-- the code of all is that so far and that of those from here on
abbrev pub invariant-loop-v : goal.invariant-loop-v
invariant-loop-v l = Goes (scope_of l.names) l.variables (drop l.v-index l.variables) l.fn.steps.items l.steps.items l.peak × (l.peak < 2 ^ 32)
