use Rattle.std.proofs.Common.{◌≡◌, [], drop}
use Rattle.zir_names.specs.Programs.{params as params_walk}
use Rattle.zir_names.proofs.Lists.{gathered_in}
use Rattle.zir_names.proofs.program.resolve_params.Given as goal

-- what is made so far, and what the rest makes
abbrev pub invariant-loop-param : goal.invariant-loop-param
invariant-loop-param l = params_walk l.initial.scope [] l.params ≡ gathered_in l.made (params_walk l.scope l.before.open_ (drop l.param-index l.params))
