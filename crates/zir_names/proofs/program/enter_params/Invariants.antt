use Rattle.std.proofs.Common.{◌≡◌, drop}
use Rattle.zir_names.specs.Programs.{entered}
use Rattle.zir_names.proofs.program.enter_params.Given as goal

-- the rest come into scope behind those before them
abbrev pub invariant-loop-param : goal.invariant-loop-param
invariant-loop-param l = entered l.params l.initial.scope ≡ entered (drop l.param-index l.params) l.scope
