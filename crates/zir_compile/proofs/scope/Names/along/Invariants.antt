use Rattle.std.proofs.Common.{drop}
use Rattle.zir_compile.specs.Names.{scope_of}
use Rattle.zir_compile.proofs.Along.{Along}
use Rattle.zir_compile.proofs.scope.Names.along.Given as goal

-- the whole path is what is behind and what is from here on
abbrev pub invariant-loop-access : goal.invariant-loop-access
invariant-loop-access l = Along (scope_of l.self) l.fn.base l.path l.initial.steps.items (drop l.access-index l.path) l.here l.steps.items
