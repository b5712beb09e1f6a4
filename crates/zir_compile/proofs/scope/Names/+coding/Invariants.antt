use Rattle.std.proofs.Common.{drop}
use Rattle.zir_compile.specs.Names.{scope_of}
use Rattle.zir_compile.proofs.Listed.{Onward}
use Rattle.zir_compile.proofs.scope.Names.+coding.Given as goal

-- all arguments are those so far and those from here on
abbrev pub invariant-arguments-loop-e : goal.invariant-arguments-loop-e
invariant-arguments-loop-e l = Onward (scope_of l.self) l.es l.fn.d l.initial.steps.items (drop l.e-index l.es) l.at l.peak l.known l.steps.items
