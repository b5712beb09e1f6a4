use Rattle.std.proofs.Common.{drop}
use Rattle.zir_compile.specs.Names.{scope_of}
use Rattle.zir_compile.specs.Stated.{Moved}
use Rattle.zir_compile.proofs.Rows.{Doing}
use Rattle.zir_compile.proofs.scope.Names.+stating.Given as goal

-- all statements are those so far and those from here on
abbrev pub invariant-row-loop-a : goal.invariant-row-loop-a
invariant-row-loop-a l =
    Moved l.fn.self l.self × Doing (scope_of l.fn.self) l.statements l.fn.d l.initial.steps.items (drop l.a-index l.statements) (scope_of l.self) l.free l.peak l.steps.items
