use Rattle.std.proofs.Common.{◌≡◌, drop}
use Rattle.zir_code.specs.Statements.{has_index}
use Rattle.zir_compile.proofs.assignments.has_index.Given as goal

-- an index is among all where one is from here on
abbrev pub invariant-loop-access : goal.invariant-loop-access
invariant-loop-access l = has_index l.path ≡ has_index (drop l.access-index l.path)
