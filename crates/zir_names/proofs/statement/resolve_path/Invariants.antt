use Rattle.std.proofs.Common.{◌≡◌, drop}
use Rattle.zir_names.specs.Expressions.{each}
use Rattle.zir_names.specs.Statements.{access_of}
use Rattle.zir_names.proofs.Lists.{gathered}
use Rattle.zir_names.proofs.statement.resolve_path.Given as goal

-- what is made so far, and what the rest makes
abbrev pub invariant-loop-access : goal.invariant-loop-access
invariant-loop-access l = each (access_of l.scope) l.path ≡ gathered l.made (each (access_of l.scope) (drop l.access-index l.path))
