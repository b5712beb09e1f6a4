use Rattle.std.proofs.Common.{◌≡◌, drop}
use Rattle.zir_types.specs.Statements.{path}
use Rattle.zir_type_bodies.proofs.statement.type_path.Given as goal

-- the walk of all is the walk of the rest from here
abbrev pub invariant-loop-access : goal.invariant-loop-access
invariant-loop-access l = path l.scope l.initial.path l.steps ≡ path l.scope l.path (drop l.access-index l.steps)
