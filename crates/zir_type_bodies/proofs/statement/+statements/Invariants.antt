use Rattle.std.proofs.Common.{◌≡◌, [], drop}
use Rattle.zir_types.specs.Statements.{stmts_of}
use Rattle.zir_type_bodies.proofs.statement.+statements.Given as goal

-- the walk of all is the walk of the rest from here
abbrev pub invariant-type_sequence-loop-s : goal.invariant-type_sequence-loop-s
invariant-type_sequence-loop-s l = stmts_of l.initial.scope [] l.ss ≡ stmts_of l.scope l.made (drop l.s-index l.ss)
