use Rattle.std.proofs.Common.{◌≡◌, drop}
use Rattle.zir_names.specs.Statements.{in_turn, stmt}
use Rattle.zir_names.proofs.Lists.{gathered_in}
use Rattle.zir_names.proofs.statement.+statements.Given as goal

-- what is made so far, and what the rest makes
abbrev pub invariant-resolve_stmts-loop-s : goal.invariant-resolve_stmts-loop-s
invariant-resolve_stmts-loop-s l = in_turn stmt l.initial.scope l.ss ≡ gathered_in l.made (in_turn stmt l.scope (drop l.s-index l.ss))
