use Rattle.std.proofs.Common.{◌≡◌, drop}
use Rattle.zir_names.specs.Touched.{both, all_of, in_stmt}
use Rattle.zir_sharing.proofs.statement.+statements.Given as goal

-- the rest comes to what is touched so far
abbrev pub invariant-touch_stmts-loop-s : goal.invariant-touch_stmts-loop-s
invariant-touch_stmts-loop-s l = both (all_of (in_stmt l.functions) l.ss) l.initial.touched ≡ both (all_of (in_stmt l.functions) (drop l.s-index l.ss)) l.touched
