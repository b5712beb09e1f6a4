use Rattle.std.proofs.Common.{◌≡◌, ◌++◌, None, drop}
use Rattle.zir_types.specs.Known.{seen_stmts}
use Rattle.zir_types.specs.Measures.{in_list}
use Rattle.zir_limits.specs.Facts.{told, sight}
use Rattle.zir_limits.specs.Notes.{noted}
use Rattle.zir_limits_walks.proofs.statement.+statements.Given as goal

-- what is noted and in scope so far, and what the rest adds
abbrev pub invariant-note_stmts-loop-s : goal.invariant-note_stmts-loop-s
invariant-note_stmts-loop-s l = record {
  noted_ : noted (in_list (sight (told l.facts) l.initial.scope) l.ss None) l.initial.notes ≡ noted (in_list (sight (told l.facts) l.scope) (drop l.s-index l.ss) None) l.notes;
  seen : l.initial.scope ++ seen_stmts l.ss ≡ l.scope ++ seen_stmts (drop l.s-index l.ss);
}
