use Rattle.std.proofs.Common.{◌≡◌, ◌<◌, ℕ, suc, List, length, ◌+◌, ◌*◌}
use Rattle.zir_tree.specs.declared.stmt.Stmt.{Stmt}
use Rattle.zir_tree.specs.declared.program.Prog.{Prog}
use Rattle.zir_grammar.specs.Parts.{Rest, reads, some_stmts, more_stmts}
use Rattle.zir_grammar.specs.Machine.{run}
use Rattle.zir_grammar.specs.Reading.{HasRoom}
use Rattle.zir_parse_statements.proofs.statements.+stmt.Given as goal

abbrev pub decreases-braced : goal.decreases-braced
decreases-braced l = 8 * length l.tokens.now

abbrev pub decreases-compound : goal.decreases-compound
decreases-compound l = 8 * length l.tokens.now + 1

abbrev pub decreases-counted : goal.decreases-counted
decreases-counted l = 8 * length l.tokens.now

abbrev pub decreases-statement : goal.decreases-statement
decreases-statement l = 8 * length l.tokens.now + 2

abbrev pub decreases-test : goal.decreases-test
decreases-test l = 8 * length l.tokens.now

abbrev pub decreases-turning : goal.decreases-turning
decreases-turning l = 8 * length l.tokens.now

abbrev pub invariant-braced-loop-after : goal.invariant-braced-loop-after
invariant-braced-loop-after l = record {
  read : (most : ℕ) (k : List Stmt → ℕ → Rest Prog) → HasRoom most k 1 l.fn.room
      → run most (reads some_stmts k) l.fn.tokens ≡ run most (reads (more_stmts l.statements l.high) (λ ss h. k ss (suc h))) l.rest;
  high : l.high < l.fn.room;
  rest : length l.rest < length l.fn.tokens;
}

abbrev pub decreases-braced-loop-after : goal.decreases-braced-loop-after
decreases-braced-loop-after l = length l.rest
