use Rattle.std.proofs.Common.{◌≡◌, ◌<◌, ℕ, suc, length}
use Rattle.zir_tree.specs.declared.stmt.Body.{Body}
use Rattle.zir_tree.specs.declared.program.Prog.{Prog}
use Rattle.zir_grammar.specs.Parts.{Rest, reads, a_body, more_body}
use Rattle.zir_grammar.specs.Machine.{run}
use Rattle.zir_grammar.specs.Reading.{HasRoom}
use Rattle.zir_parse_statements.proofs.statements.body.Given as goal

abbrev pub invariant-loop-after : goal.invariant-loop-after
invariant-loop-after l = record {
  read : (most : ℕ) (k : Body → ℕ → Rest Prog) → HasRoom most k 1 l.fn.room
      → run most (reads a_body k) l.fn.tokens ≡ run most (reads (more_body l.statements l.high) (λ b h. k b (suc h))) l.rest;
  high : l.high < l.fn.room;
  rest : length l.rest < length l.fn.tokens;
}

abbrev pub decreases-loop-after : goal.decreases-loop-after
decreases-loop-after l = length l.rest
