use Rattle.std.proofs.Common.{◌≡◌, ◌≤◌, ◌<◌, ℕ, List, length, ◌+◌, ◌-◌, ◌*◌}
use Rattle.zir_tree.specs.declared.expr.Expr.{Expr}
use Rattle.zir_tree.specs.declared.program.Prog.{Prog}
use Rattle.zir_grammar.specs.Parts.{Rest, reads, a_binary, operands_of, more_exprs}
use Rattle.zir_grammar.specs.Machine.{run}
use Rattle.zir_grammar.specs.Reading.{HasRoom}
use Rattle.zir_parse_statements.specs.Parsers.{some_exprs}
use Rattle.zir_parse_statements.proofs.expressions.+expr.Given as goal

abbrev pub decreases-arguments : goal.decreases-arguments
decreases-arguments l = 32 * length l.tokens.now + 16

abbrev pub decreases-binary : goal.decreases-binary
decreases-binary l = 32 * length l.tokens.now + 4 + l.ranks

abbrev pub decreases-bracket : goal.decreases-bracket
decreases-bracket l = 32 * length l.tokens.now + 15

abbrev pub decreases-compound : goal.decreases-compound
decreases-compound l = 32 * length l.tokens.now + 1

abbrev pub decreases-converted : goal.decreases-converted
decreases-converted l = 32 * length l.tokens.now

abbrev pub decreases-in_parentheses : goal.decreases-in_parentheses
decreases-in_parentheses l = 32 * length l.tokens.now + 15

abbrev pub decreases-list : goal.decreases-list
decreases-list l = 32 * length l.tokens.now + 15

abbrev pub decreases-named : goal.decreases-named
decreases-named l = 32 * length l.tokens.now

abbrev pub decreases-posts : goal.decreases-posts
decreases-posts l = 32 * length l.tokens.now

abbrev pub decreases-primary : goal.decreases-primary
decreases-primary l = 32 * length l.tokens.now + 2

abbrev pub decreases-unary : goal.decreases-unary
decreases-unary l = 32 * length l.tokens.now + 3

abbrev pub invariant-binary-loop-op : goal.invariant-binary-loop-op
invariant-binary-loop-op l = record {
  read : (most : ℕ) (k : Expr → ℕ → Rest Prog) → HasRoom most k 1 l.fn.room
      → run most (reads (a_binary l.fn.ranks) k) l.fn.tokens ≡ run most (reads (operands_of (l.fn.ranks - 1) l.left l.height) k) l.rest;
  low : 1 ≤ l.height;
  high : l.height ≤ l.fn.room;
  rest : length l.rest < length l.fn.tokens;
}

abbrev pub decreases-binary-loop-op : goal.decreases-binary-loop-op
decreases-binary-loop-op l = length l.rest

abbrev pub invariant-list-loop-after : goal.invariant-list-loop-after
invariant-list-loop-after l = record {
  read : (most : ℕ) (k : List Expr → ℕ → Rest Prog) → HasRoom most k 1 l.fn.room
      → run most (some_exprs l.fn.enclosure k) l.fn.tokens ≡ run most (reads (more_exprs l.fn.enclosure l.items l.high) k) l.rest;
  low : 1 ≤ l.high;
  high : l.high ≤ l.fn.room;
  rest : length l.rest < length l.fn.tokens;
}

abbrev pub decreases-list-loop-after : goal.decreases-list-loop-after
decreases-list-loop-after l = length l.rest
