-- The text so far was read as the tokens so far.
use Rattle.std.proofs.Common.{◌+◌, ◌-◌, ◌≤◌, length}
use Rattle.zir_lex.proofs.Reading.{ReadSoFar}
use Rattle.zir_lex.proofs.lexer.read_all.Given as goal

abbrev pub invariant-loop-at : goal.invariant-loop-at
invariant-loop-at l = record {
  within : l.at ≤ length l.text;
  line : l.place.line ≤ 1 + l.at;
  column : l.place.col ≤ 1 + l.at;
  so_far : ReadSoFar l.text l.at l.tokens.items l.place l.end;
}

abbrev pub decreases-loop-at : goal.decreases-loop-at
decreases-loop-at l = length l.text - l.at
