use Rattle.std.proofs.Common.{◌≡◌, ◌≤◌, ℕ, None, false, length}
use Rattle.zir_tree.specs.declared.program.Prog.{Prog}
use Rattle.zir_lex.specs.declared.token.Symbol.TheVariants as symbol
use Rattle.zir_grammar.specs.Wants.{a_sign}
use Rattle.zir_grammar.specs.Machine.{run}
use Rattle.zir_grammar.specs.Reading.{at_front, HasRoom}
use Rattle.zir_parse.specs.Main.{After, a_main_chain, behind_so_far}
use Rattle.zir_parse.proofs.main_chain.main_chain.Given as goal

abbrev pub invariant-loop-ended : goal.invariant-loop-ended
invariant-loop-ended l = record {
  read : (most : ℕ) (k : After Prog) → HasRoom most k 1 l.fn.room
      → run most (a_main_chain None k) l.fn.tokens ≡ run most (behind_so_far l.ended l.left l.height k) l.rest;
  low : 1 ≤ l.height;
  high : l.height ≤ l.fn.room;
  ends : l.ended ≡ false → at_front (a_sign symbol.Pipe) l.rest ≡ None;
}

abbrev pub decreases-loop-ended : goal.decreases-loop-ended
decreases-loop-ended l = length l.rest
