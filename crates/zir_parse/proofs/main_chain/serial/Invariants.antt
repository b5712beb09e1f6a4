use Rattle.std.proofs.Common.{◌≡◌, ◌≤◌, ◌<◌, ℕ, length}
use Rattle.zir_tree.specs.declared.program.Prog.{Prog}
use Rattle.zir_grammar.specs.Parts.{Left, reads, behind_main, joined_height}
use Rattle.zir_grammar.specs.Machine.{run}
use Rattle.zir_grammar.specs.Reading.{HasRoom}
use Rattle.zir_parse.specs.Main.{After, a_main_chain}
use Rattle.zir_parse.proofs.main_chain.serial.Given as goal

abbrev pub invariant-loop-at : goal.invariant-loop-at
invariant-loop-at l = record {
  read : (most : ℕ) (left : Left) (k : After Prog) → HasRoom most (λ t h. k t (joined_height left h)) 1 l.fn.room
      → run most (a_main_chain left k) l.fn.tokens ≡ run most (reads (behind_main left l.left l.height) k) l.rest;
  low : 1 ≤ l.height;
  high : l.height ≤ l.fn.room;
  rest : length l.rest < length l.fn.tokens;
}

abbrev pub decreases-loop-at : goal.decreases-loop-at
decreases-loop-at l = length l.rest
