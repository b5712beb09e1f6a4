use Rattle.std.proofs.Common.{◌≡◌, ◌≤◌, ℕ, List, [], length}
use Rattle.zir_tree.specs.declared.program.Decl.{Decl}
use Rattle.zir_tree.specs.declared.program.Prog.{Prog}
use Rattle.zir_grammar.specs.Parts.{Rest, reads, more_decls}
use Rattle.zir_grammar.specs.Machine.{run}
use Rattle.zir_grammar.specs.Reading.{HasRoom}
use Rattle.zir_parse.proofs.declarations.declarations.Given as goal

abbrev pub invariant-loop-word : goal.invariant-loop-word
invariant-loop-word l = record {
  read : (most : ℕ) (k : List Decl → ℕ → Rest Prog) → HasRoom most k 0 l.fn.room
      → run most (reads (more_decls [] 0) k) l.fn.tokens ≡ run most (reads (more_decls l.declarations l.high) k) l.rest;
  high : l.high ≤ l.fn.room;
}

abbrev pub decreases-loop-word : goal.decreases-loop-word
decreases-loop-word l = length l.rest
