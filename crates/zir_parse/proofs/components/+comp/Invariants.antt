use Rattle.std.proofs.Common.{◌≡◌, ◌≤◌, ◌<◌, ◌+◌, ◌-◌, ◌*◌, ℕ, List, [], length}
use Rattle.zir_tree.specs.declared.comp.Comp.{Comp}
use Rattle.zir_tree.specs.declared.comp.Member.{Member}
use Rattle.zir_tree.specs.declared.program.Prog.{Prog}
use Rattle.zir_grammar.specs.Parts.{Rest, reads, a_chain, links_of, more_members}
use Rattle.zir_grammar.specs.Machine.{run}
use Rattle.zir_grammar.specs.Reading.{HasRoom}
use Rattle.zir_parse.proofs.components.+comp.Given as goal

-- a function behind another on the way down to an atom has the greater number
abbrev pub decreases-atom : goal.decreases-atom
decreases-atom l = 16 * length l.tokens.now

abbrev pub decreases-chain : goal.decreases-chain
decreases-chain l = 16 * length l.tokens.now + 1 + l.ranks

abbrev pub decreases-bound_member : goal.decreases-bound_member
decreases-bound_member l = 16 * length l.tokens.now + 4

abbrev pub decreases-run_member : goal.decreases-run_member
decreases-run_member l = 16 * length l.tokens.now + 4

abbrev pub decreases-member : goal.decreases-member
decreases-member l = 16 * length l.tokens.now + 5

abbrev pub decreases-inside_block : goal.decreases-inside_block
decreases-inside_block l = 16 * length l.tokens.now + 6

abbrev pub decreases-choice : goal.decreases-choice
decreases-choice l = 16 * length l.tokens.now + 6

abbrev pub decreases-whole_loop : goal.decreases-whole_loop
decreases-whole_loop l = 16 * length l.tokens.now + 6

abbrev pub decreases-compound : goal.decreases-compound
decreases-compound l = 16 * length l.tokens.now + 8

abbrev pub invariant-chain-loop-link : goal.invariant-chain-loop-link
invariant-chain-loop-link l = record {
  read : (most : ℕ) (k : Comp → ℕ → Rest Prog) → HasRoom most k 1 l.fn.room
      → run most (reads (a_chain l.fn.ranks) k) l.fn.tokens ≡ run most (reads (links_of (l.fn.ranks - 1) l.left l.height) k) l.rest;
  low : 1 ≤ l.height;
  high : l.height ≤ l.fn.room;
  rest : length l.rest < length l.fn.tokens;
}

abbrev pub decreases-chain-loop-link : goal.decreases-chain-loop-link
decreases-chain-loop-link l = length l.rest

abbrev pub invariant-inside_block-loop-members : goal.invariant-inside_block-loop-members
invariant-inside_block-loop-members l = record {
  read : (most : ℕ) (k : List Member → ℕ → Rest Prog) → HasRoom most k 1 l.fn.room
      → run most (reads (more_members [] 0) k) l.fn.tokens ≡ run most (reads (more_members l.members l.high) k) l.rest;
  high : l.high ≤ l.fn.room;
  rest : length l.rest ≤ length l.fn.tokens;
}

abbrev pub decreases-inside_block-loop-members : goal.decreases-inside_block-loop-members
decreases-inside_block-loop-members l = length l.rest
