use Rattle.std.proofs.Common.{◌≡◌, ◌≤◌, ℕ, nat_le, true, List, [], ◌∷◌, length}
use Rattle.zir_tree.specs.declared.types.Field.{Field}
use Rattle.zir_tree.specs.declared.program.Prog.{Prog}
use Rattle.zir_grammar.specs.Parts.{Rest, reads, more_fields}
use Rattle.zir_grammar.specs.Machine.{least, run}
use Rattle.zir_grammar.proofs.types.more_fields.Given as goal

abbrev pub invariant-loop-after : goal.invariant-loop-after
invariant-loop-after l = record {
  read : (most : ℕ) (k : List Field → ℕ → Rest Prog) → ((fs : List Field) → nat_le (least (k fs 0)) most ≡ true)
      → run most (reads (more_fields l.fn.enclosure (l.fn.first ∷ [])) k) l.fn.tokens ≡ run most (reads (more_fields l.fn.enclosure l.fields) k) l.rest;
  rest : length l.rest ≤ length l.fn.tokens;
}

abbrev pub decreases-loop-after : goal.decreases-loop-after
decreases-loop-after l = length l.rest
