use Rattle.std.proofs.Common.{◌≡◌, ◌≤◌, ℕ, nat_le, true, length}
use Rattle.zir_tree.specs.declared.types.TypeExpr.{TypeExpr}
use Rattle.zir_tree.specs.declared.program.Prog.{Prog}
use Rattle.zir_grammar.specs.Parts.{Rest, reads, a_type_part}
use Rattle.zir_grammar.specs.Machine.{least, run}
use Rattle.zir_grammar.specs.Reading.{nested}
use Rattle.zir_grammar.proofs.types.type_expr.Given as goal

abbrev pub invariant-loop-at : goal.invariant-loop-at
invariant-loop-at l = record {
  read : (most : ℕ) (k : TypeExpr → ℕ → Rest Prog) → ((t : TypeExpr) → nat_le (least (k t 0)) most ≡ true)
      → run most (reads a_type_part k) l.fn.tokens ≡ run most (reads a_type_part (λ t h. k (nested l.dimensions l.first t) h)) l.rest;
  rest : length l.rest ≤ length l.fn.tokens;
}

abbrev pub decreases-loop-at : goal.decreases-loop-at
decreases-loop-at l = length l.rest
