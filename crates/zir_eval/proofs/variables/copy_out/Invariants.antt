use Rattle.std.proofs.Common.{◌≡◌, ℕ, pos, ◌+◌, ◌%◌, ◌^◌, ◌<◌, slice_index_or}
use Rattle.zir_expr.specs.Memory.{cell_at}
use Rattle.zir_eval.proofs.variables.copy_out.Given as goal

-- the cells so far are those from the index on
abbrev pub invariant-loop-cell : goal.invariant-loop-cell
invariant-loop-cell l =
    (l.i ≡ (l.at + l.cell-index) % 2 ^ 64) ×
    ((k : ℕ) → k < l.cell-index → slice_index_or l.cell-items k (pos 0) ≡ cell_at ((l.at + k) % 2 ^ 64) l.frame)
