use Rattle.std.proofs.Common.{◌≡◌, drop}
use Rattle.zir_types.specs.Scope.{array_cells, lengths_of}
use Rattle.zir_limits.proofs.cells.cells_of_written.Given as goal

-- the cells of the inner arrays
abbrev pub invariant-loop-i : goal.invariant-loop-i
invariant-loop-i l = l.cells ≡ array_cells (lengths_of (drop l.i l.dimensions)) l.element
