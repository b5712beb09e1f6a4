use Rattle.std.proofs.Common.{◌≡◌, drop}
use Rattle.zir_types.specs.Scope.{array_cells}
use Rattle.zir_limits.proofs.cells.cells_of_arrays.Given as goal

-- the cells of the inner arrays
abbrev pub invariant-loop-i : goal.invariant-loop-i
invariant-loop-i l = l.cells ≡ array_cells (drop l.i l.lengths) l.element
