use Rattle.std.proofs.Common.{◌≡◌, drop}
use Rattle.zir_types.specs.Needs.{vars_cells}
use Rattle.zir_limits.specs.Facts.{told}
use Rattle.zir_limits_walks.proofs.bodies.vars_cells.Given as goal

-- the cells from here on
abbrev pub invariant-loop-i : goal.invariant-loop-i
invariant-loop-i l = l.sum ≡ vars_cells (told l.facts).shapes (drop l.i l.vars)
