use Rattle.std.proofs.Common.{◌≡◌, drop}
use Rattle.zir_types.specs.Needs.{fields_cells}
use Rattle.zir_limits.specs.Facts.{told}
use Rattle.zir_limits_walks.proofs.bodies.fields_cells.Given as goal

-- the cells from here on
abbrev pub invariant-loop-i : goal.invariant-loop-i
invariant-loop-i l = l.sum ≡ fields_cells (told l.facts).shapes (drop l.i l.fields)
