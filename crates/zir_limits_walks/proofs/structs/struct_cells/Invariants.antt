use Rattle.std.proofs.Common.{◌≡◌, drop}
use Rattle.zir_types.specs.Scope.{all_cells, field_types}
use Rattle.zir_limits_walks.proofs.structs.struct_cells.Given as goal

-- the cells of the fields from here on
abbrev pub invariant-loop-i : goal.invariant-loop-i
invariant-loop-i l = l.sum ≡ all_cells l.shapes (field_types (drop l.i l.fields))
