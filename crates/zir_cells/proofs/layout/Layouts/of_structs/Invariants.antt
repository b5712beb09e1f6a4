use Rattle.std.proofs.Common.{◌≡◌, [], drop, map}
use Rattle.zir_cells.specs.Layout.{capped, struct_cells}
use Rattle.zir_cells.proofs.layout.Layouts.of_structs.Given as goal

abbrev pub invariant-loop-definition : goal.invariant-loop-definition
invariant-loop-definition l = map capped (struct_cells l.layouts (drop l.definition-index l.structs)) ≡ map capped (struct_cells [] l.structs)
