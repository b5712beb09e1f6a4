use Rattle.std.proofs.Common.{length}
use Rattle.zir_types.proofs.cells.+array_cells.Given as goal

abbrev pub decreases-array_cells : goal.decreases-array_cells
decreases-array_cells l = length l.lengths.now
