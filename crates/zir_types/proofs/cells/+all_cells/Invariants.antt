use Rattle.std.proofs.Common.{length}
use Rattle.zir_types.proofs.cells.+all_cells.Given as goal

abbrev pub decreases-all_cells : goal.decreases-all_cells
decreases-all_cells l = length l.types.now
