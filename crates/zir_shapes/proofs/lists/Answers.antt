use Rattle.zir_shapes.proofs.PartCells.{cells-list}
use Rattle.zir_shapes.proofs.lists.Goals as goal

pub returns : goal.returns
returns c = cells-list
