use Rattle.zir_shapes.proofs.Slicing.{ranges-replaced}
use Rattle.zir_shapes.proofs.replaced_ranges.Goals as goal

pub returns : goal.returns
returns c = ranges-replaced
