use Rattle.zir_shapes.proofs.Slicing.{arrays-have}
use Rattle.zir_shapes.proofs.arrays.Goals as goal

pub returns : goal.returns
returns c = arrays-have
