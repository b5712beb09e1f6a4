use Rattle.zir_shapes.proofs.Slicing.{elements-replaced}
use Rattle.zir_shapes.proofs.replaced_elements.Goals as goal

pub returns : goal.returns
returns c = elements-replaced
