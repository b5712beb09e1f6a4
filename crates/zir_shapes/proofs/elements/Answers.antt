use Rattle.zir_shapes.proofs.Slicing.{elements-stand, elements-end}
use Rattle.zir_shapes.proofs.elements.Goals as goal

pub returns-clause-stand : goal.returns-clause-stand
returns-clause-stand c = elements-stand

pub returns-clause-end : goal.returns-clause-end
returns-clause-end c = elements-end
