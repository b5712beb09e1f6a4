use Rattle.zir_shapes.proofs.Slicing.{ranges-stand, ranges-end}
use Rattle.zir_shapes.proofs.ranges.Goals as goal

pub returns-clause-stand : goal.returns-clause-stand
returns-clause-stand c = ranges-stand

pub returns-clause-end : goal.returns-clause-end
returns-clause-end c = ranges-end
