use Rattle.zir_shapes.proofs.ComplexNumbers.{complex-parts-stand}
use Rattle.zir_shapes.proofs.complex_parts.Goals as goal

pub returns : goal.returns
returns c = complex-parts-stand
