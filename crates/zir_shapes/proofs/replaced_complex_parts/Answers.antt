use Rattle.zir_shapes.proofs.ComplexNumbers.{complex-parts-replaced}
use Rattle.zir_shapes.proofs.replaced_complex_parts.Goals as goal

pub returns : goal.returns
returns c = complex-parts-replaced
