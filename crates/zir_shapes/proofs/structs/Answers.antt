use Rattle.zir_shapes.proofs.StructFields.{structs-have}
use Rattle.zir_shapes.proofs.structs.Goals as goal

pub returns : goal.returns
returns c = structs-have
