use Rattle.zir_shapes.proofs.StructFields.{fields-replaced}
use Rattle.zir_shapes.proofs.replaced_fields.Goals as goal

pub returns : goal.returns
returns c = fields-replaced
