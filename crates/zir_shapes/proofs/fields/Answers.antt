use Rattle.zir_shapes.proofs.StructFields.{fields-stand}
use Rattle.zir_shapes.proofs.fields.Goals as goal

pub returns : goal.returns
returns c = fields-stand
