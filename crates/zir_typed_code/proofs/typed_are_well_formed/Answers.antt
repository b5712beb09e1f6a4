use Rattle.zir_typed_code.proofs.FormsOfPrograms.{typed_well_formed}
use Rattle.zir_typed_code.proofs.typed_are_well_formed.Goals as goal

pub returns : goal.returns
returns c = typed_well_formed
