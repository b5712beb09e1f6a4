use Rattle.zir_typed_code.proofs.Known.{values_known}
use Rattle.zir_typed_code.proofs.values_are_known.Goals as goal

pub returns : goal.returns
returns c = values_known
