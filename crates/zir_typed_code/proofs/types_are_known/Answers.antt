use Rattle.zir_typed_code.proofs.Initials.{types_are_known}
use Rattle.zir_typed_code.proofs.types_are_known.Goals as goal

pub returns : goal.returns
returns c = types_are_known
