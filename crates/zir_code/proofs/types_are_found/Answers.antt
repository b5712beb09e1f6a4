use Rattle.zir_code.proofs.TypesFound.{types_are_found}
use Rattle.zir_code.proofs.types_are_found.Goals as goal

pub returns : goal.returns
returns c = types_are_found
