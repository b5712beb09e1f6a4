use Rattle.zir_typed_code.proofs.Functions.{signatures_are_found}
use Rattle.zir_typed_code.proofs.signatures_are_found.Goals as goal

pub returns : goal.returns
returns c = signatures_are_found
