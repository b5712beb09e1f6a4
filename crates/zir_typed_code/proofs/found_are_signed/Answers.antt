use Rattle.zir_typed_code.proofs.Signed.{found_signed}
use Rattle.zir_typed_code.proofs.found_are_signed.Goals as goal

pub returns : goal.returns
returns c = found_signed
