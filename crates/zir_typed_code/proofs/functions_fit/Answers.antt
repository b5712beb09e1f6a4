use Rattle.zir_typed_code.proofs.Functions.{functions_fit}
use Rattle.zir_typed_code.proofs.functions_fit.Goals as goal

pub returns : goal.returns
returns c = functions_fit
