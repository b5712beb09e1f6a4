use Rattle.zir_typed_code.proofs.Coming.{params_known}
use Rattle.zir_typed_code.proofs.parameters_are_known.Goals as goal

pub returns : goal.returns
returns c = params_known
