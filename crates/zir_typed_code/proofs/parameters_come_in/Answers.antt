use Rattle.zir_typed_code.proofs.Coming.{parameters_come}
use Rattle.zir_typed_code.proofs.parameters_come_in.Goals as goal

pub returns : goal.returns
returns c = parameters_come
