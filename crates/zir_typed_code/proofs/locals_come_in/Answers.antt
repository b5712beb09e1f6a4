use Rattle.zir_typed_code.proofs.Coming.{local_comes}
use Rattle.zir_typed_code.proofs.locals_come_in.Goals as goal

pub returns : goal.returns
returns c = local_comes
