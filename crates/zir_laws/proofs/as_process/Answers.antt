use Rattle.zir_laws.proofs.Programs.{as_process}
use Rattle.zir_laws.proofs.as_process.Goals as goal

pub returns : goal.returns
returns c = as_process
