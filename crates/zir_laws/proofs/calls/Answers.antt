use Rattle.zir_laws.proofs.Calling.{calls}
use Rattle.zir_laws.proofs.calls.Goals as goal

pub returns : goal.returns
returns c = calls
