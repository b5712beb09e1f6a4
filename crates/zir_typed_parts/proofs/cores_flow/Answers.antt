use Rattle.zir_typed_parts.proofs.Cores.{cores_flow}
use Rattle.zir_typed_parts.proofs.cores_flow.Goals as goal

pub returns : goal.returns
returns c = cores_flow
