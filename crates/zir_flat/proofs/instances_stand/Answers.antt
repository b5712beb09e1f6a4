use Rattle.zir_flat.proofs.Standing.{stand}
use Rattle.zir_flat.proofs.instances_stand.Goals as goal

pub returns : goal.returns
returns c = stand
