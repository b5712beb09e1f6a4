use Rattle.zir_bit_laws.proofs.Cost.{costs}
use Rattle.zir_bit_laws.proofs.costs.Goals as goal

pub returns : goal.returns
returns c = costs
