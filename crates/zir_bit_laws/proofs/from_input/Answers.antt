use Rattle.zir_bit_laws.proofs.Inputs.{from_input-trace}
use Rattle.zir_bit_laws.proofs.from_input.Goals as goal

pub returns : goal.returns
returns c = from_input-trace
