use Rattle.zir_bit_laws.proofs.Prefix.{prefixes}
use Rattle.zir_bit_laws.proofs.prefixes.Goals as goal

pub returns : goal.returns
returns c = prefixes
