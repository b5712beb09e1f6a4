use Rattle.zir_bit_samples.proofs.Spelling.{spell-front}
use Rattle.zir_bit_samples.proofs.laws.spells_front.Goals as goal

pub returns : goal.returns
returns c = spell-front
