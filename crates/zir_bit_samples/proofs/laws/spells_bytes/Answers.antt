use Rattle.zir_bit_samples.proofs.Spelling.{spell-bits_of}
use Rattle.zir_bit_samples.proofs.laws.spells_bytes.Goals as goal

pub returns : goal.returns
returns c = spell-bits_of
