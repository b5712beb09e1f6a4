use Rattle.zir_reader.proofs.Shaping.{elements-have-their-type}
use Rattle.zir_reader.proofs.elements_have_their_type.Goals as goal

pub returns : goal.returns
returns c ds format ty bytes closed ok = elements-have-their-type ds format ty bytes closed ok
