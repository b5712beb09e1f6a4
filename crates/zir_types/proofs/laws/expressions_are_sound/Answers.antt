use Rattle.zir_types.proofs.Sound.{sound}
use Rattle.zir_types.proofs.laws.expressions_are_sound.Goals as goal

pub returns : goal.returns
returns c = sound
