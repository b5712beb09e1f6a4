use Rattle.zir_sound.proofs.Cores.{cores_sound}
use Rattle.zir_sound.proofs.cores_are_sound.Goals as goal

pub returns : goal.returns
returns c = cores_sound
