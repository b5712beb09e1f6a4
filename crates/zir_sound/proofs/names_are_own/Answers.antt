use Rattle.zir_sound.proofs.Numbers.{names_own}
use Rattle.zir_sound.proofs.names_are_own.Goals as goal

pub returns : goal.returns
returns c = names_own
