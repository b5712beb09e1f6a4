use Rattle.zir_flat.proofs.Starting.{plays}
use Rattle.zir_flat.proofs.programs_play.Goals as goal

pub returns : goal.returns
returns c = plays
