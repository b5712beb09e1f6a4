use Rattle.zir_place_laws.proofs.Rebuilt.{prog_moved}
use Rattle.zir_place_laws.proofs.laws.places_alone.Goals as goal

pub returns : goal.returns
returns c = λ ts us p h same is. prog_moved ts us p h same is
