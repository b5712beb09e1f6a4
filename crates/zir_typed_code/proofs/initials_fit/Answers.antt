use Rattle.zir_typed_code.proofs.Initials.{initials_fit}
use Rattle.zir_typed_code.proofs.initials_fit.Goals as goal

pub returns : goal.returns
returns c = initials_fit
