use Rattle.zir_typed_code.proofs.Statements.{bodies_fit}
use Rattle.zir_typed_code.proofs.bodies_fit.Goals as goal

pub returns : goal.returns
returns c = bodies_fit
