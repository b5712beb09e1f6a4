use Rattle.zir_typed_code.proofs.Statements.{statements_fit}
use Rattle.zir_typed_code.proofs.statements_fit.Goals as goal

pub returns : goal.returns
returns c = statements_fit
