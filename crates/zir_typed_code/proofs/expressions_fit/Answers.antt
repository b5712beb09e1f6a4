use Rattle.zir_typed_code.proofs.Expressions.{expression_fits}
use Rattle.zir_typed_code.proofs.expressions_fit.Goals as goal

pub returns : goal.returns
returns c = expression_fits
