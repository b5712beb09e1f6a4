use Rattle.zir_typed_code.proofs.Expressions.{lists_fit}
use Rattle.zir_typed_code.proofs.lists_fit.Goals as goal

pub returns : goal.returns
returns c = lists_fit
