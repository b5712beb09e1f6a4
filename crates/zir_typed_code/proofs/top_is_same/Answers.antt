use Rattle.zir_typed_code.proofs.Functions.{top_is_same}
use Rattle.zir_typed_code.proofs.top_is_same.Goals as goal

pub returns : goal.returns
returns c = top_is_same
