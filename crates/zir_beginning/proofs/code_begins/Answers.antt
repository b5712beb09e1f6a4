use Rattle.zir_beginning.proofs.Opening.{code_begins}
use Rattle.zir_beginning.proofs.code_begins.Goals as goal

pub returns : goal.returns
returns c = code_begins
