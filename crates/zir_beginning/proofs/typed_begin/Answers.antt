use Rattle.zir_beginning.proofs.Walking.{typed_begin}
use Rattle.zir_beginning.proofs.typed_begin.Goals as goal

pub returns : goal.returns
returns c = typed_begin
