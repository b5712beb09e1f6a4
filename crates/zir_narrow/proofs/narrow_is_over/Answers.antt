use Rattle.zir_narrow.proofs.Narrowed.{narrowed-is}
use Rattle.zir_narrow.proofs.narrow_is_over.Goals as goal

pub returns : goal.returns
returns c = narrowed-is
