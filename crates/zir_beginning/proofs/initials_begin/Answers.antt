use Rattle.zir_beginning.proofs.Beginning.{initials_begin}
use Rattle.zir_beginning.proofs.initials_begin.Goals as goal

pub returns : goal.returns
returns c = initials_begin
