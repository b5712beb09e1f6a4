use Rattle.zir_print.proofs.ProgLaw.{canonical_low}
use Rattle.zir_print.proofs.laws.reads_back.Goals as goal

pub returns : goal.returns
returns c = λ most tokens p low. canonical_low low
