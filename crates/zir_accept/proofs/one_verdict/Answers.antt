use Rattle.zir_accept.proofs.Verdicts.{one}
use Rattle.zir_accept.proofs.one_verdict.Goals as goal

pub returns : goal.returns
returns c = one c.one_verdict.ensures
