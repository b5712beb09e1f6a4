use Rattle.zir_read.proofs.Verdicts.{one}
use Rattle.zir_read.proofs.one_verdict.Goals as goal

pub returns : goal.returns
returns c = one c.one_reading.ensures.tokens c.one_reading.ensures.end c.one_reading.ensures.sound c.one_reading.ensures.faults c.one_answer.ensures
