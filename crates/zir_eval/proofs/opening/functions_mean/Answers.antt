use Rattle.zir_eval.proofs.Starting.{calls_mean}
use Rattle.zir_eval.proofs.opening.functions_mean.Goals as goal

pub returns : goal.returns
returns c = calls_mean
