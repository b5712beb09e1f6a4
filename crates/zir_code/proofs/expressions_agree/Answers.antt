use Rattle.zir_code.proofs.Simulation.{coded}
use Rattle.zir_code.proofs.expressions_agree.Goals as goal

pub returns : goal.returns
returns c top base d n l g fa t e m s h r holds = coded top base n l g fa t e d m s r h holds
