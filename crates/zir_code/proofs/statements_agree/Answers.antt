use Rattle.zir_code.proofs.Simulation.{coded}
use Rattle.zir_code.proofs.Bodies.{lists_agree}
use Rattle.zir_code.proofs.statements_agree.Goals as goal

pub returns : goal.returns
returns c = lists_agree (λ top base d n l g calls t e m s has room h. coded top base n l g calls t e d m s room has h)
