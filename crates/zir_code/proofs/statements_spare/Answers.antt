use Rattle.zir_code.proofs.Simulation.{coded}
use Rattle.zir_code.proofs.Bodies.{lists_spare}
use Rattle.zir_code.proofs.statements_spare.Goals as goal

pub returns : goal.returns
returns c = lists_spare (λ top base d n l g calls t e m s has room h. coded top base n l g calls t e d m s room has h)
