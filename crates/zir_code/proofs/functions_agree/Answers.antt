use Rattle.zir_code.proofs.Simulation.{coded}
use Rattle.zir_code.proofs.Program.{programs_agree}
use Rattle.zir_code.proofs.functions_agree.Goals as goal

pub returns : goal.returns
returns c = programs_agree (λ top base d n l g calls t e m s has room h. coded top base n l g calls t e d m s room has h)
