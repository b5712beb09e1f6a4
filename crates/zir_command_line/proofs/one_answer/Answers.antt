use Rattle.zir_command_line.proofs.Faulty.{answered_once}
use Rattle.zir_command_line.proofs.one_answer.Goals as goal

pub returns : goal.returns
returns c = answered_once
