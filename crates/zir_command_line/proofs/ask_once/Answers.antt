use Rattle.zir_command_line.proofs.Commands.{asked_once}
use Rattle.zir_command_line.proofs.ask_once.Goals as goal

pub returns : goal.returns
returns c = asked_once
