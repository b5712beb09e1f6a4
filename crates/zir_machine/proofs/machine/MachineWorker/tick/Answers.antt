use Rattle.zir_machine.specs.MachineOf.{standing_of}
use Rattle.zir_machine.proofs.Machines.{call_says}
use Rattle.zir_machine.proofs.machine.MachineWorker.tick.Goals as goal

pub returns-clause-says : goal.returns-clause-says
returns-clause-says c = call_says (standing_of c.args.self.now) (standing_of c.work.new.self) c.work.result c.work.ensures.stands c.work.ensures.last
