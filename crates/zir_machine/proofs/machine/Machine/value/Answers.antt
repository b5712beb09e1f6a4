use Rattle.zir_machine.specs.MachineOf.{standing_of}
use Rattle.zir_machine.proofs.Machines.{value_done}
use Rattle.zir_machine.proofs.machine.Machine.value.Goals as goal

pub returns : goal.returns
returns c h s = value_done (standing_of c.args.self.now) h c.value.result s c.requires c.value.ensures
