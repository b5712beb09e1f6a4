use Rattle.std.specs.Prelude.{Some, None}
use Rattle.std.proofs.Common.{refl}
use Rattle.zir_machine.specs.declared.machine.Element.{Element}
use Rattle.zir_machine.specs.MachineOf.{standing_of}
use Rattle.zir_machine.specs.MachineStands.{Standing}
use Rattle.zir_machine.proofs.Machines.{process_stands, process_says, received_out}
use Rattle.zir_machine.proofs.machine.MachineWorker.process.Goals as goal

pub returns-clause-stands : goal.returns-clause-stands
returns-clause-stands c =
    let m : Standing = standing_of c.args.self.now in
    let e : Element = record { value = c.read.result; stamp = c.stamp.result } in
    process_stands m (record m { next = Some e; last = None }) (standing_of c.work.new.self) c.work.result e c.args.chunk.now c.args.i c.requires.needed refl
    (λ o at. received_out c.args.chunk.now c.args.i o c.element.result.now c.stamp.result c.read.result at c.element.ensures.value c.stamp.ensures.value c.read.ensures) c.work.ensures.stands

pub returns-clause-says : goal.returns-clause-says
returns-clause-says c =
    process_says (standing_of c.args.self.now) (standing_of c.work.new.self) c.work.result c.args.chunk.now c.args.i (returns-clause-stands c) c.work.ensures.last
