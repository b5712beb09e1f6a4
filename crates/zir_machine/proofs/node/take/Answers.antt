use Rattle.std.proofs.Common.{◌∙◌, sym}
use Rattle.zir_machine.specs.Standing.{state_of}
use Rattle.zir_machine.proofs.Leaves.{take_needs}
use Rattle.zir_machine.proofs.node.take.Goals as goal

pub returns-in-None-clause-step : goal.returns-in-None-clause-step
returns-in-None-clause-step c place =
    take_needs c.args.offer.now c.take.new.self place c.args.progress.now.focus (state_of c.args.progress.now c.args.store.now.items) (sym c.take.ensures.value ∙ c.in-None.is) c.take.ensures.after c.in-Begin.is
