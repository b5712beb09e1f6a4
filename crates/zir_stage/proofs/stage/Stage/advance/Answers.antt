use Rattle.zir_stage.specs.Standing.{stage_of}
use Rattle.zir_stage.proofs.Composing.{came_within}
use Rattle.zir_stage.proofs.stage.Stage.advance.Goals as goal

pub returns-clause-came : goal.returns-clause-came
returns-clause-came c =
    came_within c.run.result c.args.fuel c.run.new.fuel c.args.code.now (stage_of c.args.code.now c.args.self.now)
    (stage_of c.args.code.now c.run.new.self) c.run.ensures.fuel c.run.ensures.came c.run.ensures.left
