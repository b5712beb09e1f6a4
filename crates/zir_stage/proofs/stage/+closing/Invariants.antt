use Rattle.std.proofs.Common.{◌+◌, ◌*◌}
use Rattle.zir_stage.specs.Standing.{shape_of, weight}
use Rattle.zir_stage.proofs.stage.+closing.Given as goal

abbrev pub decreases-Stage::close : goal.decreases-Stage::close
decreases-Stage::close l = 2 * weight (shape_of l.self.now)

abbrev pub decreases-ending::gather : goal.decreases-ending::gather
decreases-ending::gather l = 2 * (weight (shape_of l.left.now) + weight (shape_of l.right.now)) + 1
