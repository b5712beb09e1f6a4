use Rattle.std.proofs.Common.{◌+◌, ◌*◌}
use Rattle.zir_stage.specs.Layouts.{shape_by}
use Rattle.zir_stage.specs.Standing.{weight}
use Rattle.zir_stage.proofs.stage.+opening.Given as goal

abbrev pub decreases-Stage::open : goal.decreases-Stage::open
decreases-Stage::open l = 2 * weight (shape_by l.layout.now)

abbrev pub decreases-opening::open_sides : goal.decreases-opening::open_sides
decreases-opening::open_sides l = 2 * (weight (shape_by l.left.now) + weight (shape_by l.right.now)) + 1
