use Rattle.std.proofs.Common.{◌+◌, ◌*◌}
use Rattle.zir_stage.specs.Layouts.{shape_by}
use Rattle.zir_stage.specs.Standing.{weight}
use Rattle.zir_flatten.proofs.layouts.+widening.Given as goal

abbrev pub decreases-widest : goal.decreases-widest
decreases-widest l = 2 * weight (shape_by l.a.now)

abbrev pub decreases-wider : goal.decreases-wider
decreases-wider l = 2 * (weight (shape_by l.left.now) + weight (shape_by l.right.now)) + 1
