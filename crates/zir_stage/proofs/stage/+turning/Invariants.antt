use Rattle.std.proofs.Common.{◌+◌, ◌-◌, ◌*◌, ◌≡◌, ◌≤◌}
use Rattle.zir_flow.specs.Stages.{Going, turned_on}
use Rattle.zir_stage.specs.Standing.{shape_of, stage_of, weight}
use Rattle.zir_stage.proofs.stage.+turning.Given as goal

abbrev pub decreases-Stage::run : goal.decreases-Stage::run
decreases-Stage::run l = 6 * weight (shape_of l.self.now) + 3

abbrev pub decreases-Stage::proceed : goal.decreases-Stage::proceed
decreases-Stage::proceed l = 6 * weight (shape_of l.self.now) + 2

abbrev pub decreases-turning::proceed_with : goal.decreases-turning::proceed_with
decreases-turning::proceed_with l = 6 * (weight (shape_of l.left.now) + weight (shape_of l.right.now)) + 6

abbrev pub decreases-turning::compose : goal.decreases-turning::compose
decreases-turning::compose l = 6 * (weight (shape_of l.left.now) + weight (shape_of l.right.now)) + 5

abbrev pub decreases-turning::pull : goal.decreases-turning::pull
decreases-turning::pull l = 6 * (weight (shape_of l.left.now) + weight (shape_of l.right.now)) + 4

-- the turns so far
abbrev pub invariant-Stage::run-loop-fuel : goal.invariant-Stage::run-loop-fuel
invariant-Stage::run-loop-fuel l =
    (l.fuel ≤ l.initial.fuel) × (turned_on (l.initial.fuel - l.fuel) l.code (stage_of l.code l.initial.self) ≡ Going (stage_of l.code l.self))
    × (shape_of l.self ≡ shape_of l.initial.self)

abbrev pub decreases-Stage::run-loop-fuel : goal.decreases-Stage::run-loop-fuel
decreases-Stage::run-loop-fuel l = l.fuel
