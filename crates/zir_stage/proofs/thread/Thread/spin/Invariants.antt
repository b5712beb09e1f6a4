use Rattle.std.proofs.Common.{◌-◌, ◌≤◌}
use Rattle.zir_stage.specs.Coming.{Went}
use Rattle.zir_stage.proofs.thread.Thread.spin.Given as goal

abbrev pub invariant-loop-fuel : goal.invariant-loop-fuel
invariant-loop-fuel l = (l.fuel ≤ l.initial.fuel) × Went l.code (l.initial.fuel - l.fuel) l.initial.self l.self

abbrev pub decreases-loop-fuel : goal.decreases-loop-fuel
decreases-loop-fuel l = l.fuel
