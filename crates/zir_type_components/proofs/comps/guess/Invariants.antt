use Rattle.std.proofs.Common.{◌-◌, ◌≤◌, length}
use Rattle.zir_type_components.proofs.comps.guess.Given as goal

abbrev pub invariant-loop-low : goal.invariant-loop-low
invariant-loop-low l = l.high ≤ length l.list

abbrev pub decreases-loop-low : goal.decreases-loop-low
decreases-loop-low l = l.high - l.low
