use Rattle.std.proofs.Common.{◌≡◌, drop}
use Rattle.zir_limits_walks.specs.Depths.{functions_entered}
use Rattle.zir_limits_walks.proofs.depth.enter_functions.Given as goal

-- the functions from here on are entered
abbrev pub invariant-loop-k : goal.invariant-loop-k
invariant-loop-k l = l.levels ≡ functions_entered l.k (drop l.k l.bodies) l.initial.levels
