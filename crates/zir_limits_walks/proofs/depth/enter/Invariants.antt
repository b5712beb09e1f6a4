use Rattle.std.proofs.Common.{◌≡◌, drop}
use Rattle.zir_limits_walks.specs.Depths.{entered}
use Rattle.zir_limits_walks.proofs.depth.enter.Given as goal

-- the levels so far, and what the rest adds
abbrev pub invariant-loop-call : goal.invariant-loop-call
invariant-loop-call l = entered l.calls l.list l.initial.levels ≡ entered l.calls (drop l.call-index l.list) l.levels
