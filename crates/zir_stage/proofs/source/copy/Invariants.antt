use Rattle.std.proofs.Common.{◌≡◌, ◌-◌}
use Rattle.zir_flow.specs.Threads.{cells_from, written}
use Rattle.zir_stage.proofs.source.copy.Given as goal

abbrev pub invariant-loop-past : goal.invariant-loop-past
invariant-loop-past l =
    written l.initial.to (cells_from l.n l.initial.from l.other) l.initial.frame ≡ written l.to (cells_from (l.n - l._past) l.from l.other) l.frame
