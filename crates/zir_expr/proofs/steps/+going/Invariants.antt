use Rattle.std.proofs.Common.{◌≡◌, ◌-◌, drop}
use Rattle.zir_expr.specs.Running.{go_all, go_turns, go_counted}
use Rattle.zir_expr.proofs.steps.+going.Given as goal

abbrev pub invariant-run_each-loop-step : goal.invariant-run_each-loop-step
invariant-run_each-loop-step l = go_all l.steps l.base l.initial.frame ≡ go_all (drop l.step-index l.steps) l.base l.frame

abbrev pub invariant-take_turns-loop-past : goal.invariant-take_turns-loop-past
invariant-take_turns-loop-past l =
    go_turns l.left (go_all l.turn.test l.base) l.turn.cell l.base (go_all l.turn.body l.base) l.initial.frame
    ≡ go_turns (l.left - l.past) (go_all l.turn.test l.base) l.turn.cell l.base (go_all l.turn.body l.base) l.frame

abbrev pub invariant-count_turns-loop-past : goal.invariant-count_turns-loop-past
invariant-count_turns-loop-past l =
    go_counted l.turns l.initial.i l.counting.index l.base (go_all l.counting.body l.base) l.initial.frame
    ≡ go_counted (l.turns - l.past) l.i l.counting.index l.base (go_all l.counting.body l.base) l.frame
