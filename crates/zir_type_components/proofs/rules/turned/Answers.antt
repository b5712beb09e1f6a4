use Rattle.zir_type_components.proofs.Reaching.{loop_err, loop_ok}
use Rattle.zir_type_components.proofs.rules.turned.Goals as goal

pub returns-in_err-check_loop : goal.returns-in_err-check_loop
returns-in_err-check_loop c = λ is. loop_err _ _ _ _ _ _ _ is c.is_condition.ensures c.from_residual.ensures.1 c.in_err-check_loop.ensures

pub returns : goal.returns
returns c = λ is. rw c.unit.ensures (loop_ok _ _ _ _ _ _ c.is_condition.ensures c.in_ok-check_loop.ensures)
