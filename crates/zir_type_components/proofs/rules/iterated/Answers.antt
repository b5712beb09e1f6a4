use Rattle.zir_type_components.proofs.Reaching.{loop_err, loop_ok}
use Rattle.zir_type_components.proofs.rules.iterated.Goals as goal

pub returns-in_err-check_loop : goal.returns-in_err-check_loop
returns-in_err-check_loop c = λ is. loop_err _ _ _ _ _ _ _ is c.are_counts.ensures c.from_residual.ensures.1 c.in_err-check_loop.ensures

pub returns : goal.returns
returns c = λ is. rw (c.in_ok-x.ensures, c.unit.ensures) (loop_ok _ _ _ _ _ _ c.are_counts.ensures c.in_ok-check_loop.ensures)
