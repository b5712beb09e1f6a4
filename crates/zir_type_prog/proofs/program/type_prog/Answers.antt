use Rattle.zir_type_expressions.proofs.Steps.{told_ok}
use Rattle.zir_types.proofs.Told.{told_err}
use Rattle.zir_type_prog.proofs.program.type_prog.Goals as goal

pub returns-in_err-declared : goal.returns-in_err-declared
returns-in_err-declared c = told_err _ _ _ _ c.from_residual.ensures.1 (rw c.as_slice.ensures at c.in_err-declared.ensures)

pub returns : goal.returns
returns c = told_ok _ _ _ _ (rw c.as_slice.ensures at c.in_ok-declared.ensures) c.finish.ensures
