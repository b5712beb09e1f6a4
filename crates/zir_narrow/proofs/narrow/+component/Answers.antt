use Rattle.zir_narrow.proofs.Told.{told_err}
use Rattle.zir_narrow.proofs.ComponentEquations.{component-Repeat, component-Pipe}
use Rattle.zir_narrow.proofs.narrow.+component.Goals as goal

pub returns-in-Repeat : goal.returns-in-Repeat
returns-in-Repeat t c =
    rw (c.in-Repeat.is, component-Repeat) (rw c.get.ensures at c.repeated.ensures)

pub returns-in_err-left-in-Pipe : goal.returns-in_err-left-in-Pipe
returns-in_err-left-in-Pipe t c =
    rw (c.in-Pipe.is, component-Pipe) (told_err _ _ _ _ c.from_residual.ensures.1 (rw c.get-in-Pipe.ensures at c.in_err-left-in-Pipe.ensures))

pub returns-in_err-check-in-Pipe : goal.returns-in_err-check-in-Pipe
returns-in_err-check-in-Pipe t c =
    rw (c.in-Pipe.is, component-Pipe, (rw c.get-in-Pipe.ensures at c.in_ok-left-in-Pipe.ensures))
    (told_err _ _ _ _ c.from_residual-in_err-check-in-Pipe.ensures.1 (rw c.is_sequence.ensures at c.in_err-check-in-Pipe.ensures))

pub returns-in_err-right-in-Pipe : goal.returns-in_err-right-in-Pipe
returns-in_err-right-in-Pipe t c =
    rw (c.in-Pipe.is, component-Pipe, (rw c.get-in-Pipe.ensures at c.in_ok-left-in-Pipe.ensures), (rw c.is_sequence.ensures at c.in_ok-check-in-Pipe.ensures))
    (told_err _ _ _ _ c.from_residual-in_err-right-in-Pipe.ensures.1 (rw c.get-in-Pipe-2.ensures at c.in_err-right-in-Pipe.ensures))

pub returns-in_ok-right-in-Pipe : goal.returns-in_ok-right-in-Pipe
returns-in_ok-right-in-Pipe t c =
    rw (
      c.in-Pipe.is,
      component-Pipe,
      (rw c.get-in-Pipe.ensures at c.in_ok-left-in-Pipe.ensures),
      (rw c.is_sequence.ensures at c.in_ok-check-in-Pipe.ensures),
      (rw c.get-in-Pipe-2.ensures at c.in_ok-right-in-Pipe.ensures),
    ) c.joined.ensures
