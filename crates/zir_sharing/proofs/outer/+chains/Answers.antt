use Rattle.std.proofs.Common.{◌∙◌}
use Rattle.zir_sharing.proofs.Conflicts.{answers_err, answers_next, answers_both, answers_left, first_of-append, outers-Repeat, outers-While, outers-Times, outers-For, outers-If, outers-Block, outers-Serial, outers-Parallel}
use Rattle.zir_sharing.proofs.outer.+chains.Goals as goal

pub check_comp-returns-in-Repeat : goal.check_comp-returns-in-Repeat
check_comp-returns-in-Repeat t c =
    rw (c.in-Repeat.is, outers-Repeat) (rw c.get.ensures at c.check_comp.ensures)

pub check_comp-returns-in-While : goal.check_comp-returns-in-While
check_comp-returns-in-While t c =
    rw (c.in-While.is, outers-While) (rw c.get-in-While.ensures at c.check_comp-in-While.ensures)

pub check_comp-returns-in-Times : goal.check_comp-returns-in-Times
check_comp-returns-in-Times t c =
    rw (c.in-Times.is, outers-Times) (rw c.get-in-Times.ensures at c.check_comp-in-Times.ensures)

pub check_comp-returns-in-For : goal.check_comp-returns-in-For
check_comp-returns-in-For t c =
    rw (c.in-For.is, outers-For) (rw c.get-in-For.ensures at c.check_comp-in-For.ensures)

pub check_comp-returns-in_err-check_comp-in-If : goal.check_comp-returns-in_err-check_comp-in-If
check_comp-returns-in_err-check_comp-in-If t c =
    rw (c.in-If.is, outers-If, first_of-append) (answers_err _ _ _ _ c.from_residual.ensures.1 (rw c.get-in-If.ensures at c.in_err-check_comp-in-If.ensures))

pub check_comp-returns-in_ok-check_comp-in-If : goal.check_comp-returns-in_ok-check_comp-in-If
check_comp-returns-in_ok-check_comp-in-If t c =
    rw (c.in-If.is, outers-If, first_of-append) (answers_next _ _ c.check_comp-in-If-2.result (rw c.get-in-If.ensures at c.in_ok-check_comp-in-If.ensures) (rw c.get-in-If-2.ensures at c.check_comp-in-If-2.ensures))

pub check_comp-returns-in-Block : goal.check_comp-returns-in-Block
check_comp-returns-in-Block t c =
    rw (c.in-Block.is, outers-Block) (rw c.as_slice.ensures at c.check_members.ensures)

pub check_comp-returns-in_err-check_comp-in-Serial : goal.check_comp-returns-in_err-check_comp-in-Serial
check_comp-returns-in_err-check_comp-in-Serial t c =
    rw (c.in-Pipe.is, c.in-Serial.is, outers-Serial, first_of-append) (answers_err _ _ _ _ c.from_residual-in_err-check_comp-in-Serial.ensures.1 (rw c.get-in-Serial.ensures at c.in_err-check_comp-in-Serial.ensures))

pub check_comp-returns-in_ok-check_comp-in-Serial : goal.check_comp-returns-in_ok-check_comp-in-Serial
check_comp-returns-in_ok-check_comp-in-Serial t c =
    rw (c.in-Pipe.is, c.in-Serial.is, outers-Serial, first_of-append) (answers_next _ _ c.check_comp-in-Serial-2.result (rw c.get-in-Serial.ensures at c.in_ok-check_comp-in-Serial.ensures) (rw c.get-in-Serial-2.ensures at c.check_comp-in-Serial-2.ensures))

pub check_comp-returns-in_err-check_comp-in-Parallel : goal.check_comp-returns-in_err-check_comp-in-Parallel
check_comp-returns-in_err-check_comp-in-Parallel t c =
    rw (c.in-Pipe.is, c.in-Parallel.is, outers-Parallel, first_of-append, first_of-append, ← (c.inside_of-inside.ensures ∙ (rw (c.get-in-Parallel.ensures, c.get-in-Parallel-2.ensures) at c.in_ok-own-in-Parallel.ensures))) (answers_left _ _ _ _ _ c.from_residual-in_err-check_comp-in-Parallel.ensures.1 (rw c.get-in-Parallel-3.ensures at c.in_err-check_comp-in-Parallel.ensures))

pub check_comp-returns-in_err-check_operand-in-Parallel : goal.check_comp-returns-in_err-check_operand-in-Parallel
check_comp-returns-in_err-check_operand-in-Parallel t c =
    rw (c.in-Pipe.is, c.in-Parallel.is, outers-Parallel, first_of-append, first_of-append, ← (c.inside_of-inside.ensures ∙ (rw (c.get-in-Parallel.ensures, c.get-in-Parallel-2.ensures) at c.in_ok-own-in-Parallel.ensures))) (answers_both _ _ _ c.from_residual-in_err-check_operand-in-Parallel.result (rw c.get-in-Parallel-3.ensures at c.in_ok-check_comp-in-Parallel.ensures) (answers_err _ _ _ _ c.from_residual-in_err-check_operand-in-Parallel.ensures.1 (rw c.get-in-Parallel-4.ensures at c.in_err-check_operand-in-Parallel.ensures)))

pub check_comp-returns-in_ok-check_operand-in-Parallel : goal.check_comp-returns-in_ok-check_operand-in-Parallel
check_comp-returns-in_ok-check_operand-in-Parallel t c =
    rw (c.in-Pipe.is, c.in-Parallel.is, outers-Parallel, first_of-append, first_of-append, ← (c.inside_of-inside.ensures ∙ (rw (c.get-in-Parallel.ensures, c.get-in-Parallel-2.ensures) at c.in_ok-own-in-Parallel.ensures))) (answers_both _ _ _ c.check_comp-in-Parallel-2.result (rw c.get-in-Parallel-3.ensures at c.in_ok-check_comp-in-Parallel.ensures) (answers_next _ _ c.check_comp-in-Parallel-2.result (rw c.get-in-Parallel-4.ensures at c.in_ok-check_operand-in-Parallel.ensures) (rw c.get-in-Parallel-5.ensures at c.check_comp-in-Parallel-2.ensures)))
