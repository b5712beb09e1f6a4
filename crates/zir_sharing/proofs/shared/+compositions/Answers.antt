use Rattle.std.proofs.Common.{◌∙◌, ◌+◌, ap, sym, subst, arith, drop}
use Rattle.std.specs.List.{flat_map}
use Rattle.zir_names.specs.Sharing.{joints, first_shared, or_then}
use Rattle.zir_sharing.specs.Blocks.{of_member}
use Rattle.zir_sharing.specs.Answers.{Answers}
use Rattle.zir_sharing.proofs.Conflicts.{answers_err, answers_next, shared-append, shared_items, joints-Repeat, joints-While, joints-Times, joints-For, joints-If, joints-Block, joints-Pipe}
use Rattle.zir_sharing.proofs.shared.+compositions.Goals as goal

pub check_comp-returns-in-Repeat : goal.check_comp-returns-in-Repeat
check_comp-returns-in-Repeat t c =
    rw (c.in-Repeat.is, joints-Repeat) (rw c.get.ensures at c.check_comp.ensures)

pub check_comp-returns-in-While : goal.check_comp-returns-in-While
check_comp-returns-in-While t c =
    rw (c.in-While.is, joints-While) (rw c.get-in-While.ensures at c.check_comp-in-While.ensures)

pub check_comp-returns-in-Times : goal.check_comp-returns-in-Times
check_comp-returns-in-Times t c =
    rw (c.in-Times.is, joints-Times) (rw c.get-in-Times.ensures at c.check_comp-in-Times.ensures)

pub check_comp-returns-in-For : goal.check_comp-returns-in-For
check_comp-returns-in-For t c =
    rw (c.in-For.is, joints-For) (rw c.get-in-For.ensures at c.check_comp-in-For.ensures)

pub check_comp-returns-in_err-check_comp-in-If : goal.check_comp-returns-in_err-check_comp-in-If
check_comp-returns-in_err-check_comp-in-If t c =
    rw (c.in-If.is, joints-If, shared-append) (answers_err _ _ _ _ c.from_residual.ensures.1 (rw c.get-in-If.ensures at c.in_err-check_comp-in-If.ensures))

pub check_comp-returns-in_ok-check_comp-in-If : goal.check_comp-returns-in_ok-check_comp-in-If
check_comp-returns-in_ok-check_comp-in-If t c =
    rw (c.in-If.is, joints-If, shared-append) (answers_next _ _ c.check_comp-in-If-2.result (rw c.get-in-If.ensures at c.in_ok-check_comp-in-If.ensures) (rw c.get-in-If-2.ensures at c.check_comp-in-If-2.ensures))

pub check_comp-returns-in-Block : goal.check_comp-returns-in-Block
check_comp-returns-in-Block t c =
    rw (c.in-Block.is, joints-Block) (rw c.as_slice.ensures at c.check_members.ensures)

pub check_comp-returns-in_err-check_comp-in-Pipe : goal.check_comp-returns-in_err-check_comp-in-Pipe
check_comp-returns-in_err-check_comp-in-Pipe t c =
    rw (c.in-Pipe.is, joints-Pipe, shared-append) (answers_err _ _ _ _ c.from_residual-in_err-check_comp-in-Pipe.ensures.1 (rw c.get-in-Pipe.ensures at c.in_err-check_comp-in-Pipe.ensures))

pub check_comp-returns-in_err-check_joint-in-Pipe : goal.check_comp-returns-in_err-check_joint-in-Pipe
check_comp-returns-in_err-check_joint-in-Pipe t c =
    rw (c.in-Pipe.is, joints-Pipe, shared-append) (answers_next _ _ c.from_residual-in_err-check_joint-in-Pipe.result (rw c.get-in-Pipe.ensures at c.in_ok-check_comp-in-Pipe.ensures) (answers_err _ _ _ _ c.from_residual-in_err-check_joint-in-Pipe.ensures.1 (rw (c.get-in-Pipe-2.ensures, c.get-in-Pipe-3.ensures) at c.in_err-check_joint-in-Pipe.ensures)))

pub check_comp-returns-in_ok-check_joint-in-Pipe : goal.check_comp-returns-in_ok-check_joint-in-Pipe
check_comp-returns-in_ok-check_joint-in-Pipe t c =
    rw (c.in-Pipe.is, joints-Pipe, shared-append) (answers_next _ _ c.check_comp-in-Pipe-2.result (rw c.get-in-Pipe.ensures at c.in_ok-check_comp-in-Pipe.ensures) (answers_next _ _ c.check_comp-in-Pipe-2.result (rw (c.get-in-Pipe-2.ensures, c.get-in-Pipe-3.ensures) at c.in_ok-check_joint-in-Pipe.ensures) (rw c.get-in-Pipe-4.ensures at c.check_comp-in-Pipe-2.ensures)))

pub check_members-returns-in_err-check_member : goal.check_members-returns-in_err-check_member
check_members-returns-in_err-check_member t c =
    subst (λ o. Answers o c.from_residual.result)
    (sym (c.loop-m.invariant ∙ shared_items c.args.functions.now (of_member joints) c.args.ms.now c.loop-m.m-index c.m-item.result (omega arith) c.m-item.is))
    (answers_err _ _ _ _ c.from_residual.ensures.1 c.in_err-check_member.ensures)

pub check_members-loop-m-preserved : goal.check_members-loop-m-preserved
check_members-loop-m-preserved t c =
    c.loop-m.invariant ∙ shared_items c.args.functions.now (of_member joints) c.args.ms.now c.loop-m.m-index c.m-item.result (omega arith) c.m-item.is
    ∙ ap (λ o. or_then o (first_shared c.args.functions.now (flat_map (of_member joints) (drop (c.loop-m.m-index + 1) c.args.ms.now)))) c.in_ok-check_member.ensures
