use Rattle.std.proofs.Common.{subst, refl}
use Rattle.zir_tree.specs.declared.comp.Comp.{Repeat, While, Times, For, Call, Block}
use Rattle.zir_names.specs.Scope.{ToldIn, closed}
use Rattle.zir_names.specs.Statements.{in_turn, indexed}
use Rattle.zir_names.specs.Components.{comp, member}
use Rattle.zir_names.proofs.Told.{told_in_err, refuses_closed}
use Rattle.zir_names.proofs.ComponentEquations.{bind_err, bind_made}
use Rattle.zir_names.proofs.ComponentEquations.{comp-Repeat, comp-While, comp-Times, comp-For, comp-If, comp-Block, comp-Pipe}
use Rattle.zir_names.proofs.component.+components.Goals as goal

pub resolve_repeat-returns-in_err-inner : goal.resolve_repeat-returns-in_err-inner
resolve_repeat-returns-in_err-inner t c =
    rw comp-Repeat (told_in_err _ _ _ _ _ c.from_residual.ensures.1 c.in_err-inner.ensures)

pub resolve_repeat-returns : goal.resolve_repeat-returns
resolve_repeat-returns t c =
    rw (comp-Repeat, c.in_ok-inner.ensures) refl

pub resolve_while-returns-in_err-e : goal.resolve_while-returns-in_err-e
resolve_while-returns-in_err-e t c =
    rw comp-While (told_in_err _ _ _ _ _ c.from_residual.ensures.1 c.in_err-e.ensures)

pub resolve_while-returns-in_err-inner : goal.resolve_while-returns-in_err-inner
resolve_while-returns-in_err-inner t c =
    rw (comp-While, c.in_ok-e.ensures) (told_in_err _ _ _ _ _ c.from_residual-in_err-inner.ensures.1 c.in_err-inner.ensures)

pub resolve_while-returns : goal.resolve_while-returns
resolve_while-returns t c =
    rw (comp-While, c.in_ok-e.ensures, c.in_ok-inner.ensures) refl

pub resolve_times-returns-in_err-e : goal.resolve_times-returns-in_err-e
resolve_times-returns-in_err-e t c =
    rw comp-Times (told_in_err _ _ _ _ _ c.from_residual.ensures.1 c.in_err-e.ensures)

pub resolve_times-returns-in_err-inner : goal.resolve_times-returns-in_err-inner
resolve_times-returns-in_err-inner t c =
    rw (comp-Times, c.in_ok-e.ensures) (told_in_err _ _ _ _ _ c.from_residual-in_err-inner.ensures.1 c.in_err-inner.ensures)

pub resolve_times-returns : goal.resolve_times-returns
resolve_times-returns t c =
    rw (comp-Times, c.in_ok-e.ensures, c.in_ok-inner.ensures) refl

pub resolve_for-returns-in_err-a : goal.resolve_for-returns-in_err-a
resolve_for-returns-in_err-a t c =
    rw (comp-For) (told_in_err _ _ _ _ _ c.from_residual.ensures.1 c.in_err-a.ensures)

pub resolve_for-returns-in_err-n : goal.resolve_for-returns-in_err-n
resolve_for-returns-in_err-n t c =
    rw (comp-For, c.in_ok-a.ensures) (told_in_err _ _ _ _ _ c.from_residual-in_err-n.ensures.1 c.in_err-n.ensures)

pub resolve_for-returns-in_err-inner : goal.resolve_for-returns-in_err-inner
resolve_for-returns-in_err-inner t c =
    rw (comp-For, c.in_ok-a.ensures, c.in_ok-n.ensures) (told_in_err (closed c.args.scope.now (comp (indexed c.args.scope.now c.args.x.now) c.args.inner.now)) _ _ _ _ c.from_residual-in_err-inner.ensures.1 (refuses_closed c.args.scope.now (comp (indexed c.args.scope.now c.args.x.now) c.args.inner.now) _ (rw c.in_ok-x.ensures.seen at c.in_err-inner.ensures)))

pub resolve_for-returns : goal.resolve_for-returns
resolve_for-returns t c =
    rw (c.in_ok-x.ensures.made, c.leave.ensures, c.len-before.ensures, comp-For, c.in_ok-a.ensures, c.in_ok-n.ensures, (rw c.in_ok-x.ensures.seen at c.in_ok-inner.ensures)) refl

pub resolve_block-returns-in_err-members : goal.resolve_block-returns-in_err-members
resolve_block-returns-in_err-members t c =
    rw comp-Block (told_in_err (closed c.args.scope.now (in_turn member c.args.scope.now c.args.ms.now)) _ _ _ _ c.from_residual.ensures.1 (refuses_closed c.args.scope.now (in_turn member c.args.scope.now c.args.ms.now) _ c.in_err-members.ensures))

pub resolve_block-returns : goal.resolve_block-returns
resolve_block-returns t c =
    rw (c.leave.ensures, c.len-before.ensures, comp-Block, c.in_ok-members.ensures) refl

pub resolve_comp-returns-in-Emit : goal.resolve_comp-returns-in-Emit
resolve_comp-returns-in-Emit t c =
    rw c.in-Emit.is c.resolve_emit.ensures

pub resolve_comp-returns-in-Emits : goal.resolve_comp-returns-in-Emits
resolve_comp-returns-in-Emits t c =
    rw c.in-Emits.is c.resolve_emits.ensures

pub resolve_comp-returns-in-Return : goal.resolve_comp-returns-in-Return
resolve_comp-returns-in-Return t c =
    rw c.in-Return.is c.resolve_return.ensures

pub resolve_comp-returns-in-Do : goal.resolve_comp-returns-in-Do
resolve_comp-returns-in-Do t c =
    rw c.in-Do.is c.resolve_do.ensures

pub resolve_comp-returns-in-Repeat : goal.resolve_comp-returns-in-Repeat
resolve_comp-returns-in-Repeat t c =
    rw c.in-Repeat.is (subst (λ v. ToldIn (comp c.args.scope.now (Repeat v c.in-Repeat.at)) c.resolve_repeat.result c.resolve_repeat.new.scope) c.get.ensures c.resolve_repeat.ensures)

pub resolve_comp-returns-in-While : goal.resolve_comp-returns-in-While
resolve_comp-returns-in-While t c =
    rw c.in-While.is (subst (λ v. ToldIn (comp c.args.scope.now (While c.in-While.turning c.in-While.e v c.in-While.at)) c.resolve_while.result c.resolve_while.new.scope) c.get-in-While.ensures c.resolve_while.ensures)

pub resolve_comp-returns-in-Times : goal.resolve_comp-returns-in-Times
resolve_comp-returns-in-Times t c =
    rw c.in-Times.is (subst (λ v. ToldIn (comp c.args.scope.now (Times c.in-Times.e v c.in-Times.at)) c.resolve_times.result c.resolve_times.new.scope) c.get-in-Times.ensures c.resolve_times.ensures)

pub resolve_comp-returns-in-For : goal.resolve_comp-returns-in-For
resolve_comp-returns-in-For t c =
    rw c.in-For.is (subst (λ v. ToldIn (comp c.args.scope.now (For c.in-For.x c.in-For.a c.in-For.n v c.in-For.at)) c.resolve_for.result c.resolve_for.new.scope) c.get-in-For.ensures c.resolve_for.ensures)

pub resolve_comp-returns-in-Map : goal.resolve_comp-returns-in-Map
resolve_comp-returns-in-Map t c =
    rw c.in-Map.is c.resolve_map.ensures

pub resolve_comp-returns-in-Filter : goal.resolve_comp-returns-in-Filter
resolve_comp-returns-in-Filter t c =
    rw c.in-Filter.is c.resolve_filter.ensures

pub resolve_comp-returns-in-Call : goal.resolve_comp-returns-in-Call
resolve_comp-returns-in-Call t c =
    rw c.in-Call.is (subst (λ v. ToldIn (comp c.args.scope.now (Call c.in-Call.f c.in-Call.n v)) c.resolve_call.result c.args.scope.now) c.as_slice.ensures c.resolve_call.ensures)

pub resolve_comp-returns-in-Block : goal.resolve_comp-returns-in-Block
resolve_comp-returns-in-Block t c =
    rw c.in-Block.is (subst (λ v. ToldIn (comp c.args.scope.now (Block v c.in-Block.at)) c.resolve_block.result c.resolve_block.new.scope) c.as_slice-in-Block.ensures c.resolve_block.ensures)

pub resolve_comp-returns-in_err-inner-in-If : goal.resolve_comp-returns-in_err-inner-in-If
resolve_comp-returns-in_err-inner-in-If t c =
    rw (c.in-If.is, comp-If, c.in_ok-e-in-If.ensures) (told_in_err _ _ _ _ _ c.from_residual-in_err-inner-in-If.ensures.1 (rw c.get-in-If.ensures at c.in_err-inner-in-If.ensures))

pub resolve_comp-returns-in_err-other-in-If : goal.resolve_comp-returns-in_err-other-in-If
resolve_comp-returns-in_err-other-in-If t c =
    rw (c.in-If.is, comp-If, c.in_ok-e-in-If.ensures, (rw c.get-in-If.ensures at c.in_ok-inner-in-If.ensures)) (told_in_err _ _ _ _ _ c.from_residual-in_err-other-in-If.ensures.1 (rw c.get-in-If-2.ensures at c.in_err-other-in-If.ensures))

pub resolve_comp-returns-in_ok-other-in-If : goal.resolve_comp-returns-in_ok-other-in-If
resolve_comp-returns-in_ok-other-in-If t c =
    rw (c.in-If.is, comp-If, c.in_ok-e-in-If.ensures, (rw c.get-in-If.ensures at c.in_ok-inner-in-If.ensures), (rw c.get-in-If-2.ensures at c.in_ok-other-in-If.ensures)) refl

pub resolve_comp-returns-in_err-left-in-Pipe : goal.resolve_comp-returns-in_err-left-in-Pipe
resolve_comp-returns-in_err-left-in-Pipe t c =
    rw (c.in-Pipe.is, comp-Pipe) (told_in_err _ _ _ _ _ c.from_residual-in_err-left-in-Pipe.ensures.1 (rw c.get-in-Pipe.ensures at c.in_err-left-in-Pipe.ensures))

pub resolve_comp-returns-in_err-right-in-Pipe : goal.resolve_comp-returns-in_err-right-in-Pipe
resolve_comp-returns-in_err-right-in-Pipe t c =
    rw (c.in-Pipe.is, comp-Pipe, (rw c.get-in-Pipe.ensures at c.in_ok-left-in-Pipe.ensures)) (told_in_err _ _ _ _ _ c.from_residual-in_err-right-in-Pipe.ensures.1 (rw c.get-in-Pipe-2.ensures at c.in_err-right-in-Pipe.ensures))

pub resolve_comp-returns-in_ok-right-in-Pipe : goal.resolve_comp-returns-in_ok-right-in-Pipe
resolve_comp-returns-in_ok-right-in-Pipe t c =
    rw (c.in-Pipe.is, comp-Pipe, (rw c.get-in-Pipe.ensures at c.in_ok-left-in-Pipe.ensures), (rw c.get-in-Pipe-2.ensures at c.in_ok-right-in-Pipe.ensures)) refl

pub resolve_bind-returns-in_err-c : goal.resolve_bind-returns-in_err-c
resolve_bind-returns-in_err-c t c =
    bind_err c.args.scope.now c.args.x.now c.args.c.now _ _ _ _ _ c.in_ok-x.ensures c.from_residual-in_err-c.ensures.1 c.in_err-c.ensures

pub resolve_bind-returns : goal.resolve_bind-returns
resolve_bind-returns t c =
    bind_made c.args.scope.now c.args.x.now c.args.c.now _ _ _ _ _ _ c.in_ok-x.ensures c.in_ok-c.ensures c.in_ok-open.ensures c.into_inner-c.ensures

pub resolve_comp-returns-in_err-e-in-If : goal.resolve_comp-returns-in_err-e-in-If
resolve_comp-returns-in_err-e-in-If t c =
    rw (c.in-If.is, comp-If) (told_in_err _ _ _ _ _ c.from_residual.ensures.1 c.in_err-e-in-If.ensures)
