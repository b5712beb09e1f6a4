use Rattle.std.proofs.Common.{◌∙◌, ap, sym, arith}
use Rattle.zir_names.specs.Touched.{both, all_of, call_of, in_expr, in_comp}
use Rattle.zir_sharing.specs.Ascending.{in_member}
use Rattle.zir_sharing.proofs.Touching.{one_part, two_parts, three_parts, rest_step, comp-Repeat, comp-While, comp-Times, comp-For, comp-If, comp-Block, comp-Pipe}
use Rattle.zir_sharing.proofs.component.+components.Goals as goal

pub touch_comp-returns-in-Repeat : goal.touch_comp-returns-in-Repeat
touch_comp-returns-in-Repeat t c =
    one_part c.touch_comp.result (in_comp c.args.functions.now c.get.result.now) (in_comp c.args.functions.now c.args.c.now) c.args.touched.now c.touch_comp.new.touched (ap (in_comp c.args.functions.now) c.in-Repeat.is ∙ comp-Repeat c.args.functions.now c.in-Repeat.inner c.in-Repeat.field-1 ∙ ap (in_comp c.args.functions.now) (sym c.get.ensures)) c.touch_comp.ensures

pub touch_comp-returns-in_ok-touch_expr-in-While : goal.touch_comp-returns-in_ok-touch_expr-in-While
touch_comp-returns-in_ok-touch_expr-in-While t c =
    two_parts c.touch_comp-in-While.result (in_expr c.args.functions.now c.in-While.e) (in_comp c.args.functions.now c.get-in-While.result.now) (in_comp c.args.functions.now c.args.c.now) c.args.touched.now c.touch_expr-in-While.new.touched c.touch_comp-in-While.new.touched
    (ap (in_comp c.args.functions.now) c.in-While.is ∙ comp-While c.args.functions.now c.in-While.field-0 c.in-While.e c.in-While.inner c.in-While.field-3 ∙ ap (λ x. both (in_expr c.args.functions.now c.in-While.e) (in_comp c.args.functions.now x)) (sym c.get-in-While.ensures))
    c.in_ok-touch_expr-in-While.ensures c.touch_comp-in-While.ensures

pub touch_comp-returns-in_ok-touch_expr-in-Times : goal.touch_comp-returns-in_ok-touch_expr-in-Times
touch_comp-returns-in_ok-touch_expr-in-Times t c =
    two_parts c.touch_comp-in-Times.result (in_expr c.args.functions.now c.in-Times.e) (in_comp c.args.functions.now c.get-in-Times.result.now) (in_comp c.args.functions.now c.args.c.now) c.args.touched.now c.touch_expr-in-Times.new.touched c.touch_comp-in-Times.new.touched
    (ap (in_comp c.args.functions.now) c.in-Times.is ∙ comp-Times c.args.functions.now c.in-Times.e c.in-Times.inner c.in-Times.field-2 ∙ ap (λ x. both (in_expr c.args.functions.now c.in-Times.e) (in_comp c.args.functions.now x)) (sym c.get-in-Times.ensures))
    c.in_ok-touch_expr-in-Times.ensures c.touch_comp-in-Times.ensures

pub touch_comp-returns-in_ok-touch_expr-in-For-2 : goal.touch_comp-returns-in_ok-touch_expr-in-For-2
touch_comp-returns-in_ok-touch_expr-in-For-2 t c =
    three_parts c.touch_comp-in-For.result (in_expr c.args.functions.now c.in-For.a) (in_expr c.args.functions.now c.in-For.n) (in_comp c.args.functions.now c.get-in-For.result.now) (in_comp c.args.functions.now c.args.c.now) c.args.touched.now c.touch_expr-in-For.new.touched c.touch_expr-in-For-2.new.touched c.touch_comp-in-For.new.touched
    (ap (in_comp c.args.functions.now) c.in-For.is ∙ comp-For c.args.functions.now c.in-For.field-0 c.in-For.a c.in-For.n c.in-For.inner c.in-For.field-4 ∙ ap (λ x. both (in_expr c.args.functions.now c.in-For.a) (both (in_expr c.args.functions.now c.in-For.n) (in_comp c.args.functions.now x))) (sym c.get-in-For.ensures))
    c.in_ok-touch_expr-in-For.ensures c.in_ok-touch_expr-in-For-2.ensures c.touch_comp-in-For.ensures

pub touch_comp-returns-in_ok-touch_comp-in-If : goal.touch_comp-returns-in_ok-touch_comp-in-If
touch_comp-returns-in_ok-touch_comp-in-If t c =
    three_parts c.touch_comp-in-If-2.result (in_expr c.args.functions.now c.in-If.e) (in_comp c.args.functions.now c.get-in-If.result.now) (in_comp c.args.functions.now c.get-in-If-2.result.now) (in_comp c.args.functions.now c.args.c.now) c.args.touched.now c.touch_expr-in-If.new.touched c.touch_comp-in-If.new.touched c.touch_comp-in-If-2.new.touched
    (ap (in_comp c.args.functions.now) c.in-If.is ∙ comp-If c.args.functions.now c.in-If.e c.in-If.inner c.in-If.other c.in-If.field-3
    ∙ ap (λ x. both (in_expr c.args.functions.now c.in-If.e) (both (in_comp c.args.functions.now x) (in_comp c.args.functions.now c.in-If.other))) (sym c.get-in-If.ensures)
    ∙ ap (λ x. both (in_expr c.args.functions.now c.in-If.e) (both (in_comp c.args.functions.now c.get-in-If.result.now) (in_comp c.args.functions.now x))) (sym c.get-in-If-2.ensures))
    c.in_ok-touch_expr-in-If.ensures c.in_ok-touch_comp-in-If.ensures c.touch_comp-in-If-2.ensures

pub touch_comp-returns-in_ok-touch_call-in-Call : goal.touch_comp-returns-in_ok-touch_call-in-Call
touch_comp-returns-in_ok-touch_call-in-Call t c =
    two_parts c.touch_exprs.result (call_of c.args.functions.now c.in-Call.f.id) (all_of (in_expr c.args.functions.now) c.as_slice.result.now) (in_comp c.args.functions.now c.args.c.now) c.args.touched.now c.touch_call-in-Call.new.touched c.touch_exprs.new.touched
    (ap (in_comp c.args.functions.now) c.in-Call.is ∙ ap (λ p. both (call_of c.args.functions.now c.in-Call.f.id) (all_of (in_expr c.args.functions.now) p)) (sym c.as_slice.ensures))
    c.in_ok-touch_call-in-Call.ensures c.touch_exprs.ensures

pub touch_comp-returns-in-Block : goal.touch_comp-returns-in-Block
touch_comp-returns-in-Block t c =
    one_part c.touch_members.result (all_of (in_member c.args.functions.now) c.as_slice-in-Block.result.now) (in_comp c.args.functions.now c.args.c.now) c.args.touched.now c.touch_members.new.touched (ap (in_comp c.args.functions.now) c.in-Block.is ∙ comp-Block c.args.functions.now c.in-Block.members c.in-Block.field-1 ∙ ap (all_of (in_member c.args.functions.now)) (sym c.as_slice-in-Block.ensures)) c.touch_members.ensures

pub touch_comp-returns-in_ok-touch_comp-in-Pipe : goal.touch_comp-returns-in_ok-touch_comp-in-Pipe
touch_comp-returns-in_ok-touch_comp-in-Pipe t c =
    two_parts c.touch_comp-in-Pipe-2.result (in_comp c.args.functions.now c.get-in-Pipe.result.now) (in_comp c.args.functions.now c.get-in-Pipe-2.result.now) (in_comp c.args.functions.now c.args.c.now) c.args.touched.now c.touch_comp-in-Pipe.new.touched c.touch_comp-in-Pipe-2.new.touched
    (ap (in_comp c.args.functions.now) c.in-Pipe.is ∙ comp-Pipe c.args.functions.now c.in-Pipe.field-0 c.in-Pipe.left c.in-Pipe.right c.in-Pipe.field-3
    ∙ ap (λ x. both (in_comp c.args.functions.now x) (in_comp c.args.functions.now c.in-Pipe.right)) (sym c.get-in-Pipe.ensures) ∙ ap (λ x. both (in_comp c.args.functions.now c.get-in-Pipe.result.now) (in_comp c.args.functions.now x)) (sym c.get-in-Pipe-2.ensures))
    c.in_ok-touch_comp-in-Pipe.ensures c.touch_comp-in-Pipe-2.ensures

pub touch_members-loop-m-preserved : goal.touch_members-loop-m-preserved
touch_members-loop-m-preserved t c =
    rest_step (in_member c.args.functions.now) c.args.ms.now c.loop-m.m-index c.m-item.result (both (all_of (in_member c.args.functions.now) c.args.ms.now) c.args.touched.now) c.loop-m.touched c.touch_member.new.touched
    (omega arith) c.m-item.is c.loop-m.invariant c.in_ok-touch_member.ensures
