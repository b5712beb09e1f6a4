use Rattle.std.proofs.Common.{◌∙◌, [], ap, sym, refl, arith, subst}
use Rattle.std.proofs.lemmas.List.{drop_all}
use Rattle.std.proofs.lemmas.Result.{on_ok_weaker}
use Rattle.zir_meaning.specs.Assigned.{expr_assigns, exprs_assign, assigns}
use Rattle.zir_assigned.specs.Sets.{Adds, has, uncovered}
use Rattle.zir_assigned.specs.Assigned.{member_assigns, member_declares, members_then}
use Rattle.zir_assigned.proofs.Covering.{adds_none, adds_same, opens_item, one_part, two_parts, three_parts}
use Rattle.zir_assigned.proofs.Forms.{comp-Repeat, comp-While, comp-Times, comp-For, comp-If, comp-Block, comp-Pipe}
use Rattle.zir_assigned.proofs.assigned.Assigned.+components.Goals as goal

pub join_component-returns-in-Repeat : goal.join_component-returns-in-Repeat
join_component-returns-in-Repeat t c = λ r agrees.
    one_part c.join_component.result _ (assigns r c.in-Repeat.c) (has c.args.ids.now) (has c.join_component.new.ids)
    (ap (assigns r) c.in-Repeat.is ∙ comp-Repeat r c.in-Repeat.c c.in-Repeat.field-1)
    (rw c.get.ensures at (c.join_component.ensures r agrees))

pub join_component-returns-in_ok-expression-in-While : goal.join_component-returns-in_ok-expression-in-While
join_component-returns-in_ok-expression-in-While t c = λ r agrees.
    two_parts c.join_component-in-While.result _ (expr_assigns r c.in-While.e) (assigns r c.in-While.c) (has c.args.ids.now) (has c.expression-in-While.new.ids) (has c.join_component-in-While.new.ids)
    (ap (assigns r) c.in-While.is ∙ comp-While r c.in-While.field-0 c.in-While.e c.in-While.c c.in-While.field-3)
    (c.in_ok-expression-in-While.ensures r agrees) (rw c.get-in-While.ensures at (c.join_component-in-While.ensures r agrees))

pub join_component-returns-in_ok-expression-in-Times : goal.join_component-returns-in_ok-expression-in-Times
join_component-returns-in_ok-expression-in-Times t c = λ r agrees.
    two_parts c.join_component-in-Times.result _ (expr_assigns r c.in-Times.e) (assigns r c.in-Times.c) (has c.args.ids.now) (has c.expression-in-Times.new.ids) (has c.join_component-in-Times.new.ids)
    (ap (assigns r) c.in-Times.is ∙ comp-Times r c.in-Times.e c.in-Times.c c.in-Times.field-2)
    (c.in_ok-expression-in-Times.ensures r agrees) (rw c.get-in-Times.ensures at (c.join_component-in-Times.ensures r agrees))

pub join_component-returns-in_ok-expression-in-For-2 : goal.join_component-returns-in_ok-expression-in-For-2
join_component-returns-in_ok-expression-in-For-2 t c = λ r agrees.
    three_parts c.join_component-in-For.result _ (expr_assigns r c.in-For.a) (expr_assigns r c.in-For.n) (assigns r c.in-For.c) (has c.args.ids.now) (has c.expression-in-For.new.ids) (has c.expression-in-For-2.new.ids) (has c.join_component-in-For.new.ids)
    (ap (assigns r) c.in-For.is ∙ comp-For r c.in-For.field-0 c.in-For.a c.in-For.n c.in-For.c c.in-For.field-4)
    (c.in_ok-expression-in-For.ensures r agrees) (c.in_ok-expression-in-For-2.ensures r agrees) (rw c.get-in-For.ensures at (c.join_component-in-For.ensures r agrees))

pub join_component-returns-in_ok-join_component-in-If : goal.join_component-returns-in_ok-join_component-in-If
join_component-returns-in_ok-join_component-in-If t c = λ r agrees.
    three_parts c.join_component-in-If-2.result _ (expr_assigns r c.in-If.e) (assigns r c.in-If.a) (assigns r c.in-If.b) (has c.args.ids.now) (has c.expression-in-If.new.ids) (has c.join_component-in-If.new.ids) (has c.join_component-in-If-2.new.ids)
    (ap (assigns r) c.in-If.is ∙ comp-If r c.in-If.e c.in-If.a c.in-If.b c.in-If.field-3)
    (c.in_ok-expression-in-If.ensures r agrees) (rw c.get-in-If.ensures at (c.in_ok-join_component-in-If.ensures r agrees)) (rw c.get-in-If-2.ensures at (c.join_component-in-If-2.ensures r agrees))

pub join_component-returns-in_ok-expressions-in-Call : goal.join_component-returns-in_ok-expressions-in-Call
join_component-returns-in_ok-expressions-in-Call t c = λ r agrees.
    two_parts c.instance.result _ (exprs_assign r c.in-Call.es) (r.by_instance c.in-Call.k) (has c.args.ids.now) (has c.expressions.new.ids) (has c.instance.new.ids)
    (ap (assigns r) c.in-Call.is)
    (rw c.as_slice.ensures at (c.in_ok-expressions-in-Call.ensures r agrees)) (c.instance.ensures r agrees)

pub join_component-returns-in-Block : goal.join_component-returns-in-Block
join_component-returns-in-Block t c = λ r agrees.
    one_part c.members.result _ (members_then r c.in-Block.ms []) (has c.args.ids.now) (has c.members.new.ids)
    (ap (assigns r) c.in-Block.is ∙ comp-Block r c.in-Block.ms c.in-Block.field-1)
    (rw c.as_slice-in-Block.ensures at (c.members.ensures r agrees))

pub join_component-returns-in_ok-join_component-in-Pipe : goal.join_component-returns-in_ok-join_component-in-Pipe
join_component-returns-in_ok-join_component-in-Pipe t c = λ r agrees.
    two_parts c.join_component-in-Pipe-2.result _ (assigns r c.in-Pipe.a) (assigns r c.in-Pipe.b) (has c.args.ids.now) (has c.join_component-in-Pipe.new.ids) (has c.join_component-in-Pipe-2.new.ids)
    (ap (assigns r) c.in-Pipe.is ∙ comp-Pipe r c.in-Pipe.field-0 c.in-Pipe.a c.in-Pipe.b c.in-Pipe.field-3)
    (rw c.get-in-Pipe.ensures at (c.in_ok-join_component-in-Pipe.ensures r agrees)) (rw c.get-in-Pipe-2.ensures at (c.join_component-in-Pipe-2.ensures r agrees))

pub members-loop-m-preserved : goal.members-loop-m-preserved
members-loop-m-preserved t c = λ r agrees set h.
    opens_item (member_assigns r) member_declares (λ ms. members_then r ms []) (λ x xs. refl) c.args.ms.now c.loop-m.m-index c.m-item.result (omega arith) c.m-item.is
    c.loop-m.hidden.items c.declare_member.new.hidden.items (members_then r c.args.ms.now []) (has c.args.ids.now) (has c.loop-m.ids) (has c.member.new.ids) set
    c.in_ok-declare_member.ensures (c.in_ok-member.ensures r agrees) h (λ s. c.loop-m.invariant r agrees s)

pub members-returns : goal.members-returns
members-returns t c = λ r agrees.
    on_ok_weaker c.uncover.result (adds_same (members_then r c.args.ms.now []) (has c.args.ids.now) (uncovered c.loop-m.hidden.items (has c.loop-m.ids)) (has c.uncover.new.ids)
    (c.loop-m.invariant r agrees (has c.loop-m.ids)
    (subst (λ ms. Adds (members_then r ms []) (has c.loop-m.ids) (has c.loop-m.ids)) (sym (drop_all c.loop-m.m-index c.args.ms.now (omega arith))) (adds_none (has c.loop-m.ids)))))
    c.uncover.ensures
