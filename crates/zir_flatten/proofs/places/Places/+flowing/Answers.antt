use Rattle.std.proofs.Common.{sym, subst, refl, IfOk}
use Rattle.zir_compile.specs.Names.{scope_of}
use Rattle.zir_compile.proofs.Rows.{moved_twice, same_scope}
use Rattle.zir_flatten.specs.Making.{Flowed}
use Rattle.zir_flatten.specs.Members.{Follows}
use Rattle.zir_tree.specs.declared.comp.Member.{Bind}
use Rattle.zir_flatten.proofs.Joining.{if_ok_as, row_on, row_done}
use Rattle.zir_flatten.proofs.places.Places.+flowing.Goals as goal

pub member-returns-in_ok-flow-in-Bind-clause-code : goal.member-returns-in_ok-flow-in-Bind-clause-code
member-returns-in_ok-flow-in-Bind-clause-code t c =
    λ st h.
    let same = same_scope c.args.names.now c.component.new.names c.in_ok-flow-in-Bind.ensures.same in
    let flow = subst (λ g. Flowed st g c.args.input.now c.args.row.free c.in-Bind.c c.in_ok-flow-in-Bind.flow) (sym same) (c.in_ok-flow-in-Bind.ensures.code st h) in
    let made =
    subst (λ g. IfOk c.bound.result (Follows st g c.args.input.now (Bind c.in-Bind.x c.in-Bind.c) c.args.row (scope_of c.bound.new.names))) same
    (c.bound.ensures.code st c.args.input.now c.in-Bind.x c.in-Bind.c refl flow) in
    rw c.in-Bind.is (if_ok_as _ _ c.bound.result (λ x f. f c.args.begin) made)

pub members-loop-m-preserved : goal.members-loop-m-preserved
members-loop-m-preserved t c = (
  moved_twice c.args.names.now c.loop-m.names c.member.new.names c.loop-m.invariant.0 c.in_ok-row.ensures.moved,
  λ st h. row_on st (scope_of c.member.new.names) (scope_of c.loop-m.names) c.args.input.now c.args.d c.args.ms.now c.loop-m.m-index c.m-item.result c.loop-m.row c.in_ok-row.row _ c.loop-m-test.true c.m-item.is
      (c.in_ok-row.ensures.code st h) (c.loop-m.invariant.1 st h),
)

pub members-returns-clause-code : goal.members-returns-clause-code
members-returns-clause-code t c =
    λ st p h. if_ok_as _ _ c.ended.result
    (λ made w. row_done st (scope_of c.loop-m.names) (scope_of c.args.names.now) c.args.input.now c.args.d c.args.ms.now c.loop-m.m-index c.loop-m.row p made c.loop-m-test.false (c.loop-m.invariant.1 st h) w)
    (c.ended.ensures st c.args.input.now)
