use Rattle.std.specs.Prelude.{List, Some, None, Err, length, take, nat_le}
use Rattle.std.proofs.Common.{refl, ap, ◌∙◌, ◌+◌, ◌-◌, sym, drop, arith}
use Rattle.std.proofs.lemmas.List.{take_rest}
use Rattle.zir_tree.specs.declared.program.Instance.{Instance}
use Rattle.zir_types.specs.declared.typed.Heading.{Heading}
use Rattle.zir_types.specs.declared.error.TypeError.TheVariants.{Instances}
use Rattle.zir_tree.specs.declared.comp.Comp.{While, Times, For, If, Block}
use Rattle.zir_type_components.specs.Calls.{makers_at, placed_instance}
use Rattle.zir_types.specs.Scope.{declare}
use Rattle.zir_types.specs.Components.{comp, recalled, made_anew, instance_from}
use Rattle.zir_types.specs.Programs.{makers}
use Rattle.zir_type_components.specs.Answers.{up_to}
use Rattle.zir_types.specs.Statements.{with_index}
use Rattle.zir_type_components.specs.Parts.{typed_of}
use Rattle.zir_type_components.specs.Calls.{walk_at}
use Rattle.zir_type_components.specs.Blocks.{gathered_at, members_of}
use Rattle.zir_type_components.specs.Sizes.{size_of, heights}
use Rattle.zir_type_components.proofs.Forms.{repeat_refused, repeat_typed, while_refused, while_body_refused, while_typed, times_refused}
use Rattle.zir_type_components.proofs.Forms.{times_body_refused, times_typed}
use Rattle.zir_type_components.proofs.Forms.{if_refused, if_first_refused, if_second_refused, if_typed, for_refused, for_count_refused}
use Rattle.zir_type_components.proofs.Forms.{for_body_refused, for_loop_typed}
use Rattle.zir_type_components.proofs.Forms.{pipe_left_refused, pipe_right_refused, pipe_typed, block_refused, block_typed}
use Rattle.zir_type_components.proofs.Scopes.{up_to-all, room_kept, long_enough}
use Rattle.zir_type_components.proofs.Sizes.{size-Repeat, size-While, size-Times, size-For, size-If, size-Block, size-Pipe, less_self, less_one}
use Rattle.zir_type_components.proofs.Sizes.{less_both, less_left, less_right, less_members, less_call, less_body, less_member, less_rest}
use Rattle.zir_type_components.proofs.Reaching.{told_refused, in_scope}
use Rattle.zir_type_components.proofs.Forms.{part_refused, part_made, part_opened, bind_refused}
use Rattle.zir_type_components.proofs.Forms.{bind_typed, run_refused, run_typed, members_step, members_refused}
use Rattle.zir_type_components.proofs.Forms.{reached_at}
use Rattle.zir_type_components.proofs.Members.{end_told, head_tail, none_left}
use Rattle.zir_type_components.proofs.Callees.{maker_at, call_none, call_args, call_agree, call_goes, no_room, body_err, body_ok}
use Rattle.zir_type_components.proofs.Parts.{moved, moved_both, moved_call, body_fine, body_refused}
use Rattle.zir_type_components.proofs.Parts.{body_left, body_room, for_room, for_fine, for_err, for_left}
use Rattle.zir_type_components.proofs.component.+components.Goals as goal

pub type_while-returns-in_err-t : goal.type_while-returns-in_err-t
type_while-returns-in_err-t t c =
    while_refused c.args.site c.args.scope.now c.args.input.now c.args.turning c.args.e.now c.args.inner.now c.args.at c.args.instances.now _ _ _ _ _ _
    c.unasked.ensures c.from_residual.ensures.1 c.in_err-t.ensures

pub type_while-returns-in_err-r : goal.type_while-returns-in_err-r
type_while-returns-in_err-r t c =
    while_body_refused c.args.site c.args.scope.now c.args.input.now c.args.turning c.args.e.now c.args.inner.now c.args.at c.args.instances.now _
    c.in_ok-t.t _ _ _ _ _ c.unasked.ensures c.in_ok-t.ensures c.from_residual-in_err-r.ensures.1 c.in_err-r.ensures

pub type_while-returns : goal.type_while-returns
type_while-returns t c =
    while_typed c.args.site c.args.scope.now c.args.input.now c.args.turning c.args.e.now c.args.inner.now c.args.at c.args.instances.now _ c.in_ok-t.t
    (typed_of c.in_ok-r.r) _ _ _ c.unasked.ensures c.in_ok-t.ensures c.in_ok-r.ensures.0 c.in_ok-r.ensures.1 c.turned.ensures

pub type_times-returns-in_err-t : goal.type_times-returns-in_err-t
type_times-returns-in_err-t t c =
    times_refused c.args.site c.args.scope.now c.args.input.now c.args.e.now c.args.inner.now c.args.at c.args.instances.now _ _ _ _ _ _ c.unasked.ensures
    c.from_residual.ensures.1 c.in_err-t.ensures

pub type_times-returns-in_err-r : goal.type_times-returns-in_err-r
type_times-returns-in_err-r t c =
    times_body_refused c.args.site c.args.scope.now c.args.input.now c.args.e.now c.args.inner.now c.args.at c.args.instances.now _ c.in_ok-t.t _ _ _ _ _
    c.unasked.ensures c.in_ok-t.ensures c.from_residual-in_err-r.ensures.1 c.in_err-r.ensures

pub type_times-returns : goal.type_times-returns
type_times-returns t c =
    times_typed c.args.site c.args.scope.now c.args.input.now c.args.e.now c.args.inner.now c.args.at c.args.instances.now _ c.in_ok-t.t
    (typed_of c.in_ok-r.r) _ _ _ c.unasked.ensures c.in_ok-t.ensures c.in_ok-r.ensures.0 c.in_ok-r.ensures.1 c.counted.ensures

pub type_if-returns-in_err-t : goal.type_if-returns-in_err-t
type_if-returns-in_err-t t c =
    if_refused c.args.site c.args.scope.now c.args.input.now c.args.e.now c.args.inner.now c.args.other.now c.args.at c.args.instances.now _ _ _ _ _ _
    c.unasked.ensures c.from_residual.ensures.1 c.in_err-t.ensures

pub type_if-returns-in_err-r : goal.type_if-returns-in_err-r
type_if-returns-in_err-r t c =
    if_first_refused c.args.site c.args.scope.now c.args.input.now c.args.e.now c.args.inner.now c.args.other.now c.args.at c.args.instances.now _
    c.in_ok-t.t _ _ _ _ _ c.unasked.ensures c.in_ok-t.ensures c.from_residual-in_err-r.ensures.1 c.in_err-r.ensures

pub type_if-returns-in_err-s : goal.type_if-returns-in_err-s
type_if-returns-in_err-s t c =
    if_second_refused c.args.site c.args.scope.now c.args.input.now c.args.e.now c.args.inner.now c.args.other.now c.args.at c.args.instances.now _
    c.in_ok-t.t
    (typed_of c.in_ok-r.r) c.type_part.new.instances _ _ _ _ _ _ c.unasked.ensures c.in_ok-t.ensures c.in_ok-r.ensures.0 c.in_ok-r.ensures.1
    c.from_residual-in_err-s.ensures.1 c.in_err-s.ensures

pub type_if-returns : goal.type_if-returns
type_if-returns t c =
    if_typed c.args.site c.args.scope.now c.args.input.now c.args.e.now c.args.inner.now c.args.other.now c.args.at c.args.instances.now _ c.in_ok-t.t
    (typed_of c.in_ok-r.r) (typed_of c.in_ok-s.s) c.type_part.new.instances _ _ _ _ c.unasked.ensures c.in_ok-t.ensures c.in_ok-r.ensures.0
    c.in_ok-r.ensures.1 c.in_ok-s.ensures.0 c.in_ok-s.ensures.1 c.chosen.ensures

pub type_for-returns-in_err-first : goal.type_for-returns-in_err-first
type_for-returns-in_err-first t c =
    for_refused c.args.site c.args.scope.now c.args.input.now c.args.x.now c.args.a.now c.args.n.now c.args.inner.now c.args.at c.args.instances.now _ _ _ _
    _ _ c.unasked.ensures c.from_residual.ensures.1 c.in_err-first.ensures

pub type_for-returns-in_err-turns : goal.type_for-returns-in_err-turns
type_for-returns-in_err-turns t c =
    for_count_refused c.args.site c.args.scope.now c.args.input.now c.args.x.now c.args.a.now c.args.n.now c.args.inner.now c.args.at c.args.instances.now _
    _ c.in_ok-first.first _ _ _ _ _ c.unasked.ensures c.in_ok-first.ensures c.unasked-2.ensures
    c.from_residual-in_err-turns.ensures.1 c.in_err-turns.ensures

pub type_for-returns-in_err-r : goal.type_for-returns-in_err-r
type_for-returns-in_err-r t c =
    for_body_refused c.args.site c.args.scope.now c.args.input.now c.args.x.now c.args.a.now c.args.n.now c.args.inner.now c.args.at c.args.instances.now _ _
    c.in_ok-first.first c.in_ok-turns.turns _ _ _ _ _ c.unasked.ensures c.in_ok-first.ensures c.unasked-2.ensures c.in_ok-turns.ensures
    c.from_residual-in_err-r.ensures.1 c.in_err-r.ensures

pub type_for-returns : goal.type_for-returns
type_for-returns t c =
    for_loop_typed c.args.site c.args.scope.now c.args.input.now c.args.x.now c.args.a.now c.args.n.now c.args.inner.now c.args.at c.args.instances.now _ _
    c.in_ok-first.first c.in_ok-turns.turns (typed_of c.in_ok-r.r) _ _ _ c.unasked.ensures c.in_ok-first.ensures c.unasked-2.ensures c.in_ok-turns.ensures
    c.in_ok-r.ensures.0 c.in_ok-r.ensures.1 c.iterated.ensures

pub type_part-returns-in_err-r : goal.type_part-returns-in_err-r
type_part-returns-in_err-r t c = part_refused (walk_at c.args.site c.args.scope.now c.args.input.now c.args.c.now c.args.instances.now) _ _ _ _ _
    c.from_residual.ensures.1 c.in_err-r.ensures

pub type_part-returns : goal.type_part-returns
type_part-returns t c = (
  part_made (walk_at c.args.site c.args.scope.now c.args.input.now c.args.c.now c.args.instances.now) c.in_ok-part.part c.in_ok-r.r _
      c.in_ok-part.ensures c.in_ok-r.ensures.0,
  c.in_ok-r.ensures.1,
)

pub type_indexed-returns-in_err-r : goal.type_indexed-returns-in_err-r
type_indexed-returns-in_err-r t c =
    part_refused (comp (makers_at c.args.site c.args.scope.now) (with_index c.args.x.now c.args.scope.now) c.args.site.around c.args.input.now
    c.args.inner.now c.args.instances.now) _ _ _ _ _ c.from_residual-in_err-r.ensures.1
    (for_err c.args.site c.args.scope.now _ c.args.input.now c.args.x.now c.args.inner.now c.args.instances.now _ c.requires c.in_ok-enter_index.ensures
    c.in_err-r.ensures)

pub type_indexed-returns : goal.type_indexed-returns
type_indexed-returns t c = (
  part_made (comp (makers_at c.args.site c.args.scope.now) (with_index c.args.x.now c.args.scope.now) c.args.site.around c.args.input.now
      c.args.inner.now c.args.instances.now) c.in_ok-part.part c.in_ok-r.r _ c.in_ok-part.ensures
      (for_fine c.args.site c.args.scope.now _ c.args.input.now c.args.x.now c.args.inner.now c.args.instances.now _ c.requires
      c.in_ok-enter_index.ensures c.in_ok-r.ensures.0),
  for_left c.args.scope.now _ _ _ c.args.x.now _ c.depth-before.ensures c.in_ok-enter_index.ensures c.in_ok-r.ensures.1 c.leave.ensures,
)

pub type_block-returns-in_err-members : goal.type_block-returns-in_err-members
type_block-returns-in_err-members t c =
    block_refused c.args.site c.args.scope.now c.args.input.now c.args.ms.now c.args.at c.args.instances.now _ _ _ _ _ c.from_residual.ensures.1
    c.in_err-members.ensures

pub type_block-returns : goal.type_block-returns
type_block-returns t c =
    block_typed c.args.site c.args.scope.now c.args.input.now c.args.ms.now c.args.at c.args.instances.now c.in_ok-members.members _ _ _ _ _
    c.in_ok-members.ensures.0 c.depth-before.ensures c.in_ok-members.ensures.1 c.leave.ensures c.blocked.ensures

pub type_comp-returns-in-Take : goal.type_comp-returns-in-Take
type_comp-returns-in-Take t c = rw c.in-Take.is (in_scope _ _ _ _ _ (c.taken.ensures _) refl)

pub type_comp-returns-in-Takes : goal.type_comp-returns-in-Takes
type_comp-returns-in-Takes t c = rw c.in-Takes.is (in_scope _ _ _ _ _ (c.taken_together.ensures _) refl)

pub type_comp-returns-in-Emit : goal.type_comp-returns-in-Emit
type_comp-returns-in-Emit t c = rw c.in-Emit.is (in_scope _ _ _ _ _ (c.type_emit.ensures _) refl)

pub type_comp-returns-in-Emits : goal.type_comp-returns-in-Emits
type_comp-returns-in-Emits t c = rw c.in-Emits.is (in_scope _ _ _ _ _ (c.type_emits.ensures _) refl)

pub type_comp-returns-in-Return : goal.type_comp-returns-in-Return
type_comp-returns-in-Return t c = rw c.in-Return.is (in_scope _ _ _ _ _ (c.type_return.ensures _) refl)

pub type_comp-returns-in-Do : goal.type_comp-returns-in-Do
type_comp-returns-in-Do t c = rw c.in-Do.is (c.type_do.ensures _)

pub type_comp-returns-in-Map : goal.type_comp-returns-in-Map
type_comp-returns-in-Map t c = rw c.in-Map.is (in_scope _ _ _ _ _ (c.type_map.ensures _) refl)

pub type_comp-returns-in-Filter : goal.type_comp-returns-in-Filter
type_comp-returns-in-Filter t c = rw c.in-Filter.is (in_scope _ _ _ _ _ (c.type_filter.ensures _) refl)

pub type_comp-returns-in-While : goal.type_comp-returns-in-While
type_comp-returns-in-While t c =
    rw c.in-While.is (moved c.args.site c.args.scope.now _ c.args.input.now _ _ _ (λ v. While c.in-While.turning c.in-While.e v c.in-While.at) _ _
    c.get-in-While.ensures c.type_while.ensures)

pub type_comp-returns-in-Times : goal.type_comp-returns-in-Times
type_comp-returns-in-Times t c =
    rw c.in-Times.is (moved c.args.site c.args.scope.now _ c.args.input.now _ _ _ (λ v. Times c.in-Times.e v c.in-Times.at) _ _ c.get-in-Times.ensures
    c.type_times.ensures)

pub type_comp-returns-in-For : goal.type_comp-returns-in-For
type_comp-returns-in-For t c =
    rw c.in-For.is (moved c.args.site c.args.scope.now _ c.args.input.now _ _ _ (λ v. For c.in-For.x c.in-For.a c.in-For.n v c.in-For.at) _ _
    c.get-in-For.ensures c.type_for.ensures)

pub type_comp-returns-in-If : goal.type_comp-returns-in-If
type_comp-returns-in-If t c =
    rw c.in-If.is (moved_both c.args.site c.args.scope.now _ c.args.input.now _ _ _ (λ v w. If c.in-If.e v w c.in-If.at) _ _ _ _ c.get-in-If.ensures
    c.get-in-If-2.ensures c.type_if.ensures)

pub type_comp-returns-in-Call : goal.type_comp-returns-in-Call
type_comp-returns-in-Call t c =
    rw c.in-Call.is (moved_call c.args.site c.args.scope.now _ c.args.input.now _ _ _ c.in-Call.f _ _ 0 c.as_slice.ensures c.type_call.ensures)

pub type_comp-returns-in-Block : goal.type_comp-returns-in-Block
type_comp-returns-in-Block t c =
    rw c.in-Block.is (moved c.args.site c.args.scope.now _ c.args.input.now _ _ _ (λ v. Block v c.in-Block.at) _ _ c.as_slice-in-Block.ensures
    c.type_block.ensures)

pub type_comp-returns-in_err-r-in-Repeat : goal.type_comp-returns-in_err-r-in-Repeat
type_comp-returns-in_err-r-in-Repeat t c =
    rw c.in-Repeat.is (repeat_refused c.args.site c.args.scope.now c.args.input.now _ c.in-Repeat.inner c.in-Repeat.at c.args.instances.now _ _ _ _ _
    c.get.ensures c.from_residual.ensures.1 c.in_err-r-in-Repeat.ensures)

pub type_comp-returns-in_ok-r-in-Repeat : goal.type_comp-returns-in_ok-r-in-Repeat
type_comp-returns-in_ok-r-in-Repeat t c =
    rw c.in-Repeat.is (repeat_typed c.args.site c.args.scope.now c.args.input.now _ c.in-Repeat.inner c.in-Repeat.at c.args.instances.now
    (typed_of c.in_ok-r-in-Repeat.r) _ _ _ c.get.ensures c.in_ok-r-in-Repeat.ensures.0 c.in_ok-r-in-Repeat.ensures.1 c.repeated.ensures)

pub type_comp-returns-in_err-r-in-Pipe : goal.type_comp-returns-in_err-r-in-Pipe
type_comp-returns-in_err-r-in-Pipe t c =
    rw c.in-Pipe.is (pipe_left_refused c.args.site c.args.scope.now c.args.input.now c.in-Pipe.link _ c.in-Pipe.left c.in-Pipe.right c.in-Pipe.at
    c.args.instances.now _ _ _ _ _ c.get-in-Pipe.ensures
    c.from_residual-in_err-r-in-Pipe.ensures.1 c.in_err-r-in-Pipe.ensures)

pub type_comp-returns-in_err-s-in-Pipe : goal.type_comp-returns-in_err-s-in-Pipe
type_comp-returns-in_err-s-in-Pipe t c =
    rw c.in-Pipe.is (pipe_right_refused c.args.site c.args.scope.now c.args.input.now c.in-Pipe.link _ c.in-Pipe.left _ c.in-Pipe.right c.in-Pipe.at
    c.args.instances.now (typed_of c.in_ok-r-in-Pipe.r) _ _ _ _ _ _ _ _ c.get-in-Pipe.ensures c.in_ok-r-in-Pipe.ensures.0 c.in_ok-r-in-Pipe.ensures.1
    c.in_ok-between-in-Pipe.ensures c.get-in-Pipe-2.ensures c.from_residual-in_err-s-in-Pipe.ensures.1 c.in_err-s-in-Pipe.ensures)

pub type_comp-returns-in_ok-s-in-Pipe : goal.type_comp-returns-in_ok-s-in-Pipe
type_comp-returns-in_ok-s-in-Pipe t c =
    rw c.in-Pipe.is (pipe_typed c.args.site c.args.scope.now c.args.input.now c.in-Pipe.link _ c.in-Pipe.left _ c.in-Pipe.right c.in-Pipe.at
    c.args.instances.now (typed_of c.in_ok-r-in-Pipe.r) (typed_of c.in_ok-s-in-Pipe.s) _ _ _ _ _ _ c.get-in-Pipe.ensures c.in_ok-r-in-Pipe.ensures.0
    c.in_ok-r-in-Pipe.ensures.1 c.in_ok-between-in-Pipe.ensures c.get-in-Pipe-2.ensures c.in_ok-s-in-Pipe.ensures.0 c.in_ok-s-in-Pipe.ensures.1
    c.piped.ensures)

pub type_members-loop-rest-init : goal.type_members-loop-rest-init
type_members-loop-rest-init t c = (
  omega arith,
  up_to-all _,
  ap (λ d. members_of (makers_at c.args.site c.args.scope.now) c.args.scope.now c.args.site.around c.args.input.now d c.args.ms.now)
      (sym (c.no_members-members.ensures c.args.instances.now)),
)

pub type_members-type_member-requires : goal.type_members-type_member-requires
type_members-type_member-requires t c = (
  omega (
    arith,
    c.decreases,
    less_member (heights (drop c.args.site.from c.args.site.comps.now)) c.args.ms.now c.loop-rest.rest.now _ _ c.m-item.result
        (head_tail c.loop-rest.rest.now
        (take (length c.loop-rest.rest.now - 1) (drop 1 c.loop-rest.rest.now)) c.m-item.result (omega (arith, c.in-len1-up.len_at_least))
        c.m-item.is (take_rest c.loop-rest.rest.now 1)) refl c.loop-rest.invariant.0,
  ),
  long_enough c.args.site.depth c.args.scope.now c.loop-rest.scope c.loop-rest.invariant.1 c.requires,
)

pub type_members-loop-rest-preserved : goal.type_members-loop-rest-preserved
type_members-loop-rest-preserved t c =
    let hr = (head_tail c.loop-rest.rest.now
    (take (length c.loop-rest.rest.now - 1) (drop 1 c.loop-rest.rest.now)) c.m-item.result (omega (arith, c.in-len1-up.len_at_least))
    c.m-item.is (take_rest c.loop-rest.rest.now 1)) in
    let p = members_step c.args.site c.args.scope.now c.loop-rest.scope c.type_member.new.scope c.args.input.now
    (gathered_at c.loop-rest.members c.loop-rest.instances) (gathered_at c.in_ok-members.members c.type_member.new.instances) c.m-item.result
    (take (length c.loop-rest.rest.now - 1) (drop 1 c.loop-rest.rest.now))
    c.loop-rest.rest.now c.is_empty-last.result _ c.requires c.loop-rest.invariant.1 (end_told _ _ c.is_empty-last.ensures) hr
    c.in_ok-members.ensures.0 c.in_ok-members.ensures.1 c.loop-rest.invariant.2
    in
    (less_rest (heights (drop c.args.site.from c.args.site.comps.now)) c.args.ms.now _ _ _ hr c.loop-rest.invariant.0, p.0, p.1)

pub type_members-returns-in_err-members : goal.type_members-returns-in_err-members
type_members-returns-in_err-members t c =
    members_refused c.args.site c.args.scope.now c.loop-rest.scope c.args.input.now (gathered_at c.loop-rest.members c.loop-rest.instances) c.m-item.result
    (take (length c.loop-rest.rest.now - 1) (drop 1 c.loop-rest.rest.now))
    c.loop-rest.rest.now c.is_empty-last.result _ _ _ _ _ _ c.requires c.loop-rest.invariant.1 (end_told _ _ c.is_empty-last.ensures)
    (head_tail c.loop-rest.rest.now
    (take (length c.loop-rest.rest.now - 1) (drop 1 c.loop-rest.rest.now)) c.m-item.result (omega (arith, c.in-len1-up.len_at_least))
    c.m-item.is (take_rest c.loop-rest.rest.now 1))
    c.from_residual.ensures.1 c.in_err-members.ensures c.loop-rest.invariant.2

pub type_members-returns : goal.type_members-returns
type_members-returns t c = (
  c.loop-rest.invariant.2 ∙ ap (members_of (makers_at c.args.site c.args.scope.now) c.loop-rest.scope c.args.site.around c.args.input.now
      (gathered_at c.loop-rest.members c.loop-rest.instances))
      (none_left c.loop-rest.rest.now (omega arith)),
  c.loop-rest.invariant.1,
)

pub type_call-returns-in_default : goal.type_call-returns-in_default
type_call-returns-in_default t c = λ n. call_none c.args.site c.args.scope.now c.args.input.now c.args.f.now n c.args.args.now c.args.instances.now
    c.args.instances.now c.args.scope.now c.args.scope.now c.in_default.ensures

pub type_call-returns-in_err-typed : goal.type_call-returns-in_err-typed
type_call-returns-in_err-typed t c = λ n. call_args c.args.site c.args.scope.now c.args.input.now c.args.f.now n c.args.args.now c.args.instances.now _ _ _
    c.in-Some.found _
    c.as_slice.result.now _ c.in-Some.ensures (c.as_slice.ensures ∙ ap (λ (h : Heading). h.types) c.head.ensures) c.from_residual.ensures.1
    c.in_err-typed.ensures

pub type_call-returns-in_err-made : goal.type_call-returns-in_err-made
type_call-returns-in_err-made t c = λ n. call_agree c.args.site c.args.scope.now c.args.input.now c.args.f.now n c.args.args.now c.args.instances.now _ _ _
    c.in-Some.found _
    c.as_slice.result.now c.as_slice-2.result.now c.in_ok-typed.typed _ c.in-Some.ensures
    (c.as_slice.ensures ∙ ap (λ (h : Heading). h.types) c.head.ensures) c.in_ok-typed.ensures
    (c.as_slice-2.ensures ∙ ap (λ (h : Heading). h.types) c.head-2.ensures) c.from_residual-in_err-made.ensures.1 c.in_err-made.ensures

pub type_call-returns-in-Some-find_instance : goal.type_call-returns-in-Some-find_instance
type_call-returns-in-Some-find_instance t c = λ n. call_goes c.args.site c.args.scope.now c.args.input.now c.args.f.now n c.args.args.now c.in_ok-made.made
    c.args.instances.now _ _ _ c.in-Some.found _
    c.as_slice.result.now c.as_slice-2.result.now c.in_ok-typed.typed c.id.result (Some (placed_instance c.in-Some-find_instance.known)) c.in-Some.ensures
    (c.as_slice.ensures ∙ ap (λ (h : Heading). h.types) c.head.ensures) c.in_ok-typed.ensures
    (c.as_slice-2.ensures ∙ ap (λ (h : Heading). h.types) c.head-2.ensures) c.in_ok-made.ensures c.id.ensures
    (c.in-Some-find_instance.ensures ∙ ap (λ l. instance_from 0 l c.id.result c.args.input.now) c.as_slice-3.ensures)
    (in_scope (recalled (placed_instance c.in-Some-find_instance.known) c.args.f.now c.in_ok-made.made c.args.instances.now) _ _ _ _ (c.recalled.ensures _)
    refl)

pub type_call-returns-then-is_full : goal.type_call-returns-then-is_full
type_call-returns-then-is_full t c = λ n. call_goes c.args.site c.args.scope.now c.args.input.now c.args.f.now n c.args.args.now c.in_ok-made.made
    c.args.instances.now c.args.instances.now c.args.scope.now c.args.scope.now c.in-Some.found (Err (Instances c.args.f.now.at))
    c.as_slice.result.now c.as_slice-2.result.now c.in_ok-typed.typed c.id.result None c.in-Some.ensures
    (c.as_slice.ensures ∙ ap (λ (h : Heading). h.types) c.head.ensures) c.in_ok-typed.ensures
    (c.as_slice-2.ensures ∙ ap (λ (h : Heading). h.types) c.head-2.ensures) c.in_ok-made.ensures c.id.ensures
    (c.in_default-find_instance.ensures ∙ ap (λ l. instance_from 0 l c.id.result c.args.input.now) c.as_slice-3.ensures)
    (no_room (maker_at c.args.site c.args.scope.now c.in-Some.found) c.args.site.around c.args.f.now c.args.input.now c.in_ok-made.made c.args.instances.now
    c.args.instances.now c.args.scope.now c.args.scope.now c.is_full.result
    (c.is_full.ensures.full ∙ ap (λ (l : List Instance). nat_le 256 (c.args.site.around + length l)) c.as_slice-4.ensures) c.if-is_full.true)

pub type_call-returns-in_err-r : goal.type_call-returns-in_err-r
type_call-returns-in_err-r t c = λ n. call_goes c.args.site c.args.scope.now c.args.input.now c.args.f.now n c.args.args.now c.in_ok-made.made
    c.args.instances.now _ _ _ c.in-Some.found _
    c.as_slice.result.now c.as_slice-2.result.now c.in_ok-typed.typed c.id.result None c.in-Some.ensures
    (c.as_slice.ensures ∙ ap (λ (h : Heading). h.types) c.head.ensures) c.in_ok-typed.ensures
    (c.as_slice-2.ensures ∙ ap (λ (h : Heading). h.types) c.head-2.ensures) c.in_ok-made.ensures c.id.ensures
    (c.in_default-find_instance.ensures ∙ ap (λ l. instance_from 0 l c.id.result c.args.input.now) c.as_slice-3.ensures)
    (body_err (maker_at c.args.site c.args.scope.now c.in-Some.found) c.args.site.around c.args.f.now c.args.input.now c.in_ok-made.made
    c.args.instances.now _ _ _ c.is_full.result _ _
    (c.is_full.ensures.full ∙ ap (λ (l : List Instance). nat_le 256 (c.args.site.around + length l)) c.as_slice-4.ensures) c.if-is_full.false
    c.from_residual-in_err-r.ensures.1 c.in_err-r.ensures)

pub type_call-returns : goal.type_call-returns
type_call-returns t c = λ n. call_goes c.args.site c.args.scope.now c.args.input.now c.args.f.now n c.args.args.now c.in_ok-made.made c.args.instances.now _
    _ _ c.in-Some.found _
    c.as_slice.result.now c.as_slice-2.result.now c.in_ok-typed.typed c.id.result None c.in-Some.ensures
    (c.as_slice.ensures ∙ ap (λ (h : Heading). h.types) c.head.ensures) c.in_ok-typed.ensures
    (c.as_slice-2.ensures ∙ ap (λ (h : Heading). h.types) c.head-2.ensures) c.in_ok-made.ensures c.id.ensures
    (c.in_default-find_instance.ensures ∙ ap (λ l. instance_from 0 l c.id.result c.args.input.now) c.as_slice-3.ensures)
    (body_ok (maker_at c.args.site c.args.scope.now c.in-Some.found) c.args.site.around c.args.f.now c.args.input.now c.in_ok-made.made c.args.instances.now
    c.type_body.new.instances _ _ _ c.is_full.result c.in_ok-r.r _
    (c.is_full.ensures.full ∙ ap (λ (l : List Instance). nat_le 256 (c.args.site.around + length l)) c.as_slice-4.ensures) c.if-is_full.false
    c.in_ok-r.ensures.0
    (in_scope (made_anew (maker_at c.args.site c.args.scope.now c.in-Some.found) c.args.f.now c.args.input.now c.in_ok-made.made (reached_at c.in_ok-r.r
    c.type_body.new.instances)) _ _ _ _
    (c.kept.ensures (up_to c.args.site.depth c.args.scope.now) (makers (up_to c.args.site.depth c.args.scope.now) (drop c.in-Some.found.next
    c.args.site.comps.now))) c.in_ok-r.ensures.1))

pub type_call-type_body-requires : goal.type_call-type_body-requires
type_call-type_body-requires t c = (
  omega (arith, c.decreases, less_body c.args.site.comps.now c.args.site.from c.args.f.now.id c.in-Some.found c.in-Some.ensures),
  (c.requires, c.is_full.ensures.room c.if-is_full.false),
)

pub type_member-returns-in_err-r-in-Bind : goal.type_member-returns-in_err-r-in-Bind
type_member-returns-in_err-r-in-Bind t c =
    rw c.in-Bind.is (bind_refused (makers_at c.args.site c.args.scope.now) c.args.scope.now c.args.site.around c.args.input.now c.args.last
    (gathered_at c.args.before c.args.instances.now) c.in-Bind.x c.in-Bind.c _ _ _ _ _
    c.from_residual.ensures.1 c.in_err-r-in-Bind.ensures)

pub type_member-returns-in_ok-r-in-Bind : goal.type_member-returns-in_ok-r-in-Bind
type_member-returns-in_ok-r-in-Bind t c =
    rw c.in-Bind.is (bind_typed (makers_at c.args.site c.args.scope.now) c.args.scope.now c.args.site.around c.args.input.now c.args.last
    (gathered_at c.args.before c.args.instances.now) c.in-Bind.x c.in-Bind.c c.in_ok-r-in-Bind.r _ _ _ _ _
    c.in_ok-r-in-Bind.ensures.0 c.in_ok-r-in-Bind.ensures.1 c.place_of.ensures (c.bound.ensures c.args.instances.now _))

pub type_member-returns-in-Var : goal.type_member-returns-in-Var
type_member-returns-in-Var t c = rw c.in-Var.is (c.declared.ensures _)

pub type_member-returns-in_err-r-in-Run : goal.type_member-returns-in_err-r-in-Run
type_member-returns-in_err-r-in-Run t c =
    rw c.in-Run.is (run_refused (makers_at c.args.site c.args.scope.now) c.args.scope.now c.args.site.around c.args.input.now c.args.last
    (gathered_at c.args.before c.args.instances.now) c.in-Run.c _ _ _ _ _
    c.from_residual-in_err-r-in-Run.ensures.1 c.in_err-r-in-Run.ensures)

pub type_member-returns-in_ok-r-in-Run : goal.type_member-returns-in_ok-r-in-Run
type_member-returns-in_ok-r-in-Run t c =
    rw c.in-Run.is (run_typed (makers_at c.args.site c.args.scope.now) c.args.scope.now c.args.site.around c.args.input.now c.args.last
    (gathered_at c.args.before c.args.instances.now) c.in-Run.c c.in_ok-r-in-Run.r _ _ _ _
    c.in_ok-r-in-Run.ensures.0 c.in_ok-r-in-Run.ensures.1 c.place_of-in-Run.ensures (c.ran.ensures _ c.args.instances.now _))

pub type_body-returns-in_err-r : goal.type_body-returns-in_err-r
type_body-returns-in_err-r t c =
    told_refused (comp (makers (up_to c.args.site.depth c.args.scope.now) (drop c.args.found.next c.args.site.comps.now))
    (declare c.args.found.comp.now.head.seen (up_to c.args.site.depth c.args.scope.now))
    (c.args.site.around + 1) c.args.input.now c.args.found.comp.now.body c.args.instances.now) _ _ _ _ _ c.from_residual-in_err-r.ensures.1
    (body_refused c.args.site (record { comps = c.args.site.comps; from = c.args.found.next; around = c.args.site.around + 1; depth = c.args.site.depth })
    c.args.scope.now _ _ c.args.found c.args.input.now _ _ c.args.instances.now _
    c.requires.inside c.in_ok-locals.ensures.left c.in_ok-attach.ensures
    (c.in_ok-params.ensures ∙ c.as_slice.ensures ∙ ap (λ h. h.seen) c.head.ensures) c.body.ensures refl refl refl c.in_err-r.ensures)

pub type_body-returns : goal.type_body-returns
type_body-returns t c = (
  part_opened (comp (makers (up_to c.args.site.depth c.args.scope.now) (drop c.args.found.next c.args.site.comps.now))
      (declare c.args.found.comp.now.head.seen (up_to c.args.site.depth c.args.scope.now)) (c.args.site.around + 1) c.args.input.now
      c.args.found.comp.now.body c.args.instances.now) c.in_ok-r.r c.unboxed.result _ c.unboxed.ensures
      (body_fine c.args.site (record { comps = c.args.site.comps; from = c.args.found.next; around = c.args.site.around + 1; depth = c.args.site.depth })
      c.args.scope.now _ _
      c.args.found c.args.input.now _ _ c.args.instances.now _ c.requires.inside c.in_ok-locals.ensures.left c.in_ok-attach.ensures
      (c.in_ok-params.ensures ∙ c.as_slice.ensures ∙ ap (λ h. h.seen) c.head.ensures) c.body.ensures refl refl refl c.in_ok-r.ensures.0),
  body_left c.args.site.depth c.args.scope.now _ _ _ _ _ _ _ c.requires.inside c.in_ok-locals.ensures.taken c.in_ok-locals.ensures.left c.in_ok-attach.ensures
      c.in_ok-r.ensures.1 c.leave.ensures c.in_ok-attach-2.ensures,
)

pub type_comp-type_part-requires : goal.type_comp-type_part-requires
type_comp-type_part-requires t c = (
  omega (
    arith,
    c.decreases,
    less_self (heights (drop c.args.site.from c.args.site.comps.now)) c.args.c.now c.in-Repeat.inner _
        (ap (size_of (heights (drop c.args.site.from c.args.site.comps.now))) c.in-Repeat.is
        ∙ size-Repeat (heights (drop c.args.site.from c.args.site.comps.now)) c.in-Repeat.inner c.in-Repeat.at)
        c.get.ensures,
  ),
  c.requires,
)

pub type_comp-type_while-requires : goal.type_comp-type_while-requires
type_comp-type_while-requires t c = (
  omega (
    arith,
    c.decreases,
    less_one (heights (drop c.args.site.from c.args.site.comps.now)) c.args.c.now c.in-While.inner _
        (ap (size_of (heights (drop c.args.site.from c.args.site.comps.now))) c.in-While.is
        ∙ size-While (heights (drop c.args.site.from c.args.site.comps.now)) c.in-While.turning c.in-While.e c.in-While.inner c.in-While.at)
        c.get-in-While.ensures,
  ),
  c.requires,
)

pub type_comp-type_times-requires : goal.type_comp-type_times-requires
type_comp-type_times-requires t c = (
  omega (
    arith,
    c.decreases,
    less_one (heights (drop c.args.site.from c.args.site.comps.now)) c.args.c.now c.in-Times.inner _
        (ap (size_of (heights (drop c.args.site.from c.args.site.comps.now))) c.in-Times.is
        ∙ size-Times (heights (drop c.args.site.from c.args.site.comps.now)) c.in-Times.e c.in-Times.inner c.in-Times.at)
        c.get-in-Times.ensures,
  ),
  c.requires,
)

pub type_comp-type_for-requires : goal.type_comp-type_for-requires
type_comp-type_for-requires t c = (
  omega (
    arith,
    c.decreases,
    less_one (heights (drop c.args.site.from c.args.site.comps.now)) c.args.c.now c.in-For.inner _
        (ap (size_of (heights (drop c.args.site.from c.args.site.comps.now))) c.in-For.is
        ∙ size-For (heights (drop c.args.site.from c.args.site.comps.now)) c.in-For.x c.in-For.a c.in-For.n c.in-For.inner c.in-For.at)
        c.get-in-For.ensures,
  ),
  c.requires,
)

pub type_comp-type_if-requires : goal.type_comp-type_if-requires
type_comp-type_if-requires t c = (
  omega (
    arith,
    c.decreases,
    less_both (heights (drop c.args.site.from c.args.site.comps.now)) c.args.c.now c.in-If.inner _ c.in-If.other _
        (ap (size_of (heights (drop c.args.site.from c.args.site.comps.now))) c.in-If.is
        ∙ size-If (heights (drop c.args.site.from c.args.site.comps.now)) c.in-If.e c.in-If.inner c.in-If.other c.in-If.at) c.get-in-If.ensures
        c.get-in-If-2.ensures,
  ),
  c.requires,
)

pub type_comp-type_call-requires : goal.type_comp-type_call-requires
type_comp-type_call-requires t c = (
  omega (arith, c.decreases, less_call (heights (drop c.args.site.from c.args.site.comps.now)) c.args.c.now c.in-Call.f _ _ c.in-Call.is),
  c.requires,
)

pub type_comp-type_block-requires : goal.type_comp-type_block-requires
type_comp-type_block-requires t c = (
  omega (
    arith,
    c.decreases,
    less_members (heights (drop c.args.site.from c.args.site.comps.now)) c.args.c.now c.in-Block.ms _
        (ap (size_of (heights (drop c.args.site.from c.args.site.comps.now))) c.in-Block.is
        ∙ size-Block (heights (drop c.args.site.from c.args.site.comps.now)) c.in-Block.ms c.in-Block.at)
        c.as_slice-in-Block.ensures,
  ),
  c.requires,
)

pub type_comp-type_part-requires-in-Pipe : goal.type_comp-type_part-requires-in-Pipe
type_comp-type_part-requires-in-Pipe t c = (
  omega (
    arith,
    c.decreases,
    less_left (heights (drop c.args.site.from c.args.site.comps.now)) c.args.c.now c.in-Pipe.left _ c.in-Pipe.right
        (ap (size_of (heights (drop c.args.site.from c.args.site.comps.now))) c.in-Pipe.is
        ∙ size-Pipe (heights (drop c.args.site.from c.args.site.comps.now)) c.in-Pipe.link c.in-Pipe.left c.in-Pipe.right c.in-Pipe.at)
        c.get-in-Pipe.ensures,
  ),
  c.requires,
)

pub type_comp-type_part-requires-in-Pipe-2 : goal.type_comp-type_part-requires-in-Pipe-2
type_comp-type_part-requires-in-Pipe-2 t c = (
  omega (
    arith,
    c.decreases,
    less_right (heights (drop c.args.site.from c.args.site.comps.now)) c.args.c.now c.in-Pipe.left c.in-Pipe.right _
        (ap (size_of (heights (drop c.args.site.from c.args.site.comps.now))) c.in-Pipe.is
        ∙ size-Pipe (heights (drop c.args.site.from c.args.site.comps.now)) c.in-Pipe.link c.in-Pipe.left c.in-Pipe.right c.in-Pipe.at)
        c.get-in-Pipe-2.ensures,
  ),
  room_kept _ _ _ c.in_ok-r-in-Pipe.ensures.1 c.requires,
)

pub type_if-type_part-requires-2 : goal.type_if-type_part-requires-2
type_if-type_part-requires-2 t c = (omega arith, room_kept _ _ _ c.in_ok-r.ensures.1 c.requires)

pub type_indexed-type_comp-requires : goal.type_indexed-type_comp-requires
type_indexed-type_comp-requires t c = (omega arith, for_room _ _ _ c.args.x.now c.requires c.in_ok-enter_index.ensures)

pub type_body-type_part-requires : goal.type_body-type_part-requires
type_body-type_part-requires t c = (
  let e = ap (size_of (heights (drop c.args.found.next c.args.site.comps.now))) c.body.ensures in omega (arith, e),
  body_room _ _ _ _ _ c.requires.inside c.in_ok-locals.ensures.left c.in_ok-attach.ensures,
)
