use Rattle.std.proofs.Common.{◌≡◌, ◌∙◌, ap, sym, subst, List, [], ◌∷◌, ◌++◌, ◌+◌, max, drop, take, length, append-nil, append_assoc, ◌≤◌, arith}
use Rattle.std.specs.Prelude.{Some, None}
use Rattle.zir_tree.specs.declared.types.Ty.{Ty}
use Rattle.zir_tree.specs.declared.comp.Comp.{Comp, Repeat, While, Times, For, If, Call, Block, Pipe}
use Rattle.zir_tree.specs.declared.comp.Member.{Member}
use Rattle.zir_tree.specs.declared.types.Base.TheVariants.{Int32}
use Rattle.zir_types.specs.declared.scope.Seen.{Seen}
use Rattle.zir_types.specs.Kinds.{scalar}
use Rattle.zir_types.specs.Scope.{Visible, variable, cells_in}
use Rattle.zir_types.specs.Known.{first_some, or_unit}
use Rattle.zir_types.specs.Needs.{counted}
use Rattle.zir_types.specs.Measures.{in_expr, in_comp, in_link, links}
use Rattle.zir_limits_walks.specs.declared.found.Walked.{Walked}
use Rattle.zir_limits_walks.specs.declared.found.Members.{Members}
use Rattle.zir_limits.specs.Facts.{CoreFacts, told, sight}
use Rattle.zir_limits.specs.Notes.{noted}
use Rattle.zir_limits_walks.proofs.Joining.{led_by, if_whole, pipe_whole}
use Rattle.zir_limits_walks.specs.Components.{walked, either, piped, Walks, member_seen, member_measures, members_next, members_measures}
use Rattle.zir_limits.proofs.Noted.{noted_two, noted_next, noted-none}
use Rattle.zir_limits.proofs.Rows.{of_greater, at_place, cells_same}
use Rattle.zir_limits_walks.proofs.Steps.{pipe_need, take_front, drop_past}
use Rattle.zir_limits_walks.proofs.ComponentEquations.{found, known, nothing_more, walked-Repeat, in-Repeat, walked-While, in-While, walked-Times, in-Times, walked-For, in-For, behind_index, no_members}
use Rattle.zir_limits_walks.proofs.ComponentEquations.{walked-Block, in-Block}
use Rattle.zir_limits_walks.proofs.component.+components.Goals as goal

pub walk_repeat-returns : goal.walk_repeat-returns
walk_repeat-returns t c =
    let f : CoreFacts = told c.args.facts.now in
    let vs : List Seen = c.args.scope.now in
    let g : Visible = sight f vs in
    let a : Ty = c.args.a.now in
    let i : Comp = c.args.inner.now in
    λ at. (
      ap (found c.in_ok-inner.inner.emits None) c.counted.ensures ∙ ap (λ (w : Walked). found w.emits None (counted (w.need + 3))) c.in_ok-inner.ensures.0 ∙ sym (walked-Repeat f vs a i at),
      c.in_ok-inner.ensures.1 ∙ ap (λ ms. noted ms c.args.notes.now) (sym (in-Repeat f vs a i at)),
      c.in_ok-inner.ensures.2,
    )

pub walk_while-returns : goal.walk_while-returns
walk_while-returns t c =
    let f : CoreFacts = told c.args.facts.now in
    let vs : List Seen = c.args.scope.now in
    let g : Visible = sight f vs in
    let a : Ty = c.args.a.now in
    let i : Comp = c.args.inner.now in
    λ turning at. (
      (λ j. found c.in_ok-inner.inner.emits (Some (c.scalar.ensures j)) (c.counted.ensures j))
          ∙ ap (λ (w : Walked). found w.emits nothing_more (counted (w.need + 3))) c.in_ok-inner.ensures.0 ∙ sym (walked-While f vs a turning c.args.e.now i at),
      noted_two (in_expr g c.args.e.now) (in_comp f.instances g a i) c.args.notes.now c.note_expr.new.notes c.walk_comp.new.notes c.in_ok-note_expr.ensures c.in_ok-inner.ensures.1
          ∙ ap (λ ms. noted ms c.args.notes.now) (sym (in-While f vs a turning c.args.e.now i at)),
      c.in_ok-inner.ensures.2,
    )

pub walk_times-returns : goal.walk_times-returns
walk_times-returns t c =
    let f : CoreFacts = told c.args.facts.now in
    let vs : List Seen = c.args.scope.now in
    let g : Visible = sight f vs in
    let a : Ty = c.args.a.now in
    let i : Comp = c.args.inner.now in
    λ at. (
      (λ j. found c.in_ok-inner.inner.emits (Some (c.scalar.ensures j)) (c.counted.ensures j))
          ∙ ap (λ (w : Walked). found w.emits nothing_more (counted (w.need + 3))) c.in_ok-inner.ensures.0 ∙ sym (walked-Times f vs a c.args.e.now i at),
      noted_two (in_expr g c.args.e.now) (in_comp f.instances g a i) c.args.notes.now c.note_expr.new.notes c.walk_comp.new.notes c.in_ok-note_expr.ensures c.in_ok-inner.ensures.1
          ∙ ap (λ ms. noted ms c.args.notes.now) (sym (in-Times f vs a c.args.e.now i at)),
      c.in_ok-inner.ensures.2,
    )

pub walk_then-returns : goal.walk_then-returns
walk_then-returns t c =
    let f : CoreFacts = told c.args.facts.now in
    let vs : List Seen = c.args.scope.now in
    let a : Ty = c.args.a.now in
    led_by f vs a (in_expr (sight f vs) c.args.e.now) c.args.inner.now c.args.notes.now c.note_expr.new.notes c.walk_comp.new.notes c.walk_comp.new.scope c.walk_comp.result
    c.in_ok-note_expr.ensures c.walk_comp.ensures

pub walk_else-returns : goal.walk_else-returns
walk_else-returns t c =
    let f : CoreFacts = told c.args.facts.now in (
      (λ j. found (c.first_some.ensures j) c.args.first.value (of_greater c.greater-2.ensures c.expr_need.ensures c.greater.ensures j))
          ∙ ap (either f c.args.e.now c.args.first) c.in_ok-other.ensures.0,
      c.in_ok-other.ensures.1,
      c.in_ok-other.ensures.2,
    )

pub walk_left-returns : goal.walk_left-returns
walk_left-returns t c =
    let f : CoreFacts = told c.args.facts.now in
    let vs : List Seen = c.args.scope.now in
    let a : Ty = c.args.a.now in
    led_by f vs a (in_link c.args.link (links c.args.left.now) c.args.at) c.args.left.now c.args.notes.now c.note_link.new.notes c.walk_comp.new.notes c.walk_comp.new.scope c.walk_comp.result
    c.note_link.ensures c.walk_comp.ensures

pub walk_right-returns : goal.walk_right-returns
walk_right-returns t c =
    let f : CoreFacts = told c.args.facts.now in
    let vs : List Seen = c.args.scope.now in
    let r : Comp = c.args.right.now in
    let ty = c.link_type-between.ensures in (
      (λ j. found c.in_ok-right.right.emits (c.first_some.ensures j) (pipe_need _ _ c.saturating_add-both.ensures c.counted.ensures j))
          ∙ ap (piped c.args.first) (c.in_ok-right.ensures.0 ∙ ap (λ x. walked f vs x r) ty),
      c.in_ok-right.ensures.1 ∙ ap (λ x. noted (in_comp f.instances (sight f vs) x r) c.args.notes.now) ty,
      c.in_ok-right.ensures.2,
    )

pub walk_for-returns : goal.walk_for-returns
walk_for-returns t c =
    let f : CoreFacts = told c.args.facts.now in
    let vs : List Seen = c.args.scope.now in
    let g : Visible = sight f vs in
    let a : Ty = c.args.a.now in
    let i : Comp = c.args.inner.now in
    let opened = c.in_ok-declare.ensures ∙ ap (λ x. vs ++ variable c.args.x.now.id x ∷ []) c.scalar.ensures in
    let inside = c.in_ok-inner.ensures.0 ∙ ap (λ s. walked f s a i) opened in
    λ at. (
      (λ j. found c.in_ok-inner.inner.emits (Some (c.scalar-2.ensures j)) (c.counted.ensures j))
          ∙ ap (λ (w : Walked). found w.emits nothing_more (counted (w.need + 3))) inside ∙ sym (walked-For f vs a c.args.x.now c.args.e.now c.args.n.now i at),
      noted_two (in_expr g c.args.e.now ++ in_expr g c.args.n.now) (in_comp f.instances (sight f (behind_index c.args.x.now vs)) a i)
          c.args.notes.now c.note_expr-2.new.notes c.walk_comp.new.notes
          (noted_two (in_expr g c.args.e.now) (in_expr g c.args.n.now) c.args.notes.now c.note_expr.new.notes c.note_expr-2.new.notes c.in_ok-note_expr.ensures c.in_ok-note_expr-2.ensures)
          (c.in_ok-inner.ensures.1 ∙ ap (λ s. noted (in_comp f.instances (sight f s) a i) c.note_expr-2.new.notes) opened)
          ∙ ap (λ ms. noted ms c.args.notes.now) (sym (in-For f vs a c.args.x.now c.args.e.now c.args.n.now i at)),
      c.leave.ensures ∙ ap (λ n. take n c.walk_comp.new.scope) c.len-before.ensures ∙ ap (take (length vs)) (c.in_ok-inner.ensures.2 ∙ opened)
          ∙ take_front vs (variable c.args.x.now.id (scalar Int32) ∷ []),
    )

pub walk_comp-returns-in-Take : goal.walk_comp-returns-in-Take
walk_comp-returns-in-Take t c =
    let f : CoreFacts = told c.args.facts.now in
    let vs : List Seen = c.args.scope.now in
    let g : Visible = sight f vs in
    let a : Ty = c.args.a.now in
    rw c.in-Take.is (c.walk_take.ensures f vs c.args.notes.now c.in-Take.field-0)

pub walk_comp-returns-in-Takes : goal.walk_comp-returns-in-Takes
walk_comp-returns-in-Takes t c =
    let f : CoreFacts = told c.args.facts.now in
    let vs : List Seen = c.args.scope.now in
    let g : Visible = sight f vs in
    let a : Ty = c.args.a.now in
    rw c.in-Takes.is (c.walk_takes.ensures vs)

pub walk_comp-returns-in-Emit : goal.walk_comp-returns-in-Emit
walk_comp-returns-in-Emit t c =
    let f : CoreFacts = told c.args.facts.now in
    let vs : List Seen = c.args.scope.now in
    let g : Visible = sight f vs in
    let a : Ty = c.args.a.now in
    rw c.in-Emit.is (c.walk_emit.ensures a)

pub walk_comp-returns-in-Emits : goal.walk_comp-returns-in-Emits
walk_comp-returns-in-Emits t c =
    let f : CoreFacts = told c.args.facts.now in
    let vs : List Seen = c.args.scope.now in
    let g : Visible = sight f vs in
    let a : Ty = c.args.a.now in
    rw c.in-Emits.is (c.walk_emits.ensures a)

pub walk_comp-returns-in-Return : goal.walk_comp-returns-in-Return
walk_comp-returns-in-Return t c =
    let f : CoreFacts = told c.args.facts.now in
    let vs : List Seen = c.args.scope.now in
    let g : Visible = sight f vs in
    let a : Ty = c.args.a.now in
    rw c.in-Return.is (c.walk_return.ensures a c.in-Return.field-1)

pub walk_comp-returns-in-Do : goal.walk_comp-returns-in-Do
walk_comp-returns-in-Do t c =
    let f : CoreFacts = told c.args.facts.now in
    let vs : List Seen = c.args.scope.now in
    let g : Visible = sight f vs in
    let a : Ty = c.args.a.now in
    rw c.in-Do.is (c.walk_do.ensures a c.in-Do.field-1)

pub walk_comp-returns-in-Map : goal.walk_comp-returns-in-Map
walk_comp-returns-in-Map t c =
    let f : CoreFacts = told c.args.facts.now in
    let vs : List Seen = c.args.scope.now in
    let g : Visible = sight f vs in
    let a : Ty = c.args.a.now in
    rw c.in-Map.is (c.walk_map.ensures vs a c.in-Map.field-0)

pub walk_comp-returns-in-Filter : goal.walk_comp-returns-in-Filter
walk_comp-returns-in-Filter t c =
    let f : CoreFacts = told c.args.facts.now in
    let vs : List Seen = c.args.scope.now in
    let g : Visible = sight f vs in
    let a : Ty = c.args.a.now in
    rw c.in-Filter.is (c.walk_filter.ensures vs c.in-Filter.field-0)

pub walk_comp-returns-in-Call : goal.walk_comp-returns-in-Call
walk_comp-returns-in-Call t c =
    let f : CoreFacts = told c.args.facts.now in
    let vs : List Seen = c.args.scope.now in
    let g : Visible = sight f vs in
    let a : Ty = c.args.a.now in
    rw c.in-Call.is (subst (λ v. Walks f vs a (Call c.in-Call.f c.in-Call.k v) c.args.notes.now c.walk_call.new.notes vs c.walk_call.result) c.as_slice.ensures (c.walk_call.ensures a))

pub walk_comp-returns-in-Repeat : goal.walk_comp-returns-in-Repeat
walk_comp-returns-in-Repeat t c =
    let f : CoreFacts = told c.args.facts.now in
    let vs : List Seen = c.args.scope.now in
    let g : Visible = sight f vs in
    let a : Ty = c.args.a.now in
    rw c.in-Repeat.is (subst (λ v. Walks f vs a (Repeat v c.in-Repeat.field-1) c.args.notes.now c.walk_repeat.new.notes c.walk_repeat.new.scope c.walk_repeat.result) c.get.ensures (c.walk_repeat.ensures c.in-Repeat.field-1))

pub walk_comp-returns-in-While : goal.walk_comp-returns-in-While
walk_comp-returns-in-While t c =
    let f : CoreFacts = told c.args.facts.now in
    let vs : List Seen = c.args.scope.now in
    let g : Visible = sight f vs in
    let a : Ty = c.args.a.now in
    rw c.in-While.is (subst (λ v. Walks f vs a (While c.in-While.field-0 c.in-While.e v c.in-While.field-3) c.args.notes.now c.walk_while.new.notes c.walk_while.new.scope c.walk_while.result) c.get-in-While.ensures (c.walk_while.ensures c.in-While.field-0 c.in-While.field-3))

pub walk_comp-returns-in-Times : goal.walk_comp-returns-in-Times
walk_comp-returns-in-Times t c =
    let f : CoreFacts = told c.args.facts.now in
    let vs : List Seen = c.args.scope.now in
    let g : Visible = sight f vs in
    let a : Ty = c.args.a.now in
    rw c.in-Times.is (subst (λ v. Walks f vs a (Times c.in-Times.e v c.in-Times.field-2) c.args.notes.now c.walk_times.new.notes c.walk_times.new.scope c.walk_times.result) c.get-in-Times.ensures (c.walk_times.ensures c.in-Times.field-2))

pub walk_comp-returns-in-For : goal.walk_comp-returns-in-For
walk_comp-returns-in-For t c =
    let f : CoreFacts = told c.args.facts.now in
    let vs : List Seen = c.args.scope.now in
    let g : Visible = sight f vs in
    let a : Ty = c.args.a.now in
    rw c.in-For.is (subst (λ v. Walks f vs a (For c.in-For.x c.in-For.e c.in-For.n v c.in-For.field-4) c.args.notes.now c.walk_for.new.notes c.walk_for.new.scope c.walk_for.result) c.get-in-For.ensures (c.walk_for.ensures c.in-For.field-4))

pub walk_comp-returns-in-Block : goal.walk_comp-returns-in-Block
walk_comp-returns-in-Block t c =
    let f : CoreFacts = told c.args.facts.now in
    let vs : List Seen = c.args.scope.now in
    let g : Visible = sight f vs in
    let a : Ty = c.args.a.now in
    rw c.in-Block.is (subst (λ v. Walks f vs a (Block v c.in-Block.field-1) c.args.notes.now c.walk_block.new.notes c.walk_block.new.scope c.walk_block.result) c.as_slice-in-Block.ensures (c.walk_block.ensures c.in-Block.field-1))

pub walk_comp-returns-in_ok-first-in-If : goal.walk_comp-returns-in_ok-first-in-If
walk_comp-returns-in_ok-first-in-If t c =
    let f : CoreFacts = told c.args.facts.now in
    let vs : List Seen = c.args.scope.now in
    let a : Ty = c.args.a.now in
    rw c.in-If.is (subst (λ v. Walks f vs a (If c.in-If.e c.in-If.inner v c.in-If.field-3) c.args.notes.now c.walk_else.new.notes c.walk_else.new.scope c.walk_else.result) c.get-in-If-2.ensures
    (subst (λ v. Walks f vs a (If c.in-If.e v c.get-in-If-2.result.now c.in-If.field-3) c.args.notes.now c.walk_else.new.notes c.walk_else.new.scope c.walk_else.result) c.get-in-If.ensures
    (if_whole f vs a c.in-If.e c.get-in-If.result.now c.get-in-If-2.result.now c.in-If.field-3 c.args.notes.now c.walk_then.new.notes c.walk_else.new.notes c.walk_then.new.scope c.walk_else.new.scope
    c.in_ok-first-in-If.first c.walk_else.result c.in_ok-first-in-If.ensures.0 c.in_ok-first-in-If.ensures.1 c.in_ok-first-in-If.ensures.2 c.walk_else.ensures)))

pub walk_comp-returns-in_ok-led-in-Pipe : goal.walk_comp-returns-in_ok-led-in-Pipe
walk_comp-returns-in_ok-led-in-Pipe t c =
    let f : CoreFacts = told c.args.facts.now in
    let vs : List Seen = c.args.scope.now in
    let a : Ty = c.args.a.now in
    rw c.in-Pipe.is (subst (λ v. Walks f vs a (Pipe c.in-Pipe.link c.in-Pipe.left v c.in-Pipe.at) c.args.notes.now c.walk_right.new.notes c.walk_right.new.scope c.walk_right.result) c.get-in-Pipe-2.ensures
    (subst (λ v. Walks f vs a (Pipe c.in-Pipe.link v c.get-in-Pipe-2.result.now c.in-Pipe.at) c.args.notes.now c.walk_right.new.notes c.walk_right.new.scope c.walk_right.result) c.get-in-Pipe.ensures
    (pipe_whole f vs a c.in-Pipe.link c.get-in-Pipe.result.now c.get-in-Pipe-2.result.now c.in-Pipe.at c.args.notes.now c.walk_left.new.notes c.walk_right.new.notes c.walk_left.new.scope c.walk_right.new.scope
    c.in_ok-led-in-Pipe.led c.walk_right.result c.in_ok-led-in-Pipe.ensures.0 c.in_ok-led-in-Pipe.ensures.1 c.in_ok-led-in-Pipe.ensures.2 c.walk_right.ensures)))

pub walk_member-returns-in-Bind : goal.walk_member-returns-in-Bind
walk_member-returns-in-Bind t c =
    rw c.in-Bind.is (c.walk_bind.ensures)

pub walk_member-returns-in-Var : goal.walk_member-returns-in-Var
walk_member-returns-in-Var t c =
    rw c.in-Var.is (c.walk_var.ensures c.args.a.now)

pub walk_member-returns-in-Run : goal.walk_member-returns-in-Run
walk_member-returns-in-Run t c =
    rw c.in-Run.is (c.walk_run.ensures)

pub walk_run-returns : goal.walk_run-returns
walk_run-returns t c =
    let f : CoreFacts = told c.args.facts.now in
    let vs : List Seen = c.args.scope.now in
    let g : Visible = sight f vs in
    let a : Ty = c.args.a.now in
    let w = c.in_ok-walked.ensures in (
      (λ j. known (c.first_some.ensures j) c.in_ok-walked.walked.value c.args.so_far.cells (c.greater.ensures j))
          ∙ ap (λ (w : Walked). known (first_some c.args.so_far.emits w.emits) w.value c.args.so_far.cells (max c.args.so_far.most w.need)) w.0,
      w.1,
      w.2 ∙ sym (append-nil vs),
    )

pub walk_bind-returns : goal.walk_bind-returns
walk_bind-returns t c =
    let f : CoreFacts = told c.args.facts.now in
    let vs : List Seen = c.args.scope.now in
    let g : Visible = sight f vs in
    let a : Ty = c.args.a.now in
    let w = c.in_ok-walked.ensures in
    let ty = c.in_ok-ty.ensures ∙ ap (λ (w : Walked). or_unit w.value) w.0 in
    let held = cells_same _ _ _ _ _ c.cells-held.ensures c.shapes.ensures ty in (
      (λ j. known (c.first_some.ensures j) c.in_ok-walked.walked.value ((c.counted.ensures ∙ ap (λ k. counted (c.args.so_far.cells + k)) held) j) (c.greater.ensures j))
          ∙ ap (λ (w : Walked). known (first_some c.args.so_far.emits w.emits) w.value
          (counted (c.args.so_far.cells + cells_in f.shapes (or_unit (walked f vs a c.args.c.now).value))) (max c.args.so_far.most w.need)) w.0,
      w.1,
      c.in_ok-declare.ensures ∙ ap (λ s. s ++ variable c.args.x.now.id c.in_ok-ty.ty ∷ []) w.2 ∙ ap (λ y. vs ++ variable c.args.x.now.id y ∷ []) ty,
    )

pub walk_block-loop-m-preserved : goal.walk_block-loop-m-preserved
walk_block-loop-m-preserved t c =
    let f : CoreFacts = told c.args.facts.now in
    let a : Ty = c.args.a.now in
    let ms : List Member = c.args.ms.now in
    let m : Member = c.m-item.result in
    let vs : List Seen = c.loop-m.scope in
    let rest : List Member = drop (c.loop-m.m-index + 1) ms in
    let here : drop c.loop-m.m-index ms ≡ m ∷ rest = at_place ms c.loop-m.m-index m c.loop-m-test.true c.m-item.is in
    let step = c.in_ok-so_far.ensures in
    let held = c.loop-m.invariant in
    record {
      known =
          held.known ∙ ap (λ l. members_next f vs a c.loop-m.so_far l) here
          ∙ ap (λ n. members_next f (vs ++ member_seen f vs a m) a n rest) (sym step.0) ∙ ap (λ s. members_next f s a c.in_ok-so_far.so_far rest) (sym step.2);
      noted_ =
          held.noted_ ∙ ap (λ l. noted (members_measures f vs a l) c.loop-m.notes) here
          ∙ noted_next (member_measures f vs a m) (members_measures f (vs ++ member_seen f vs a m) a rest) c.loop-m.notes c.walk_member.new.notes step.1
          ∙ ap (λ s. noted (members_measures f s a rest) c.walk_member.new.notes) (sym step.2);
      seen = (held.seen.0 ++ member_seen f vs a m, step.2 ∙ ap (λ s. s ++ member_seen f vs a m) held.seen.1 ∙ append_assoc c.args.scope.now held.seen.0 (member_seen f vs a m));
    }

pub walk_block-returns : goal.walk_block-returns
walk_block-returns t c =
    let f : CoreFacts = told c.args.facts.now in
    let vs : List Seen = c.args.scope.now in
    let a : Ty = c.args.a.now in
    let ms : List Member = c.args.ms.now in
    let end_ : Members = c.loop-m.so_far in
    let held = c.loop-m.invariant in
    let past : length ms ≤ c.loop-m.m-index = omega arith in
    let here : drop c.loop-m.m-index ms ≡ [] = drop_past ms c.loop-m.m-index past in
    let all : members_next f vs a no_members ms ≡ end_ =
    ap (λ x. members_next f vs a (known None (Some x) 0 0) ms) (sym c.scalar.ensures) ∙ held.known ∙ ap (λ l. members_next f c.loop-m.scope a end_ l) here in
    λ at. (
      ap (found end_.emits end_.value) c.counted.ensures ∙ ap (λ (m : Members). found m.emits m.value (counted (m.cells + m.most))) (sym all) ∙ sym (walked-Block f vs a ms at),
      sym (held.noted_ ∙ ap (λ l. noted (members_measures f c.loop-m.scope a l) c.loop-m.notes) here ∙ noted-none c.loop-m.notes)
          ∙ ap (λ xs. noted xs c.args.notes.now) (sym (in-Block f vs a ms at)),
      c.leave.ensures ∙ ap (λ n. take n c.loop-m.scope) c.len-before.ensures ∙ ap (take (length vs)) held.seen.1 ∙ take_front vs held.seen.0,
    )
