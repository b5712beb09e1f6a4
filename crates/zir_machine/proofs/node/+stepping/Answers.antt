use Rattle.std.proofs.Common.{inl, ap, sym, refl, ◌≡◌, ◌∙◌, ◌<◌, arith}
use Rattle.std.specs.Prelude.{map, length, []}
use Rattle.zir_machine.specs.Standing.{state_of}
use Rattle.zir_machine.specs.Heights.{heights}
use Rattle.zir_machine.specs.Understood.{members_of, link_goes}
use Rattle.zir_machine.specs.Understanding.{sound-parts, link_awaiting}
use Rattle.zir_machine.specs.Nodes.{proc_in, held, looped, linked, meant}
use Rattle.zir_machine.proofs.Levels.{members_set, done_put, sound_past, block_same}
use Rattle.zir_machine.proofs.Stepping.{fed_trans, fed_same, stepped_after, paced_after, uses_after, done_value, row_stepped, row_moved, row_ends, part_sound, row_set_sound, length-members, part_height, block_height, loop_height, same_body, block_inside, loop_inside, took_step, awaits_get, awaits_set, done_goes, pipe_height, pipe_inside, same_sides, block_awaits, awaits_past}
use Rattle.zir_machine.proofs.Answering.{going_does, going_sound}
use Rattle.zir_machine.proofs.Sides.{asked_same, asked_taken, both_asked, both_awaits, both_paced, hands, offers, right_waiting, both_waiting, rests_steps, rests_sound, work_paced}
use Rattle.zir_machine.proofs.node.+stepping.Goals as goal

pub Loop::step-step-requires : goal.Loop::step-step-requires
Loop::step-step-requires t c =
    (omega (arith, c.decreases, same_body (looped c.turns.self) (looped c.args.self.now) c.turns.invariant.kept), (c.turns.invariant.ready, c.turns.invariant.sound))

pub Node::step-step_row-requires : goal.Node::step-step_row-requires
Node::step-step_row-requires t c =
    (omega (arith, c.decreases, block_height c.args.self.now _ c.in-Block.parts c.in-Block.span c.in-Block.is c.in-Block.parts-is), (c.requires.ready, block_inside c.args.self.now _ c.in-Block.parts c.in-Block.span _ c.args.progress.now.focus (state_of c.args.progress.now c.args.store.now.items) c.in-Block.is c.in-Block.parts-is c.in-Block.span-is c.requires.sound))

pub Node::step-returns-in_err-answer-in-Block-clause-kept :
    goal.Node::step-returns-in_err-answer-in-Block-clause-kept
Node::step-returns-in_err-answer-in-Block-clause-kept t c =
    block_same c.args.self.now _ c.in-Block.parts c.step_row.new.parts c.in-Block.span c.step_row.new.span c.in-Block.is c.in-Block.parts-is (c.step_row.ensures.place ∙ ap (λ s. s.place) c.in-Block.span-is) c.step_row.ensures.kept

pub Node::step-step_loop-requires : goal.Node::step-step_loop-requires
Node::step-step_loop-requires t c =
    (omega (arith, c.decreases, loop_height c.args.self.now _ c.in-Repeat.body c.in-Repeat.is c.in-Repeat.body-is), (c.requires.ready, loop_inside c.args.self.now _ c.in-Repeat.body c.args.progress.now.focus (state_of c.args.progress.now c.args.store.now.items) c.in-Repeat.is c.in-Repeat.body-is c.requires.sound))

pub Node::step-returns-in_ok-answer-in-Block-clause-kept :
    goal.Node::step-returns-in_ok-answer-in-Block-clause-kept
Node::step-returns-in_ok-answer-in-Block-clause-kept t c =
    block_same c.args.self.now _ c.in-Block.parts c.step_row.new.parts c.in-Block.span c.step_row.new.span c.in-Block.is c.in-Block.parts-is (c.step_row.ensures.place ∙ ap (λ s. s.place) c.in-Block.span-is) c.step_row.ensures.kept

pub step_row-step-requires : goal.step_row-step-requires
step_row-step-requires t c =
    let within : c.parts.span.at < length c.parts.parts.items = omega (arith, c.parts-test.true, c.len.ensures, c.parts.parts.ok) in
    let same : heights (members_of (map held c.parts.parts.items)) ≡ heights (members_of (map held c.args.parts.now.items)) = ap heights c.parts.invariant.kept in
    (omega (arith, c.decreases, same, part_height c.parts.parts.items c.parts.span.at _ c.index_mut-part.result.now within c.index_mut-part.ensures.value), (c.parts.invariant.ready, part_sound c.parts.parts.items c.parts.span.at _ c.index_mut-part.result.now c.parts.progress.focus (state_of c.parts.progress c.parts.store.items) within c.index_mut-part.ensures.value c.parts.invariant.sound))

pub step_row-returns-in_err-answer-clause-kept : goal.step_row-returns-in_err-answer-clause-kept
step_row-returns-in_err-answer-clause-kept t c =
    members_set c.parts.parts.items c.parts.span.at _ c.index_mut-part.result.now c.step.new.self c.index_mut-part.ensures.value c.step.ensures.bound c.step.ensures.kept ∙ c.parts.invariant.kept

pub step_row-returns-in_default : goal.step_row-returns-in_default
step_row-returns-in_default t c =
    let within : c.parts.span.at < length c.parts.parts.items = omega (arith, c.parts-test.true, c.len.ensures, c.parts.parts.ok) in
    record {
      step = stepped_after c.in_ok-answer.answer _ _ _ _ _ _ _ _ c.parts.invariant.moved (row_stepped c.in_ok-answer.answer c.parts.offer c.step.new.offer c.parts.parts.items c.parts.span.at c.parts.span.base _ c.index_mut-part.result.now c.step.new.self c.parts.progress.focus c.step.new.progress.focus (state_of c.parts.progress c.parts.store.items) (state_of c.step.new.progress c.step.new.store.items) c.in_default.not-Done within c.index_mut-part.ensures.value c.step.ensures.bound c.in_ok-answer.ensures.step);
      sound = row_set_sound c.parts.parts.items c.parts.span.at c.step.new.self c.step.new.progress.focus (state_of c.step.new.progress c.step.new.store.items) within c.in_ok-answer.ensures.sound;
      asks = λ e. awaits_set c.parts.parts.items c.parts.span.at c.step.new.self c.step.new.progress.focus within (c.in_ok-answer.ensures.asks e);
      takes = λ h. took_step c.parts.offer c.step.new.offer _ _ _ (c.parts.invariant.took h) (λ w. c.in_ok-answer.ensures.takes (awaits_get c.parts.parts.items c.parts.span.at _ c.index_mut-part.result.now c.parts.progress.focus within c.index_mut-part.ensures.value w)) c.in_ok-answer.ensures.step.moved;
      paced = paced_after c.in_ok-answer.answer c.args.fuel.now c.parts.fuel c.step.new.fuel c.args.progress.now.ticks c.parts.progress.ticks c.step.new.progress.ticks c.parts.invariant.uses c.in_ok-answer.ensures.paced;
      kept = members_set c.parts.parts.items c.parts.span.at _ c.index_mut-part.result.now c.step.new.self c.index_mut-part.ensures.value c.step.ensures.bound c.step.ensures.kept ∙ c.parts.invariant.kept;
      base = c.parts.invariant.base;
      place = c.parts.invariant.place;
    }

pub step_row-next_part-requires-clause-done : goal.step_row-next_part-requires-clause-done
step_row-next_part-requires-clause-done t c =
    let within : c.parts.span.at < length c.parts.parts.items = omega (arith, c.parts-test.true, c.len.ensures, c.parts.parts.ok) in
    done_put c.parts.parts.items c.parts.span.at c.step.new.self c.step.new.progress.focus (state_of c.step.new.progress c.step.new.store.items) within
    (done_value c.in_ok-answer.answer _ _ _ _ c.step.new.progress.focus (state_of c.step.new.progress c.step.new.store.items) c.in-Done.is c.in_ok-answer.ensures.step)

pub step_row-parts-smaller : goal.step_row-parts-smaller
step_row-parts-smaller t c =
    let within : c.parts.span.at < length c.parts.parts.items = omega (arith, c.parts-test.true, c.len.ensures, c.parts.parts.ok) in
    let same : length (members_of (map held c.next_part.new.parts.items)) ≡ length (members_of (map held c.parts.parts.items)) =
    ap length (c.next_part.ensures.kept ∙ members_set c.parts.parts.items c.parts.span.at _ c.index_mut-part.result.now c.step.new.self c.index_mut-part.ensures.value c.step.ensures.bound c.step.ensures.kept) in
    omega (arith, same, length-members c.parts.parts.items, c.in_ok-next_part.ensures.next)

pub step_row-parts-preserved : goal.step_row-parts-preserved
step_row-parts-preserved t c =
    let within : c.parts.span.at < length c.parts.parts.items = omega (arith, c.parts-test.true, c.len.ensures, c.parts.parts.ok) in
    let moved = row_moved c.parts.offer c.step.new.offer c.parts.parts.items c.parts.span.at c.parts.span.base _ c.index_mut-part.result.now c.step.new.self c.parts.progress.focus c.step.new.progress.focus (state_of c.parts.progress c.parts.store.items) (state_of c.step.new.progress c.step.new.store.items) within c.index_mut-part.ensures.value c.step.ensures.bound c.in_ok-answer.ensures.step.moved in
    record {
      moved = fed_trans c.args.offer.now c.parts.offer c.step.new.offer _ _ _ c.parts.invariant.moved (fed_trans c.parts.offer c.step.new.offer c.step.new.offer _ _ _ moved (fed_same c.step.new.offer _ _ c.in_ok-next_part.ensures.goes));
      sound = c.in_ok-next_part.ensures.sound;
      ready = c.in_ok-next_part.ensures.ready;
      uses = uses_after c.args.fuel.now c.parts.fuel c.step.new.fuel c.args.progress.now.ticks c.parts.progress.ticks c.next_part.new.progress.ticks c.parts.invariant.uses
          (omega (arith, c.in_ok-answer.ensures.paced.fuel_falls)) (omega (arith, c.in_ok-answer.ensures.paced.ticks_rise, c.in_ok-next_part.ensures.rises)) (λ lt. let z : c.parts.progress.ticks < c.step.new.progress.ticks = c.in_ok-answer.ensures.paced.used (done_goes c.in_ok-answer.answer c.in-Done.is) lt in omega (arith, z, c.in_ok-next_part.ensures.rises));
      took = λ h. inl (took_step c.parts.offer c.step.new.offer _ _ _ (c.parts.invariant.took h) (λ w. c.in_ok-answer.ensures.takes (awaits_get c.parts.parts.items c.parts.span.at _ c.index_mut-part.result.now c.parts.progress.focus within c.index_mut-part.ensures.value w)) c.in_ok-answer.ensures.step.moved);
      kept = c.next_part.ensures.kept ∙ members_set c.parts.parts.items c.parts.span.at _ c.index_mut-part.result.now c.step.new.self c.index_mut-part.ensures.value c.step.ensures.bound c.step.ensures.kept ∙ c.parts.invariant.kept;
      base = c.next_part.ensures.base ∙ c.parts.invariant.base;
      place = c.next_part.ensures.place ∙ c.parts.invariant.place;
    }

pub step_row-returns-in_err-next_part-clause-kept :
    goal.step_row-returns-in_err-next_part-clause-kept
step_row-returns-in_err-next_part-clause-kept t c =
    c.next_part.ensures.kept ∙ members_set c.parts.parts.items c.parts.span.at _ c.index_mut-part.result.now c.step.new.self c.index_mut-part.ensures.value c.step.ensures.bound c.step.ensures.kept ∙ c.parts.invariant.kept

pub step_row-returns-clause-step : goal.step_row-returns-clause-step
step_row-returns-clause-step t c =
    stepped_after c.answer.result _ _ _ _ _ _ _ _ c.parts.invariant.moved (row_ends c.answer.result c.parts.offer c.answer.new.offer c.parts.parts.items c.parts.span.at c.parts.span.base c.parts.progress.focus c.answer.new.progress.focus (state_of c.parts.progress c.parts.store.items) (state_of c.answer.new.progress c.parts.store.items) (omega (arith, c.parts-test.false, c.len.ensures, c.parts.parts.ok)) c.answer.ensures.step)

pub step_row-returns-clause-sound : goal.step_row-returns-clause-sound
step_row-returns-clause-sound t c =
    sound_past c.parts.parts.items c.parts.span.at _ _ (omega (arith, c.parts-test.false, c.len.ensures, c.parts.parts.ok))

pub step_row-returns-clause-takes : goal.step_row-returns-clause-takes
step_row-returns-clause-takes t c = λ h.
    took_step c.parts.offer c.answer.new.offer _ _ _ (c.parts.invariant.took h) (λ w. absurd (awaits_past c.parts.parts.items c.parts.span.at c.parts.progress.focus (omega (arith, c.parts-test.false, c.len.ensures, c.parts.parts.ok)) w)) c.answer.ensures.step.moved

pub Node::step-returns-in_ok-answer-in-Block-clause-takes :
    goal.Node::step-returns-in_ok-answer-in-Block-clause-takes
Node::step-returns-in_ok-answer-in-Block-clause-takes t c = λ h.
    c.in_ok-answer-in-Block.ensures.takes (block_awaits c.args.self.now _ c.in-Block.parts c.in-Block.span _ c.args.progress.now.focus c.in-Block.is c.in-Block.parts-is c.in-Block.span-is h)

pub Node::step-step_link-requires : goal.Node::step-step_link-requires
Node::step-step_link-requires t c =
    (omega (arith, c.decreases, pipe_height c.args.self.now _ c.in-Pipe.link c.in-Pipe.is c.in-Pipe.link-is), (c.requires.ready, pipe_inside c.args.self.now _ c.in-Pipe.link c.args.progress.now.focus (state_of c.args.progress.now c.args.store.now.items) c.in-Pipe.is c.in-Pipe.link-is c.requires.sound))

pub Link::step-returns-else-goes-clause-step : goal.Link::step-returns-else-goes-clause-step
Link::step-returns-else-goes-clause-step t c =
    rests_steps c.answer.result c.args.offer.now c.answer.new.offer (linked c.args.self.now) c.args.progress.now.focus c.answer.new.progress.focus (state_of c.args.progress.now c.args.store.now.items) (state_of c.answer.new.progress c.args.store.now.items) (sym c.goes.ensures ∙ c.if-goes.false) c.requires.ready c.answer.ensures.rests c.answer.ensures.ready c.answer.ensures.step

pub Link::step-returns-else-goes-clause-sound : goal.Link::step-returns-else-goes-clause-sound
Link::step-returns-else-goes-clause-sound t c =
    rests_sound (linked c.args.self.now) c.answer.new.progress.focus (state_of c.answer.new.progress c.args.store.now.items) c.answer.ensures.rests c.answer.ensures.ready

pub Link::work-ask-requires : goal.Link::work-ask-requires
Link::work-ask-requires t c =
    (omega (arith, c.decreases, same_sides (linked c.asks.self) (linked c.args.self.now) c.asks.invariant.kept), (c.asks.invariant.going, c.asks.invariant.sound))

pub Link::work-returns-in-Some-clause-paced : goal.Link::work-returns-in-Some-clause-paced
Link::work-returns-in-Some-clause-paced t c =
    work_paced c.in_ok-answer.field-0 c.in-Some.answer (linked c.args.self.now) (linked c.asks.self) (linked c.ask.new.self) (state_of c.args.progress.now c.args.store.now.items) c.args.fuel.now c.asks.fuel c.ask.new.fuel c.asks.progress.ticks c.ask.new.progress.ticks
    c.in-Some.is c.requires.sound c.asks.invariant.uses c.asks.invariant.rises c.in_ok-answer.ensures.paced

pub Link::ask-returns-in-None-offer-clause-asked : goal.Link::ask-returns-in-None-offer-clause-asked
Link::ask-returns-in-None-offer-clause-asked t c =
    let l = linked c.args.self.now in
    let s = state_of c.args.progress.now c.args.store.now.items in
    let does = going_does l c.args.progress.now.focus s c.requires.going in
    let sound = going_sound l c.args.progress.now.focus s c.requires.going in
    both_asked l c.args.progress.now.focus s c.args.offer.now c.in-None-offer.is c.requires.going c.in-Both.is c.requires.sound
    (link_awaiting l c.args.progress.now.focus s (sound ∙ c.requires.sound)) does sound (both_awaits l c.args.progress.now.focus c.requires.going c.in-Both.is)

pub Link::ask-returns-in-None-offer-clause-paced : goal.Link::ask-returns-in-None-offer-clause-paced
Link::ask-returns-in-None-offer-clause-paced t c =
    both_paced (linked c.args.self.now) (state_of c.args.progress.now c.args.store.now.items) c.args.fuel.now c.in-Both.is c.requires.sound

pub Link::hand_over-returns-clause-asked : goal.Link::hand_over-returns-clause-asked
Link::hand_over-returns-clause-asked t c =
    let l = linked c.args.self.now in
    let s = state_of c.args.progress.now c.args.store.now.items in
    let taken = c.in_ok-answer.ensures.takes (right_waiting l s c.requires.waits c.requires.sound) in
    asked_same c.settle_right.result (link_goes l s) _ (linked c.settle_right.new.self) c.settle_right.new.progress.focus (state_of c.settle_right.new.progress c.step.new.store.items)
    (hands l s (state_of c.args.progress.now c.step.new.store.items) c.args.output (proc_in c.step.new.self c.step.new.progress.focus (state_of c.step.new.progress c.step.new.store.items)) c.step.new.offer
    (record { taken = c.args.self.now.left_progress.taken; ticks = c.args.self.now.left_progress.ticks; store = [] }) c.requires.output c.in_ok-answer.ensures.step.moved taken refl refl refl)
    c.settle_right.ensures.asked

pub Link::offer_left-step-requires : goal.Link::offer_left-step-requires
Link::offer_left-step-requires t c =
    let l = linked c.args.self.now in
    let s = state_of c.args.progress.now c.args.store.now.items in
    (omega (arith, c.decreases), ((meant c.args.self.now.left).awaits_ready c.args.self.now.left_progress.focus (both_waiting l s c.requires.waits c.requires.sound).left, (sound-parts l s c.requires.sound).left))

pub Link::offer_left-settle_left-requires-clause-sides :
    goal.Link::offer_left-settle_left-requires-clause-sides
Link::offer_left-settle_left-requires-clause-sides t c =
    let parts = sound-parts (linked c.args.self.now) (state_of c.args.progress.now c.args.store.now.items) c.requires.sound in
    record { right = parts.right; left = c.in_ok-answer.ensures.sound; base = omega (arith, parts.base, c.in_ok-answer.ensures.paced.ticks_rise) }

pub Link::offer_left-settle_left-requires-clause-right :
    goal.Link::offer_left-settle_left-requires-clause-right
Link::offer_left-settle_left-requires-clause-right t c =
    (both_waiting (linked c.args.self.now) (state_of c.args.progress.now c.args.store.now.items) c.requires.waits c.requires.sound).right

pub Link::offer_left-returns-clause-takes : goal.Link::offer_left-returns-clause-takes
Link::offer_left-returns-clause-takes t c =
    c.in_ok-answer.ensures.takes (both_waiting (linked c.args.self.now) (state_of c.args.progress.now c.args.store.now.items) c.requires.waits c.requires.sound).left

pub Link::offer_left-returns-clause-asked : goal.Link::offer_left-returns-clause-asked
Link::offer_left-returns-clause-asked t c =
    let l = linked c.args.self.now in
    let s = state_of c.args.progress.now c.args.store.now.items in
    let taken = c.in_ok-answer.ensures.takes (both_waiting l s c.requires.waits c.requires.sound).left in
    asked_taken c.settle_left.result c.args.offer.now c.step.new.offer (link_goes l s) _ (linked c.settle_left.new.self) c.settle_left.new.progress.focus (state_of c.settle_left.new.progress c.settle_left.new.store.items) taken
    (offers l s c.args.offer.now c.step.new.offer (proc_in c.step.new.self c.step.new.progress.focus (state_of c.step.new.progress c.step.new.store.items)) c.requires.sound c.requires.waits c.in_ok-answer.ensures.step.moved)
    c.settle_left.ensures.asked
