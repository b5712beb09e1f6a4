use Rattle.std.specs.Prelude.{◌+◌, ◌-◌, ◌*◌, ◌≡◌, ◌≤◌, true, map, length}
use Rattle.zir_bit_laws.specs.Offers.{Fed}
use Rattle.zir_machine.specs.Heights.{height, heights}
use Rattle.zir_machine.specs.Standing.{is_going, state_of, IsReady}
use Rattle.zir_machine.specs.Steps.{Uses, Took}
use Rattle.zir_machine.specs.Understood.{members_of, row_in, row_sound, row_awaits, loop_does, loop_comp, link_comp, link_goes, goes_sound, is_both, lifted}
use Rattle.zir_machine.specs.Nodes.{comp_of, held, looped, linked}
use Rattle.zir_machine.specs.Asking.{asks_left}
use Rattle.zir_machine.proofs.node.+stepping.Given as goal

abbrev pub decreases-Node::step : goal.decreases-Node::step
decreases-Node::step l = 6 * height (comp_of l.self.now)

abbrev pub decreases-Part::step : goal.decreases-Part::step
decreases-Part::step l = 6 * height (comp_of l.self.now.node) + 1

abbrev pub decreases-step_row : goal.decreases-step_row
decreases-step_row l = 6 * heights (members_of (map held l.parts.now.items)) + 4

abbrev pub decreases-step_loop : goal.decreases-step_loop
decreases-step_loop l = 6 * height (comp_of l.body.now.value.body) + 4

abbrev pub decreases-Loop::step : goal.decreases-Loop::step
decreases-Loop::step l = 6 * height (comp_of l.self.now.body) + 3

-- the body's turns so far are what the loop does
abbrev pub invariant-Loop::step-turns : goal.invariant-Loop::step-turns
invariant-Loop::step-turns l = record {
  moved : Fed l.fn.offer l.offer (loop_does (looped l.fn.self) l.fn.progress.focus (state_of l.fn.progress l.fn.store.items)) (loop_does (looped l.self) l.progress.focus (state_of l.progress l.store.items));
  sound : (looped l.self).body.sound l.progress.focus (state_of l.progress l.store.items) ≡ true;
  ready : IsReady l.progress.focus;
  uses : Uses l.fn.fuel l.fuel l.fn.progress.ticks l.progress.ticks;
  took : (looped l.fn.self).body.awaits l.fn.progress.focus ≡ true → Took l.offer ((looped l.self).body.awaits l.progress.focus);
  kept : loop_comp (looped l.self) ≡ loop_comp (looped l.fn.self);
}

abbrev pub decreases-Loop::step-turns : goal.decreases-Loop::step-turns
decreases-Loop::step-turns l = l.fuel

-- the parts so far are what the block does
abbrev pub invariant-step_row-parts : goal.invariant-step_row-parts
invariant-step_row-parts l = record {
  moved : Fed l.fn.offer l.offer (row_in (map held l.fn.parts.items) l.fn.span.at l.fn.span.base l.fn.progress.focus (state_of l.fn.progress l.fn.store.items)) (row_in (map held l.parts.items) l.span.at l.span.base l.progress.focus (state_of l.progress l.store.items));
  sound : row_sound (map held l.parts.items) l.span.at l.progress.focus (state_of l.progress l.store.items) ≡ true;
  ready : IsReady l.progress.focus;
  uses : Uses l.fn.fuel l.fuel l.fn.progress.ticks l.progress.ticks;
  took : row_awaits (map held l.fn.parts.items) l.fn.span.at l.fn.progress.focus ≡ true → Took l.offer (row_awaits (map held l.parts.items) l.span.at l.progress.focus);
  kept : members_of (map held l.parts.items) ≡ members_of (map held l.fn.parts.items);
  base : l.span.base ≡ l.fn.span.base;
  place : l.span.place ≡ l.fn.span.place;
}

abbrev pub decreases-step_row-parts : goal.decreases-step_row-parts
decreases-step_row-parts l = length (members_of (map held l.parts.items)) - l.span.at

abbrev pub decreases-step_link : goal.decreases-step_link
decreases-step_link l = 6 * (height (comp_of l.link.now.value.left) + height (comp_of l.link.now.value.right)) + 5

abbrev pub decreases-Link::step : goal.decreases-Link::step
decreases-Link::step l = 6 * (height (comp_of l.self.now.left) + height (comp_of l.self.now.right)) + 4

abbrev pub decreases-Link::work : goal.decreases-Link::work
decreases-Link::work l = 6 * (height (comp_of l.self.now.left) + height (comp_of l.self.now.right)) + 3

abbrev pub decreases-Link::ask : goal.decreases-Link::ask
decreases-Link::ask l = 6 * (height (comp_of l.self.now.left) + height (comp_of l.self.now.right)) + 2

abbrev pub decreases-Link::ask_right : goal.decreases-Link::ask_right
decreases-Link::ask_right l = 6 * (height (comp_of l.self.now.left) + height (comp_of l.self.now.right)) + 1

abbrev pub decreases-Link::hand_over : goal.decreases-Link::hand_over
decreases-Link::hand_over l = 6 * (height (comp_of l.self.now.left) + height (comp_of l.self.now.right)) + 1

abbrev pub decreases-Link::ask_left : goal.decreases-Link::ask_left
decreases-Link::ask_left l = 6 * (height (comp_of l.self.now.left) + height (comp_of l.self.now.right)) + 1

abbrev pub decreases-Link::offer_left : goal.decreases-Link::offer_left
decreases-Link::offer_left l = 6 * (height (comp_of l.self.now.left) + height (comp_of l.self.now.right)) + 1

-- the sides asked so far are what the composition does
abbrev pub invariant-Link::work-asks : goal.invariant-Link::work-asks
invariant-Link::work-asks l = record {
  moved : Fed l.fn.offer l.offer (link_goes (linked l.fn.self) (state_of l.fn.progress l.fn.store.items)) (link_goes (linked l.self) (state_of l.progress l.store.items));
  sound : goes_sound (linked l.self) (state_of l.progress l.store.items) ≡ true;
  going : is_going l.progress.focus ≡ true;
  uses : Uses l.fn.fuel l.fuel (lifted (linked l.fn.self)) (lifted (linked l.self));
  rises : l.fn.progress.ticks ≤ l.progress.ticks;
  took : is_both (linked l.fn.self).waits ≡ true → Took l.offer (is_both (linked l.self).waits);
  kept : link_comp (linked l.self) ≡ link_comp (linked l.fn.self);
}

abbrev pub decreases-Link::work-asks : goal.decreases-Link::work-asks
decreases-Link::work-asks l = asks_left (linked l.self) l.offer l.fuel
