use Rattle.std.proofs.Common.{rules, ap, refl, arith}
use Rattle.zir_machine.specs.Standing.{state_of}
use Rattle.zir_machine.specs.Nodes.{comp_of, meant}
use Rattle.zir_machine.proofs.Levels.{begins, begins_sound, finishes, sound_past, as_block, as_loop, as_pipe, block_same, turn_begins, members_set}
use Rattle.zir_machine.proofs.Links.{same_state, link_begins}
use Rattle.zir_machine.proofs.node.+entering.Goals as goal

pub Link::enter-returns-clause-enters : goal.Link::enter-returns-clause-enters
Link::enter-returns-clause-enters t c =
    link_begins (meant c.args.self.now.left) (meant c.enter.new.self) (meant c.args.self.now.right) (meant c.enter-2.new.self) c.enter.new.progress c.enter-2.new.progress c.enter.new.store.items c.depth-self.result
    (state_of c.args.progress.now c.args.store.now.items) (state_of c.begin.new.self c.copy_slots.new.to.items) (state_of c.begin-2.new.self c.args.store.now.items) (state_of c.args.progress.now c.enter-2.new.store.items) c.depth-self.ensures
    (same_state _ _ c.begin.ensures.taken c.begin.ensures.ticks c.begin.ensures.left c.in_ok-copy_slots.ensures)
    (same_state _ _ c.begin-2.ensures.taken c.begin-2.ensures.ticks c.begin-2.ensures.left refl)
    refl c.in_ok-enter.ensures.enters c.in_ok-enter-2.ensures.enters

pub Loop::turn-returns-in_ok-enter-clause-enters :
    goal.Loop::turn-returns-in_ok-enter-clause-enters
Loop::turn-returns-in_ok-enter-clause-enters t c =
    turn_begins (comp_of c.args.self.now.body) (comp_of c.enter.new.self) c.tick.new.self.left (state_of c.args.progress.now c.args.store.now.items) (state_of c.tick.new.self c.args.store.now.items) _ c.if-tick.ensures.0
    (same_state _ _ c.if-tick.ensures.2 c.if-tick.ensures.1 refl refl) c.in_ok-enter.ensures.enters c.enter.ensures.kept

pub Node::enter-returns-in_err-enter_part-in-Block-clause-kept :
    goal.Node::enter-returns-in_err-enter_part-in-Block-clause-kept
Node::enter-returns-in_err-enter_part-in-Block-clause-kept t c =
    block_same c.args.self.now _ c.in-Block.parts c.enter_part.new.parts c.in-Block.span _ c.in-Block.is c.in-Block.parts-is (ap (λ s. s.place) c.in-Block.span-is) c.enter_part.ensures.kept

pub Node::enter-returns-in_ok-enter_part-in-Block-clause-enters :
    goal.Node::enter-returns-in_ok-enter_part-in-Block-clause-enters
Node::enter-returns-in_ok-enter_part-in-Block-clause-enters t c =
    as_block c.args.self.now _ c.in-Block.parts c.enter_part.new.parts c.in-Block.span _ c.depth.result c.enter_part.new.progress.focus (state_of c.args.progress.now c.args.store.now.items) (state_of c.enter_part.new.progress c.enter_part.new.store.items) c.in-Block.is c.in-Block.parts-is refl refl c.depth.ensures c.in_ok-enter_part-in-Block.ensures.enters

pub Node::enter-returns-in_ok-enter_part-in-Block-clause-kept :
    goal.Node::enter-returns-in_ok-enter_part-in-Block-clause-kept
Node::enter-returns-in_ok-enter_part-in-Block-clause-kept t c =
    block_same c.args.self.now _ c.in-Block.parts c.enter_part.new.parts c.in-Block.span _ c.in-Block.is c.in-Block.parts-is (ap (λ s. s.place) c.in-Block.span-is) c.enter_part.ensures.kept

pub enter_part-returns-in_err-enter-clause-kept : goal.enter_part-returns-in_err-enter-clause-kept
enter_part-returns-in_err-enter-clause-kept t c =
    members_set c.args.parts.now.items c.args.at _ c.index_mut.result.now c.enter.new.self c.index_mut.ensures.value c.enter.ensures.bound c.enter.ensures.kept

pub enter_part-returns-in_ok-enter-clause-enters :
    goal.enter_part-returns-in_ok-enter-clause-enters
enter_part-returns-in_ok-enter-clause-enters t c =
    begins c.args.parts.now.items c.args.at c.args.base c.args.v _ c.index_mut.result.now c.enter.new.self c.enter.new.progress.focus (state_of c.args.progress.now c.args.store.now.items) (state_of c.enter.new.progress c.enter.new.store.items) (omega (arith, c.if-at-len.true, c.len.ensures, c.args.parts.now.ok)) c.index_mut.ensures.value c.in_ok-enter.ensures.enters c.enter.ensures.bound

pub enter_part-returns-in_ok-enter-clause-sound : goal.enter_part-returns-in_ok-enter-clause-sound
enter_part-returns-in_ok-enter-clause-sound t c =
    begins_sound c.args.parts.now.items c.args.at c.enter.new.self c.enter.new.progress.focus (state_of c.enter.new.progress c.enter.new.store.items) (omega (arith, c.if-at-len.true, c.len.ensures, c.args.parts.now.ok)) c.in_ok-enter.ensures.sound

pub enter_part-returns-in_ok-enter-clause-kept : goal.enter_part-returns-in_ok-enter-clause-kept
enter_part-returns-in_ok-enter-clause-kept t c =
    members_set c.args.parts.now.items c.args.at _ c.index_mut.result.now c.enter.new.self c.index_mut.ensures.value c.enter.ensures.bound c.enter.ensures.kept

pub enter_part-returns-else-at-len-clause-enters :
    goal.enter_part-returns-else-at-len-clause-enters
enter_part-returns-else-at-len-clause-enters t c =
    finishes c.args.parts.now.items c.args.at c.args.base c.args.v _ (state_of c.args.progress.now c.args.store.now.items) _ (omega (arith, c.if-at-len.false, c.len.ensures, c.args.parts.now.ok)) refl
    (same_state _ _ refl refl refl c.truncate.ensures.items)

pub enter_part-returns-else-at-len-clause-sound : goal.enter_part-returns-else-at-len-clause-sound
enter_part-returns-else-at-len-clause-sound t c =
    sound_past c.args.parts.now.items c.args.at _ _ (omega (arith, c.if-at-len.false, c.len.ensures, c.args.parts.now.ok))

pub Node::enter-returns-in_ok-turn-in-Repeat-clause-enters :
    goal.Node::enter-returns-in_ok-turn-in-Repeat-clause-enters
Node::enter-returns-in_ok-turn-in-Repeat-clause-enters t c =
    as_loop c.args.self.now _ _ c.in-Repeat.body c.turn.new.body c.turn.new.progress.focus (state_of c.args.progress.now c.args.store.now.items) (state_of c.turn.new.progress c.turn.new.store.items) c.in-Repeat.is c.in-Repeat.body-is (search rules) c.in_ok-turn-in-Repeat.ensures.enters

pub Node::enter-returns-in_ok-enter_link-in-Pipe-clause-enters :
    goal.Node::enter-returns-in_ok-enter_link-in-Pipe-clause-enters
Node::enter-returns-in_ok-enter_link-in-Pipe-clause-enters t c =
    as_pipe c.args.self.now _ _ c.in-Pipe.link c.enter_link.new.link c.enter_link.new.progress.focus (state_of c.args.progress.now c.args.store.now.items) (state_of c.enter_link.new.progress c.enter_link.new.store.items) c.in-Pipe.is c.in-Pipe.link-is (search rules) c.in_ok-enter_link-in-Pipe.ensures.enters
