use Rattle.std.proofs.Common.{◌∙◌, ap, sym, subst, arith}
use Rattle.std.specs.Prelude.{Option, [], ◌+◌}
use Rattle.zir_bit_tree.specs.declared.value.Val.{Val}
use Rattle.zir_machine.specs.Standing.{is_going, state_of, base_point}
use Rattle.zir_machine.specs.Steps.{Stands}
use Rattle.zir_machine.specs.Understood.{right_does, left_state, left_does}
use Rattle.zir_machine.specs.Understanding.{four}
use Rattle.zir_machine.specs.Nodes.{linked, meant}
use Rattle.zir_bit_laws.proofs.Limits.{piped-limit}
use Rattle.zir_machine.proofs.Answering.{skip_answers, spent_answers, goes_on, left_past, left_ends, ended_answers, same_limit}
use Rattle.zir_machine.proofs.node.Link.settle_left.Goals as goal

pub returns-then-not-rise-clause-asked : goal.returns-then-not-rise-clause-asked
returns-then-not-rise-clause-asked c =
    spent_answers (linked c.args.self.now) _ (state_of c.args.progress.now c.args.store.now.items) _ c.rise.new.self.focus c.if-not-rise.ensures.4 (left_past (linked c.args.self.now) (state_of c.args.progress.now c.args.store.now.items) c.requires.sides c.requires.right c.if-not-rise.ensures.0)

pub returns-in-Need-clause-asked : goal.returns-in-Need-clause-asked
returns-in-Need-clause-asked c =
    goes_on (linked c.args.self.now) _ (state_of c.args.progress.now c.args.store.now.items) (state_of c.rise.new.self c.args.store.now.items) c.rise.new.self.focus (ap is_going c.if-not-rise.ensures.4 ∙ c.requires.going)
    (piped-limit [] c.args.self.now.depth (state_of c.args.progress.now c.args.store.now.items) (state_of c.rise.new.self c.args.store.now.items) (right_does (linked c.args.self.now) (state_of c.args.progress.now c.args.store.now.items)) (base_point c.args.self.now.base) (left_does (linked c.args.self.now)) (sym (same_limit (state_of c.args.progress.now c.args.store.now.items) (state_of c.rise.new.self c.args.store.now.items) _ c.if-not-rise.ensures.0 c.if-not-rise.ensures.2 c.if-not-rise.ensures.3)))
    (record {
      right = c.requires.sides.right;
      left = c.requires.sides.left;
      ready = (meant c.args.self.now.right).awaits_ready c.args.self.now.right_progress.focus c.requires.right;
      base = c.requires.sides.base;
      whole = omega (arith, c.if-not-rise.ensures.2);
      waits = four _ _ c.rise.new.self.ticks (c.args.self.now.left_progress.ticks + c.args.self.now.right_progress.ticks) c.rise.new.self.taken c.args.self.now.left_progress.taken c.requires.right (c.requires.asks c.in-Need.is) c.if-not-rise.ensures.2 c.if-not-rise.ensures.1;
    })

pub returns-in-Done-clause-asked : goal.returns-in-Done-clause-asked
returns-in-Done-clause-asked c =
    let w = subst (λ a. (j : Option Val) × Stands a c.args.self.now.left_progress.focus (left_state (linked c.args.self.now)) j (left_does (linked c.args.self.now))) c.in-Done.is c.requires.stands in
    ended_answers (linked c.args.self.now) _ (state_of c.args.progress.now c.args.store.now.items) _ c.args.self.now.left_progress.focus w.1.0 w.1.1
    (left_ends (linked c.args.self.now) (state_of c.args.progress.now c.args.store.now.items) _ w.1.0 c.requires.sides c.requires.right w.1.2 c.if-not-rise.ensures.0 c.if-not-rise.ensures.1 c.if-not-rise.ensures.2 c.if-not-rise.ensures.3 c.truncate.ensures.items)

pub returns-in-Yield-clause-asked : goal.returns-in-Yield-clause-asked
returns-in-Yield-clause-asked c =
    skip_answers (linked c.args.self.now) _ (state_of c.args.progress.now c.args.store.now.items) (state_of c.rise.new.self c.args.store.now.items) c.rise.new.self.focus (ap is_going c.if-not-rise.ensures.4 ∙ c.requires.going)
    (piped-limit [] c.args.self.now.depth (state_of c.args.progress.now c.args.store.now.items) (state_of c.rise.new.self c.args.store.now.items) (right_does (linked c.args.self.now) (state_of c.args.progress.now c.args.store.now.items)) (base_point c.args.self.now.base) (left_does (linked c.args.self.now)) (sym (same_limit (state_of c.args.progress.now c.args.store.now.items) (state_of c.rise.new.self c.args.store.now.items) _ c.if-not-rise.ensures.0 c.if-not-rise.ensures.2 c.if-not-rise.ensures.3)))
    (record {
      right = c.requires.sides.right;
      left = c.requires.sides.left;
      ready = (meant c.args.self.now.right).awaits_ready c.args.self.now.right_progress.focus c.requires.right;
      base = c.requires.sides.base;
      whole = omega (arith, c.if-not-rise.ensures.2);
      waits = c.requires.right;
    })
