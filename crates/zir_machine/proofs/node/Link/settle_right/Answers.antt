use Rattle.std.proofs.Common.{◌∙◌, ap, sym, subst, refl, arith}
use Rattle.std.specs.Prelude.{None, []}
use Rattle.zir_machine.specs.Standing.{is_going, state_of, base_point}
use Rattle.zir_machine.specs.Steps.{Stands}
use Rattle.zir_machine.specs.Understood.{right_state, right_does, left_does}
use Rattle.zir_machine.specs.Nodes.{linked, meant}
use Rattle.zir_bit_laws.proofs.Limits.{piped-limit}
use Rattle.zir_machine.proofs.Answering.{skip_answers, spent_answers, right_past, right_gives, right_ends, ended_answers, same_limit}
use Rattle.zir_machine.proofs.node.Link.settle_right.Goals as goal

pub returns-then-not-rise-clause-asked : goal.returns-then-not-rise-clause-asked
returns-then-not-rise-clause-asked c =
    spent_answers (linked c.args.self.now) _ (state_of c.args.progress.now c.args.store.now.items) _ c.rise.new.self.focus c.if-not-rise.ensures.4 (right_past (linked c.args.self.now) (state_of c.args.progress.now c.args.store.now.items) c.requires.sides c.if-not-rise.ensures.0)

pub returns-in-Yield-clause-asked : goal.returns-in-Yield-clause-asked
returns-in-Yield-clause-asked c =
    let w = subst (λ a. Stands a c.args.self.now.right_progress.focus (right_state (linked c.args.self.now) (state_of c.args.progress.now c.args.store.now.items)) None (right_does (linked c.args.self.now) (state_of c.args.progress.now c.args.store.now.items))) c.in-Yield.is c.requires.stands in
    right_gives (linked c.args.self.now) _ (state_of c.args.progress.now c.args.store.now.items) _ c.args.self.now.right_progress.focus refl w c.if-not-rise.ensures.0 c.if-not-rise.ensures.1 c.if-not-rise.ensures.2 c.if-not-rise.ensures.3 refl refl
    (record {
      right = sym ((meant c.args.self.now.right).given_sound w.0 _) ∙ ap (λ f. (meant c.args.self.now.right).sound f (right_state (linked c.args.self.now) (state_of c.args.progress.now c.args.store.now.items))) (sym w.1) ∙ c.requires.sides.right;
      left = c.requires.sides.left;
      ready = refl;
      base = c.requires.sides.base;
      whole = omega (arith, c.if-not-rise.ensures.2);
      waits = refl;
    })

pub returns-in-Done-clause-asked : goal.returns-in-Done-clause-asked
returns-in-Done-clause-asked c =
    let w = subst (λ a. Stands a c.args.self.now.right_progress.focus (right_state (linked c.args.self.now) (state_of c.args.progress.now c.args.store.now.items)) None (right_does (linked c.args.self.now) (state_of c.args.progress.now c.args.store.now.items))) c.in-Done.is c.requires.stands in
    ended_answers (linked c.args.self.now) _ (state_of c.args.progress.now c.args.store.now.items) _ c.args.self.now.right_progress.focus w.0 w.1
    (right_ends (linked c.args.self.now) (state_of c.args.progress.now c.args.store.now.items) _ c.args.self.now.right_progress.focus w c.if-not-rise.ensures.0 c.if-not-rise.ensures.1 c.if-not-rise.ensures.2 c.if-not-rise.ensures.3 refl)

pub returns-in-Skip-clause-asked : goal.returns-in-Skip-clause-asked
returns-in-Skip-clause-asked c =
    skip_answers (linked c.args.self.now) _ (state_of c.args.progress.now c.args.store.now.items) (state_of c.rise.new.self c.args.store.now.items) c.rise.new.self.focus (ap is_going c.if-not-rise.ensures.4 ∙ c.requires.going)
    (piped-limit [] c.args.self.now.depth (state_of c.args.progress.now c.args.store.now.items) (state_of c.rise.new.self c.args.store.now.items) (right_does (linked c.args.self.now) (state_of c.args.progress.now c.args.store.now.items)) (base_point c.args.self.now.base) (left_does (linked c.args.self.now)) (sym (same_limit (state_of c.args.progress.now c.args.store.now.items) (state_of c.rise.new.self c.args.store.now.items) _ c.if-not-rise.ensures.0 c.if-not-rise.ensures.2 c.if-not-rise.ensures.3)))
    (record {
      right = c.requires.sides.right;
      left = c.requires.sides.left;
      ready = subst (λ a. Stands a c.args.self.now.right_progress.focus (right_state (linked c.args.self.now) (state_of c.args.progress.now c.args.store.now.items)) None (right_does (linked c.args.self.now) (state_of c.args.progress.now c.args.store.now.items))) c.in-Skip.is c.requires.stands;
      base = c.requires.sides.base;
      whole = omega (arith, c.if-not-rise.ensures.2);
      waits = refl;
    })
