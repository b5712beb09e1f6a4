use Rattle.std.proofs.Common.{refl}
use Rattle.zir_machine.specs.Standing.{state_of}
use Rattle.zir_machine.proofs.Levels.{row_next}
use Rattle.zir_machine.proofs.Links.{same_state}
use Rattle.zir_machine.proofs.node.next_part.Goals as goal

pub returns-clause-goes : goal.returns-clause-goes
returns-clause-goes c =
    row_next c.args.parts.now.items c.args.span.now.at c.args.span.now.base _ c.index.result.now c.index.result.now.bound c.args.progress.now.focus c.value-value.result (state_of c.args.progress.now c.args.store.now.items) (state_of c.args.progress.now c.bind.new.store.items) _
    c.requires.within c.index.ensures refl c.value-value.ensures c.requires.done (same_state _ _ refl refl refl c.in_ok-bind.ensures) c.in_ok-enter_part.ensures.enters
