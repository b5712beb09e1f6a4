use Rattle.std.specs.Prelude.{Option, Some, IfSome}
use Rattle.std.proofs.Common.{ap, sym, subst, refl}
use Rattle.zir_bit_tree.specs.declared.value.Val.{Val}
use Rattle.zir_tree.specs.declared.ends.Stamp.{Stamp}
use Rattle.zir_chunk.specs.Contents.{IsSmall}
use Rattle.zir_machine.specs.declared.machine.Element.{Element}
use Rattle.zir_machine.specs.Steps.{Stepped}
use Rattle.zir_machine.specs.MachineOf.{standing_of}
use Rattle.zir_machine.specs.MachineStands.{Standing, Stands, state_in, still}
use Rattle.zir_machine.proofs.Machines.{Moves, kept_now, kept_stopped, small_base, small_next, inside_stands, past_stands, works_now, works_stopped}
use Rattle.zir_machine.proofs.machine.Machine.work.Goals.{then-self, else-self}
use Rattle.zir_machine.proofs.machine.Machine.work.Goals as goal

pub invariant_of-self-2-clause-base_small : goal.invariant_of-self-2-clause-base_small
invariant_of-self-2-clause-base_small c =
    let P : Stamp → Type 0 = IsSmall in
    subst P (sym c.settle.ensures.base) (small_base c.args.self.now.next c.step.new.offer c.args.self.now.base c.args.self.now.base_small c.args.self.now.next_small)

pub invariant_of-self-2-clause-next_small : goal.invariant_of-self-2-clause-next_small
invariant_of-self-2-clause-next_small c =
    let P : Option Element → Type 0 = λ n. IfSome n (λ e. IsSmall e.stamp) in
    subst P (sym c.settle.ensures.next) (small_next c.args.self.now.next c.step.new.offer c.args.self.now.next_small)

pub invariant_of-self-2-clause-kept : goal.invariant_of-self-2-clause-kept
invariant_of-self-2-clause-kept c = elim c.if-self.branch [
  | then-self w ↦ kept_now c.in_ok-answer.answer c.if-self.answer _ _ _ c.step.new.self c.step.new.progress c.step.new.store.items c.settle.new.base c.args.self.now.limit c.in_ok-answer.ensures.step c.in_ok-answer.ensures.sound w.if-self.true w.answer-is
  | else-self w ↦ kept_stopped c.if-self.answer c.step.new.self c.step.new.progress c.step.new.store.items c.settle.new.base c.args.self.now.limit w.answer-is
]

pub returns-clause-stands : goal.returns-clause-stands
returns-clause-stands c h s =
    let m : Standing = standing_of c.args.self.now in
    let m' : Standing = record { node = c.step.new.self; progress = c.step.new.progress; store = c.step.new.store.items; base = c.settle.new.base; next = c.settle.new.next; pushed = c.args.self.now.pushed; limit = c.args.self.now.limit; last = Some c.if-self.answer } in
    let P : Option Val → Type 0 = λ i. Stepped c.in_ok-answer.answer i c.step.new.offer (still m) (still m') m'.progress.focus (state_in m') in
    let w : Moves m m' c.step.new.offer c.in_ok-answer.answer = record {
      stepped = subst P c.offered-offer.ensures c.in_ok-answer.ensures.step;
      sound = c.in_ok-answer.ensures.sound;
      rise = c.in_ok-answer.ensures.paced.ticks_rise;
      what = c.step.ensures.kept;
      next = c.settle.ensures.next;
      base = c.settle.ensures.base;
      pushed = refl;
      limit = refl;
    } in
    elim c.if-self.branch as (λ _. Stands m' h) [
      | then-self b ↦ inside_stands m m' h c.step.new.offer c.in_ok-answer.answer s w b.if-self.true (ap Some b.answer-is)
      | else-self b ↦ past_stands m m' h c.step.new.offer c.in_ok-answer.answer s w b.if-self.false (ap Some b.answer-is)
    ]

pub returns-clause-works : goal.returns-clause-works
returns-clause-works c = elim c.if-self.branch [
  | then-self w ↦ works_now c.in_ok-answer.answer c.if-self.answer c.step.new.fuel c.args.self.now.progress.ticks c.step.new.progress.ticks c.settle.new.base.ticks c.args.self.now.limit c.in_ok-answer.ensures.paced w.if-self.true w.answer-is
  | else-self w ↦ works_stopped c.if-self.answer _ _ w.answer-is
]
