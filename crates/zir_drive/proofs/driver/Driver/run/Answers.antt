use Rattle.std.proofs.Common.{Option, ap, sym, subst, refl, arith}
use Rattle.zir_steps.specs.declared.answer.Answer.{Answer}
use Rattle.zir_steps.specs.Says.{MayTick}
use Rattle.zir_drive.specs.Driving.{Goes, Broke}
use Rattle.zir_drive.proofs.Turning.{goes_start, over_from}
use Rattle.zir_drive.proofs.Closing.{over_value, always_ok}
use Rattle.zir_drive.proofs.driver.Driver.run.Goals as goal

pub returns-in-Ok-None-clause-done : goal.returns-in-Ok-None-clause-done
returns-in-Ok-None-clause-done g c n bytes s e =
    let comp = g.W.Worker.component c.args.worker.now in
    let told = g.S.Source.left c.args.input.now in let left = g.S.Source.left c.turn.new.input in
    let turned = rw c.in-Ok-None.field-0-is at c.in-Ok-None.ensures.turned in
    let over = over_from (g.W.Worker.stands_for c.turns.worker) (g.W.Worker.stands_for c.turn.new.worker) g.K.Sink.stands_for c.args.out.now c.turns.out c.turn.new.out told (g.S.Source.left c.turns.input) left c.turns.self c.turn.new.self
    (g.W.Worker.component c.turns.worker) comp n c.turns.answer (g.W.Worker.last c.turn.new.worker) c.turns.invariant.component (turned c.args.out.now told n) (c.turns.invariant.goes n s) in
    c.finish.ensures.done c.args.out.now told left comp n bytes e over

pub returns-in-Ok-None-clause-value : goal.returns-in-Ok-None-clause-value
returns-in-Ok-None-clause-value g c n bytes s e =
    let comp = g.W.Worker.component c.args.worker.now in
    let told = g.S.Source.left c.args.input.now in let left = g.S.Source.left c.turn.new.input in
    let turned = rw c.in-Ok-None.field-0-is at c.in-Ok-None.ensures.turned in
    let over = over_from (g.W.Worker.stands_for c.turns.worker) (g.W.Worker.stands_for c.turn.new.worker) g.K.Sink.stands_for c.args.out.now c.turns.out c.turn.new.out told (g.S.Source.left c.turns.input) left c.turns.self c.turn.new.self
    (g.W.Worker.component c.turns.worker) comp n c.turns.answer (g.W.Worker.last c.turn.new.worker) c.turns.invariant.component (turned c.args.out.now told n) (c.turns.invariant.goes n s) in
    always_ok c.finish.result (over_value (g.W.Worker.stands_for c.turn.new.worker) g.K.Sink.stands_for c.args.out.now c.turn.new.out told left c.turn.new.self comp n (g.W.Worker.last c.turn.new.worker) bytes e over)

pub returns-in-Ok-None-clause-failed : goal.returns-in-Ok-None-clause-failed
returns-in-Ok-None-clause-failed g c n bytes s e =
    let comp = g.W.Worker.component c.args.worker.now in
    let told = g.S.Source.left c.args.input.now in let left = g.S.Source.left c.turn.new.input in
    let turned = rw c.in-Ok-None.field-0-is at c.in-Ok-None.ensures.turned in
    let over = over_from (g.W.Worker.stands_for c.turns.worker) (g.W.Worker.stands_for c.turn.new.worker) g.K.Sink.stands_for c.args.out.now c.turns.out c.turn.new.out told (g.S.Source.left c.turns.input) left c.turns.self c.turn.new.self
    (g.W.Worker.component c.turns.worker) comp n c.turns.answer (g.W.Worker.last c.turn.new.worker) c.turns.invariant.component (turned c.args.out.now told n) (c.turns.invariant.goes n s) in
    c.finish.ensures.failed c.args.out.now told left comp n bytes e over

pub returns-in-Err-clause-failed : goal.returns-in-Err-clause-failed
returns-in-Err-clause-failed g c n bytes s e =
    let told = g.S.Source.left c.args.input.now in
    let broke = subst (λ k. Goes (g.W.Worker.stands_for c.turns.worker) g.K.Sink.stands_for c.args.out.now c.turns.out told (g.S.Source.left c.turns.input) c.turns.self k n c.turns.answer →
    Broke g.K.Sink.stands_for c.args.out.now c.turn.new.out told c.turn.new.self.writer k n c.in-Err.why)
    c.turns.invariant.component (c.in-Err.ensures.turned c.args.out.now told n) (c.turns.invariant.goes n s) in
    c.break_off.ensures.part c.args.out.now told (g.W.Worker.component c.args.worker.now) n bytes e broke

pub turns-init : goal.turns-init
turns-init g c = record {
  fits = let P : Option Answer → Type 0 = MayTick in subst P (sym c.requires.fresh) refl;
  bits = c.requires.bits;
  component = refl;
  reads = ap (λ k. k.failed) c.requires.new.reader;
  reads_later = omega arith;
  writes_later = omega arith;
  goes = λ n s. goes_start (g.W.Worker.stands_for c.args.worker.now) g.K.Sink.stands_for c.args.out.now (g.S.Source.left c.args.input.now) c.args.self (g.W.Worker.component c.args.worker.now) n c.requires.new s;
}
