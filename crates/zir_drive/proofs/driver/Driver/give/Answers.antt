use Rattle.std.proofs.Common.{OnOk, ◌≤◌, ◌∷◌, ◌++◌, [], refl, ◌∙◌, subst, arith}
use Rattle.zir_steps.specs.declared.answer.Answer.TheVariants.{Yield}
use Rattle.zir_drive.specs.Runs.{history}
use Rattle.zir_drive.proofs.Giving.{gave_one, gave_failed}
use Rattle.zir_drive.proofs.Traces.{given-few}
use Rattle.zir_drive.proofs.Turning.{handed_worked, handed_turned, more_within, count_more, moved_more}
use Rattle.zir_drive.proofs.driver.Driver.give.Goals as goal

pub put-requires-clause-few : goal.put-requires-clause-few
put-requires-clause-few g c =
    let live = c.requires.live in
    let comp = g.W.Worker.component c.args.worker.now in
    omega (arith, given-few comp live.ticks live.received live.given (g.met.W.Worker.front c.args.worker.now (history comp live.ticks live.received live.given) live.kept.stands), live.few, live.kept.given)

pub returns-in-Ok-clause-turned : goal.returns-in-Ok-clause-turned
returns-in-Ok-clause-turned g c before told left n goes =
    let comp = g.W.Worker.component c.args.worker.now in
    let f = goes.fed in
    let p = c.in-Ok.ensures.put (history comp n f.received goes.given) f.kept.stands in
    let os = goes.given ++ p.0 ∷ [] in
    handed_turned (g.W.Worker.stands_for c.work.new.worker) g.K.Sink.stands_for before c.put.new.out told left c.put.new.self comp n (g.W.Worker.last c.work.new.worker) os c.work.result
    (gave_one g.K.Sink.stands_for before c.args.out.now c.put.new.out c.args.self.now.writer c.put.new.self.writer goes.given p.0 goes.gave p.2)
    (handed_worked (g.W.Worker.stands_for c.put.new.worker) (g.W.Worker.stands_for c.work.new.worker) told left c.put.new.self comp n (g.W.Worker.last c.work.new.worker)
    (λ h. h) (history comp n f.received os) f.received os c.work.result
    c.work.ensures.worked p.1 refl (c.put.ensures.handed ∙ f.kept.handed) (c.put.ensures.given ∙ count_more c.args.self.now.given goes.given p.0 f.kept.given)
    (λ bytes e. rw c.put.ensures.reader (f.came bytes e))
    (more_within (g.W.Worker.stands_for c.args.worker.now) (g.W.Worker.stands_for c.put.new.worker) told left c.args.self.now comp n _ goes.given p.0 (g.met.W.Worker.front c.put.new.worker) f p.1))

pub returns-in-Ok-clause-moved : goal.returns-in-Ok-clause-moved
returns-in-Ok-clause-moved g c =
    let live = c.requires.live in
    let comp = g.W.Worker.component c.args.worker.now in
    let p = c.in-Ok.ensures.put (history comp live.ticks live.received live.given) live.kept.stands in
    let os = live.given ++ p.0 ∷ [] in
    moved_more _ (g.W.Worker.stands_for c.put.new.worker) (g.W.Worker.stands_for c.work.new.worker) Yield (g.W.Worker.last c.work.new.worker) c.args.self.now c.put.new.self (g.W.Worker.own c.args.worker.now) (g.W.Worker.own c.work.new.worker) c.work.result
    c.work.ensures.worked c.work.ensures.last (subst (λ k. OnOk c.work.result (k ≤ g.W.Worker.own c.work.new.worker)) c.put.ensures.counts c.work.ensures.counts)
    (omega (arith, given-few comp live.ticks live.received os (g.met.W.Worker.front c.put.new.worker (history comp live.ticks live.received os) p.1), live.few, count_more c.args.self.now.given live.given p.0 live.kept.given, c.put.ensures.handed, c.put.ensures.given))

pub returns-in-Err-clause-turned : goal.returns-in-Err-clause-turned
returns-in-Err-clause-turned g c before told left n goes =
    let comp = g.W.Worker.component c.args.worker.now in
    let f = goes.fed in
    let p = c.in-Err.ensures.put (history comp n f.received goes.given) f.kept.stands in (
      goes.given ++ p.0 ∷ [],
      more_within (g.W.Worker.stands_for c.args.worker.now) (g.W.Worker.stands_for c.put.new.worker) told left c.args.self.now comp n _ goes.given p.0 (g.met.W.Worker.front c.put.new.worker) f p.1,
      gave_failed g.K.Sink.stands_for before c.args.out.now c.put.new.out c.args.self.now.writer goes.given p.0 goes.gave p.2,
    )
