use Rattle.std.proofs.Common.{inr, sym, subst, refl}
use Rattle.zir_flow.specs.Threads.{cells_from}
use Rattle.zir_samples.specs.Writing.{Wrote}
use Rattle.zir_stage.specs.Standing.{given, stage_of}
use Rattle.zir_play.specs.Runs.{Played}
use Rattle.zir_laws.specs.Process.{run}
use Rattle.zir_play.specs.Turning.{PutsFront}
use Rattle.zir_play.proofs.Events.{comes_to}
use Rattle.zir_play.proofs.Stepping.{used_up, given_on, given_off, hands_turned, played_value, played_trap, played_spent}
use Rattle.zir_play.proofs.player.Player.turn.Goals as goal

pub returns-in-None-clause-turned : goal.returns-in-None-clause-turned
returns-in-None-clause-turned g c before kept i p xs tail events goes =
    used_up g.K.Sink.stands_for before kept i c.args.code.now p xs tail c.args.sink.now c.args.writer.now _ (stage_of c.args.code.now c.args.stage.now) _ _ goes (inr (_, c.in-None.ensures.came))

pub returns-in-Ok-clause-turned : goal.returns-in-Ok-clause-turned
returns-in-Ok-clause-turned g c before kept i p xs tail events goes =
    let came = comes_to 18446744073709551615 c.args.code.now (stage_of c.args.code.now c.args.stage.now) (stage_of c.args.code.now c.advance.new.self) _ _ c.in-Some-Gives.field-0-is c.in-Some-Gives.ensures.came in
    given_on g.K.Sink.stands_for before kept i c.args.code.now p xs tail c.args.sink.now c.put.new.sink c.args.writer.now c.put.new.writer _ (stage_of c.args.code.now c.args.stage.now) (stage_of c.args.code.now c.advance.new.self) _ _ _ 18446744073709551615 _ _ _ goes came refl
    (subst (λ m. Wrote g.K.Sink.stands_for c.args.sink.now c.put.new.sink c.args.writer.now c.put.new.writer (cells_from c.in-Some-Gives.offer.cells c.in-Some-Gives.offer.at m)) c.given.ensures c.in-Ok.ensures.ok)

pub returns-in-Err-clause-turned : goal.returns-in-Err-clause-turned
returns-in-Err-clause-turned g c before kept i p xs tail events goes =
    let came = comes_to 18446744073709551615 c.args.code.now (stage_of c.args.code.now c.args.stage.now) (stage_of c.args.code.now c.advance.new.self) _ _ c.in-Some-Gives.field-0-is c.in-Some-Gives.ensures.came in
    given_off g.K.Sink.stands_for before kept i c.args.code.now p xs tail c.args.sink.now c.put.new.sink c.args.writer.now _ (stage_of c.args.code.now c.args.stage.now) (stage_of c.args.code.now c.advance.new.self) _ _ 18446744073709551615 _ _ _ goes came
    (subst (λ m. PutsFront g.K.Sink.stands_for c.args.sink.now c.put.new.sink c.args.writer.now (cells_from c.in-Some-Gives.offer.cells c.in-Some-Gives.offer.at m)) c.given.ensures c.in-Err.ensures.failed)

pub returns-in-Some-Needs-clause-turned : goal.returns-in-Some-Needs-clause-turned
returns-in-Some-Needs-clause-turned g c before kept i p xs tail events goes =
    let came = comes_to 18446744073709551615 c.args.code.now (stage_of c.args.code.now c.args.stage.now) (stage_of c.args.code.now c.advance.new.self) _ _ c.in-Some-Needs.field-0-is c.in-Some-Needs.ensures.came in
    hands_turned g.K.Sink.stands_for before kept i c.args.code.now p xs tail c.args.sink.now c.args.writer.now _ (stage_of c.args.code.now c.args.stage.now) (stage_of c.args.code.now c.advance.new.self) _ _ 18446744073709551615 c.in-Some-Needs.point.taken c.in-Some-Needs.point.ticks goes _ _ _ c.in-Some-Needs.point c.hand.result came refl refl c.hand.ensures.hands

pub returns-in-Some-Ends-clause-turned : goal.returns-in-Some-Ends-clause-turned
returns-in-Some-Ends-clause-turned g c before kept i p xs tail events goes =
    let came = comes_to 18446744073709551615 c.args.code.now (stage_of c.args.code.now c.args.stage.now) (stage_of c.args.code.now c.advance.new.self) _ _ c.in-Some-Ends.field-0-is c.in-Some-Ends.ensures.came in
    subst (Played g.K.Sink.stands_for before c.args.sink.now kept c.args.writer.now i (run p xs) xs tail (g.E.ElementSource.left c.args.elements.now) (given (stage_of c.args.code.now c.advance.new.self))) (sym c.new.ensures)
    (played_value g.K.Sink.stands_for before kept i c.args.code.now p xs tail c.args.sink.now c.args.writer.now _ (stage_of c.args.code.now c.args.stage.now) (stage_of c.args.code.now c.advance.new.self) _ _ 18446744073709551615 _ _ goes came)

pub returns-in-Some-Traps-clause-turned : goal.returns-in-Some-Traps-clause-turned
returns-in-Some-Traps-clause-turned g c before kept i p xs tail events goes =
    let came = comes_to 18446744073709551615 c.args.code.now (stage_of c.args.code.now c.args.stage.now) (stage_of c.args.code.now c.advance.new.self) _ _ c.in-Some-Traps.field-0-is c.in-Some-Traps.ensures.came in
    subst (Played g.K.Sink.stands_for before c.args.sink.now kept c.args.writer.now i (run p xs) xs tail (g.E.ElementSource.left c.args.elements.now) (given (stage_of c.args.code.now c.advance.new.self))) (sym c.new-in-Some-Traps.ensures)
    (played_trap g.K.Sink.stands_for before kept i c.args.code.now p xs tail c.args.sink.now c.args.writer.now _ (stage_of c.args.code.now c.args.stage.now) (stage_of c.args.code.now c.advance.new.self) _ _ 18446744073709551615 _ _ goes c.in-Some-Traps.trap _ came)

pub returns-in-Some-Gone-clause-turned : goal.returns-in-Some-Gone-clause-turned
returns-in-Some-Gone-clause-turned g c before kept i p xs tail events goes =
    let came = comes_to 18446744073709551615 c.args.code.now (stage_of c.args.code.now c.args.stage.now) (stage_of c.args.code.now c.advance.new.self) _ _ c.in-Some-Gone.field-0-is c.in-Some-Gone.ensures.came in
    subst (Played g.K.Sink.stands_for before c.args.sink.now kept c.args.writer.now i (run p xs) xs tail (g.E.ElementSource.left c.args.elements.now) (given (stage_of c.args.code.now c.advance.new.self))) (sym c.new-in-Some-Gone.ensures)
    (played_spent g.K.Sink.stands_for before kept i c.args.code.now p xs tail c.args.sink.now c.args.writer.now _ (stage_of c.args.code.now c.args.stage.now) _ _ 18446744073709551615 _ goes came)

pub returns-in-None-clause-keeps : goal.returns-in-None-clause-keeps
returns-in-None-clause-keeps g c = g.E.ElementSource.keeps_same c.args.elements.now

pub returns-in-Ok-clause-keeps : goal.returns-in-Ok-clause-keeps
returns-in-Ok-clause-keeps g c = g.E.ElementSource.keeps_same c.args.elements.now

pub returns-in-Err-clause-keeps : goal.returns-in-Err-clause-keeps
returns-in-Err-clause-keeps g c = g.E.ElementSource.keeps_same c.args.elements.now

pub returns-in-Some-Ends-clause-keeps : goal.returns-in-Some-Ends-clause-keeps
returns-in-Some-Ends-clause-keeps g c = g.E.ElementSource.keeps_same c.args.elements.now

pub returns-in-Some-Traps-clause-keeps : goal.returns-in-Some-Traps-clause-keeps
returns-in-Some-Traps-clause-keeps g c = g.E.ElementSource.keeps_same c.args.elements.now

pub returns-in-Some-Gone-clause-keeps : goal.returns-in-Some-Gone-clause-keeps
returns-in-Some-Gone-clause-keeps g c = g.E.ElementSource.keeps_same c.args.elements.now
