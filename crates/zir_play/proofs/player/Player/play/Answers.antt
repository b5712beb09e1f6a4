use Rattle.std.proofs.Common.{◌+◌, ◌∙◌, inl, refl, add-one, sym, arith}
use Rattle.zir_stage.specs.Standing.{given, stage_of}
use Rattle.zir_play.proofs.Stepping.{goes_from, turned_end, turned_on_from, used_up}
use Rattle.zir_play.proofs.player.Player.play.Goals as goal

pub loop-events-init : goal.loop-events-init
loop-events-init g c = record {
  goes = λ i p xs tail performs told shaped.
      goes_from g.K.Sink.stands_for c.args.sink.now c.args.writer.now i c.args.code.now p xs tail _ _ performs told shaped;
  few = omega arith;
  room = refl;
  size = refl;
  keeps = g.E.ElementSource.keeps_same c.args.elements.now;
  shape = refl;
  reads_later = omega arith;
  writes_later = omega arith;
  untold = λ told. told;
}

pub returns-in-Ok-Some-clause-comes : goal.returns-in-Ok-Some-clause-comes
returns-in-Ok-Some-clause-comes g c i p xs tail performs told shaped =
    let s = stage_of c.args.code.now c.turn.new.stage in
    turned_end g.K.Sink.stands_for c.args.sink.now c.turn.new.sink c.args.writer.now c.turn.new.writer i c.args.code.now p xs tail
    (g.E.ElementSource.left c.turn.new.elements) s (given s) c.turn.new.written c.loop-events._events c.in-Ok-Some.field-0 c.in-Ok-Some.outcome c.in-Ok-Some.field-0-is
    (c.in-Ok-Some.ensures.turned c.args.sink.now c.args.writer.now i p xs tail c.loop-events._events (c.loop-events.invariant.goes i p xs tail performs told shaped))

pub returns-in-Err-clause-comes : goal.returns-in-Err-clause-comes
returns-in-Err-clause-comes g c i p xs tail performs told shaped =
    c.in-Err.ensures.turned c.args.sink.now c.args.writer.now i p xs tail c.loop-events._events (c.loop-events.invariant.goes i p xs tail performs told shaped)

pub loop-events-preserved : goal.loop-events-preserved
loop-events-preserved g c = record {
  goes = λ i p xs tail performs told shaped.
      let s = stage_of c.args.code.now c.turn.new.stage in
      turned_on_from g.K.Sink.stands_for c.args.sink.now c.turn.new.sink c.args.writer.now c.turn.new.writer i c.args.code.now p xs tail
      (g.E.ElementSource.left c.turn.new.elements) s (given s) c.turn.new.written c.loop-events._events (c.loop-events._events + 1) c.in-Ok-None.field-0 c.in-Ok-None.field-0-is
      (sym (add-one c.loop-events._events))
      (c.in-Ok-None.ensures.turned c.args.sink.now c.args.writer.now i p xs tail c.loop-events._events (c.loop-events.invariant.goes i p xs tail performs told shaped));
  few = omega (arith, c.turn.ensures.few, c.loop-events.invariant.few);
  room = c.turn.ensures.room ∙ c.loop-events.invariant.room;
  size = c.turn.ensures.size ∙ c.loop-events.invariant.size;
  keeps = g.E.ElementSource.keeps_on c.args.elements.now c.loop-events.elements c.turn.new.elements c.loop-events.invariant.keeps c.turn.ensures.keeps;
  shape = c.turn.ensures.shape ∙ c.loop-events.invariant.shape;
  reads_later = omega (arith, c.turn.ensures.reads_later, c.loop-events.invariant.reads_later);
  writes_later = omega (arith, c.turn.ensures.writes_later, c.loop-events.invariant.writes_later);
  untold = λ told. c.loop-events.invariant.untold (c.turn.ensures.untold told);
}

pub returns-clause-comes : goal.returns-clause-comes
returns-clause-comes g c i p xs tail performs told shaped =
    let goes = c.loop-events.invariant.goes i p xs tail performs told shaped in
    used_up g.K.Sink.stands_for c.args.sink.now c.args.writer.now i c.args.code.now p xs tail c.loop-events.sink c.loop-events.writer
    (g.E.ElementSource.left c.loop-events.elements) (stage_of c.args.code.now c.loop-events.stage) c.loop-events.written c.loop-events._events goes
    (inl (omega (arith, goes.under.events_are, c.loop-events-test.false)))
