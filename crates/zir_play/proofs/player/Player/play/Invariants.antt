use Rattle.std.proofs.Common.{◌≡◌, ◌≤◌, List, Some}
use Rattle.zir_tree.specs.declared.value.Val.{Val}
use Rattle.zir_meaning.specs.Elements.{Tail}
use Rattle.zir_meaning.specs.Values.{Each}
use Rattle.zir_laws.specs.Process.{Proc}
use Rattle.zir_shapes.specs.Shapes.{Shaped}
use Rattle.zir_stage.specs.Standing.{shape_of, stage_of}
use Rattle.zir_outside.specs.Sinks.{Tells}
use Rattle.zir_reader.specs.Inputs.{input_of}
use Rattle.zir_play.specs.Performing.{Interface, Performs}
use Rattle.zir_play.specs.Turning.{Goes, room_of}
use Rattle.zir_play.proofs.player.Player.play.Given as goal

abbrev pub invariant-loop-events : goal.invariant-loop-events
invariant-loop-events g l = record {
  goes : (i : Interface) (p : Proc) (xs : List Val) (tail : Tail) → Performs i l.code p (stage_of l.code l.fn.stage) →
      g.E.ElementSource.left l.fn.elements ≡ Some (input_of xs tail) → Each (Shaped i.structs i.input) xs →
      Goes g.K.Sink.stands_for l.fn.sink l.sink l.fn.writer l.writer i l.code p xs tail (g.E.ElementSource.left l.elements) (stage_of l.code l.stage) l.written
      l._events;
  few : l.written ≤ l._events;
  room : room_of l.self ≡ room_of l.fn.self;
  size : g.E.ElementSource.size l.elements ≡ g.E.ElementSource.size l.fn.elements;
  keeps : g.E.ElementSource.keeps l.fn.elements l.elements;
  shape : shape_of l.stage ≡ shape_of l.fn.stage;
  reads_later : g.E.ElementSource.faults l.fn.elements ≤ g.E.ElementSource.faults l.elements;
  writes_later : g.K.Sink.faults l.fn.sink ≤ g.K.Sink.faults l.sink;
  untold : Tells (g.K.Sink.stands_for l.sink) → Tells (g.K.Sink.stands_for l.fn.sink);
}
