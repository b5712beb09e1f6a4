use Rattle.std.proofs.Common.{◌≤◌, ◌-◌}
use Rattle.zir_flow.specs.Threads.{cells_from}
use Rattle.zir_outside.specs.Sinks.{Tells}
use Rattle.zir_play.proofs.Output.{Putting}
use Rattle.zir_play.proofs.player.put.Given as goal

abbrev pub invariant-loop-past : goal.invariant-loop-past
invariant-loop-past g l = record {
  putting : Putting g.K.Sink.stands_for l.initial.sink l.sink l.initial.writer l.writer (cells_from l.fn.offer.cells l.fn.offer.at l.frame)
      (cells_from (l.fn.offer.cells - l._past) l.at l.frame);
  untold : Tells (g.K.Sink.stands_for l.sink) → Tells (g.K.Sink.stands_for l.initial.sink);
  later : g.K.Sink.faults l.initial.sink ≤ g.K.Sink.faults l.sink;
}
