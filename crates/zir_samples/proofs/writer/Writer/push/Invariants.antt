use Rattle.std.proofs.Common.{◌≡◌, ◌≤◌, ◌++◌, take}
use Rattle.zir_outside.specs.Sinks.{Tells}
use Rattle.zir_samples.specs.Output.{Puts}
use Rattle.zir_samples.specs.Writing.{all_added}
use Rattle.zir_samples.proofs.Writing.{some_after}
use Rattle.zir_samples.proofs.writer.Writer.push.Given as goal

abbrev pub invariant-loop-number : goal.invariant-loop-number
invariant-loop-number g l = record {
  puts : Puts g.K.Sink.stands_for l.initial.sink l.sink (l.initial.self.bits ++ all_added l.initial.self.format l.initial.self.base l.initial.self.some (take l.number-index l.element)) l.self.bits;
  format : l.self.format ≡ l.initial.self.format;
  base : l.self.base ≡ l.initial.self.base;
  some : l.self.some ≡ some_after l.initial.self.some (take l.number-index l.element);
  untold : Tells (g.K.Sink.stands_for l.sink) → Tells (g.K.Sink.stands_for l.initial.sink);
  later : g.K.Sink.faults l.initial.sink ≤ g.K.Sink.faults l.sink;
}
