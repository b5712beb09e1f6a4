use Rattle.std.proofs.Common.{◌≡◌, ◌≤◌, ◌%◌, ◌++◌, ◌*◌, ◌/◌, ◌^◌, length}
use Rattle.zir_meaning.specs.Samples.{low_bits}
use Rattle.zir_outside.specs.Sinks.{Tells}
use Rattle.zir_samples.specs.Output.{Puts}
use Rattle.zir_samples.proofs.output.Output.push_number.Given as goal

abbrev pub invariant-loop-i : goal.invariant-loop-i
invariant-loop-i g l = record {
  puts : Puts g.K.Sink.stands_for l.initial.sink l.sink (l.initial.self ++ low_bits (8 * l._i) l.number) l.self;
  left : l.left ≡ l.number / 2 ^ (8 * l._i);
  whole : length l.self % 8 ≡ 0;
  untold : Tells (g.K.Sink.stands_for l.sink) → Tells (g.K.Sink.stands_for l.initial.sink);
  later : g.K.Sink.faults l.initial.sink ≤ g.K.Sink.faults l.sink;
}
