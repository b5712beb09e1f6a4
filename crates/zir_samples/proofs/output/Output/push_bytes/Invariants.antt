use Rattle.std.proofs.Common.{◌≡◌, ◌≤◌, ◌%◌, ◌++◌, length, take}
use Rattle.zir_meaning.specs.Samples.{bits_of}
use Rattle.zir_outside.specs.Sinks.{Tells}
use Rattle.zir_samples.specs.Output.{Puts}
use Rattle.zir_samples.proofs.output.Output.push_bytes.Given as goal

abbrev pub invariant-loop-byte : goal.invariant-loop-byte
invariant-loop-byte g l = record {
  puts : Puts g.K.Sink.stands_for l.initial.sink l.sink (l.initial.self ++ bits_of (take l.byte-index l.bytes)) l.self;
  whole : length l.self % 8 ≡ 0;
  untold : Tells (g.K.Sink.stands_for l.sink) → Tells (g.K.Sink.stands_for l.initial.sink);
  later : g.K.Sink.faults l.initial.sink ≤ g.K.Sink.faults l.sink;
}
