-- What was added so far.
use Rattle.std.proofs.Common.{◌≤◌, take}
use Rattle.zir_outside.specs.Sinks.{Tells}
use Rattle.zir_end_notes.specs.Pieces.{Adds}
use Rattle.zir_end_notes.proofs.pieces.add.Given as goal

abbrev pub invariant-loop-byte : goal.invariant-loop-byte
invariant-loop-byte g l = record {
  adds : Adds (g.N.Sink.stands_for l.initial.notes) (g.N.Sink.stands_for l.notes) l.initial.held.items l.held.items (take l.byte-index l.bytes);
  tells : Tells (g.N.Sink.stands_for l.notes) → Tells (g.N.Sink.stands_for l.initial.notes);
  later : g.N.Sink.faults l.initial.notes ≤ g.N.Sink.faults l.notes;
}
