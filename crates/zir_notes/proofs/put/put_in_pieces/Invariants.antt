-- What was put so far, and what is left.
use Rattle.std.proofs.Common.{◌≡◌, ◌≤◌, ℕ, List, ◌++◌, length}
use Rattle.zir_outside.specs.Sinks.{Grew, Tells}
use Rattle.zir_notes.proofs.put.put_in_pieces.Given as goal

abbrev pub invariant-loop-rest : goal.invariant-loop-rest
invariant-loop-rest g l = record {
  front : List ℕ;
  split : l.text ≡ front ++ l.rest;
  grew : Grew (g.N.Sink.stands_for l.initial.sink) (g.N.Sink.stands_for l.sink) front;
  tells : Tells (g.N.Sink.stands_for l.sink) → Tells (g.N.Sink.stands_for l.initial.sink);
  later : g.N.Sink.faults l.initial.sink ≤ g.N.Sink.faults l.sink;
}

abbrev pub decreases-loop-rest : goal.decreases-loop-rest
decreases-loop-rest g l = length l.rest
