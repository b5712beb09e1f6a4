-- What was added so far, and what is left.
use Rattle.std.proofs.Common.{ℕ, List, ◌≤◌}
use Rattle.zir_outside.specs.Sinks.{Tells}
use Rattle.zir_end_notes.specs.Pieces.{Adds}
use Rattle.zir_end_notes.proofs.Commas.{Left}
use Rattle.zir_end_notes.proofs.values.+value.Given as goal

abbrev pub invariant-add_parts-loop-place : goal.invariant-add_parts-loop-place
invariant-add_parts-loop-place g l = record {
  so_far : List ℕ;
  left : Left l.structs l.kinds l.parts l.place so_far;
  adds : Adds (g.N.Sink.stands_for l.initial.notes) (g.N.Sink.stands_for l.notes) l.initial.held.items l.held.items so_far;
  tells : Tells (g.N.Sink.stands_for l.notes) → Tells (g.N.Sink.stands_for l.initial.notes);
  later : g.N.Sink.faults l.initial.notes ≤ g.N.Sink.faults l.notes;
}
