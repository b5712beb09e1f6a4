-- After each byte: the place so far, and how far line and column can have come.
use Rattle.std.proofs.Common.{◌≡◌, ◌+◌, ◌≤◌, take}
use Rattle.zir_lex.specs.Places.{place_past}
use Rattle.zir_lex.proofs.places.place_past.Given as goal

abbrev pub invariant-loop-byte : goal.invariant-loop-byte
invariant-loop-byte l = record {
  so_far : l.place ≡ place_past l.fn.start (take l.byte-index l.bytes);
  lines : l.place.line ≤ l.fn.start.line + l.byte-index;
  columns : l.place.col ≤ l.fn.start.col + l.byte-index;
}
