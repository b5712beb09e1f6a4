use Rattle.std.proofs.Common.{◌≡◌, length}
use Rattle.zir_chunk.specs.Contents.{AtMost, last_stamp}
use Rattle.zir_chunk.proofs.tests.count.Given as goal

abbrev pub invariant-loop : goal.invariant-loop
invariant-loop l = (l.chunk.size ≡ length l.element) × AtMost (last_stamp l.chunk) l.stamp
