use Rattle.std.specs.Prelude.{◌≡◌, ◌⊎◌, [], Some}
use Rattle.zir_chunk.specs.Contents.{AtMost, last_stamp}
use Rattle.zir_machine.proofs.machine.tests.run.Given as goal

-- the answer is the last one, and the outputs may go on
abbrev pub invariant-events : goal.invariant-events
invariant-events l = record {
  last : l.m.last ≡ Some l.answer;
  size : l.out.size ≡ 1;
  rising : (l.out.elements ≡ []) ⊎ AtMost (last_stamp l.out) l.m.pushed;
}
