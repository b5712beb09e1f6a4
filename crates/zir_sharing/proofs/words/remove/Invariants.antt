use Rattle.std.proofs.Common.{◌≡◌, ℕ, ◌<◌, ◌≤◌, length}
use Rattle.std.specs.Prelude.{bit_and}
use Rattle.std.specs.Int.{bit_not, w64}
use Rattle.zir_sharing.specs.Members.{word_at}
use Rattle.zir_sharing.proofs.words.remove.Given as goal

-- the words before this one are done, and the others as they were
abbrev pub invariant-loop-i : goal.invariant-loop-i
invariant-loop-i l = record {
  done : (k : ℕ) → k < l.i → word_at l.words k ≡ bit_and (word_at l.initial.words k) (bit_not w64 (word_at l.others k));
  rest : (k : ℕ) → l.i ≤ k → word_at l.words k ≡ word_at l.initial.words k;
  same : length l.words ≡ length l.initial.words;
}
