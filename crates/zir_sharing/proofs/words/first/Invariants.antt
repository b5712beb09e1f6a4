use Rattle.std.proofs.Common.{◌≡◌, ℕ, ◌<◌}
use Rattle.zir_sharing.specs.Members.{word_at}
use Rattle.zir_sharing.proofs.words.first.Given as goal

-- no bit is set in the words before this one
abbrev pub invariant-loop-i : goal.invariant-loop-i
invariant-loop-i l = (k : ℕ) → k < l.i → word_at l.words k ≡ 0
