use Rattle.std.proofs.Common.{◌≡◌}
use Rattle.zir_sharing.specs.Members.{holds, chosen}
use Rattle.zir_sharing.proofs.words.list.Given as goal

-- the numbers before this one are found
abbrev pub invariant-loop-n : goal.invariant-loop-n
invariant-loop-n l = l.found.items ≡ chosen (holds l.words) l.n 0
