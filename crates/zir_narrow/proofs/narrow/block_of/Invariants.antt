use Rattle.std.proofs.Common.{◌≡◌, [], drop}
use Rattle.zir_narrow.proofs.Lists.{each, gathered}
use Rattle.zir_narrow.proofs.narrow.block_of.Given as goal

-- what is made so far, and what the rest makes
abbrev pub invariant-loop-index : goal.invariant-loop-index
invariant-loop-index l = each [] l.ms ≡ gathered l.made (each l.bound.items (drop l.index l.ms))
