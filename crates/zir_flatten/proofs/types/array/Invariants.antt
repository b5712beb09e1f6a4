use Rattle.std.proofs.Common.{◌≡◌, ◌∷◌, take}
use Rattle.zir_flatten.proofs.types.array.Given as goal

abbrev pub invariant-loop-length : goal.invariant-loop-length
invariant-loop-length l = l.lengths ≡ l.n ∷ take l.length-index l.length-items
