use Rattle.std.proofs.Common.{◌≡◌, take, map}
use Rattle.zir_limits.proofs.known.lengths.Given as goal

abbrev pub invariant-loop-dimension : goal.invariant-loop-dimension
invariant-loop-dimension l = l.lengths ≡ map (λ d. d.length) (take l.dimension-index l.dimensions)
