use Rattle.std.proofs.Common.{◌≡◌, drop}
use Rattle.zir_narrow.specs.Narrow.{is_bound}
use Rattle.zir_narrow.proofs.narrow.contains.Given as goal

-- none so far is this number
abbrev pub invariant-loop-x : goal.invariant-loop-x
invariant-loop-x l = is_bound l.bound l.id ≡ is_bound (drop l.x-index l.bound) l.id
