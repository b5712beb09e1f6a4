use Rattle.std.proofs.Common.{◌≡◌, take}
use Rattle.zir_types.proofs.scope.copy_all.Given as goal

abbrev pub invariant-loop-ty : goal.invariant-loop-ty
invariant-loop-ty l = l.copies ≡ take l.ty-index l.types
