use Rattle.std.proofs.Common.{◌≡◌, drop}
use Rattle.zir_type_components.specs.Numbers.{found}
use Rattle.zir_type_components.proofs.comps.find_from.Given as goal

-- what is found from the start is found from here on
abbrev pub invariant-loop-place : goal.invariant-loop-place
invariant-loop-place l = found (drop l.from l.list) l.id ≡ found (drop l.place l.list) l.id
