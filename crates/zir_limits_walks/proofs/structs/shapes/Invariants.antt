use Rattle.std.proofs.Common.{◌≡◌, [], drop}
use Rattle.zir_types.specs.Known.{shapes_in}
use Rattle.zir_limits_walks.proofs.structs.shapes.Given as goal

-- the structs so far, and what the rest adds
abbrev pub invariant-loop-def : goal.invariant-loop-def
invariant-loop-def l = shapes_in [] l.structs ≡ shapes_in l.shapes.items (drop l.def-index l.structs)
