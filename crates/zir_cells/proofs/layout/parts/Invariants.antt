use Rattle.std.proofs.Common.{◌≡◌, take}
use Rattle.zir_cells.specs.Layout.{capped, parts_in}
use Rattle.zir_cells.proofs.layout.parts.Given as goal

abbrev pub invariant-loop-length : goal.invariant-loop-length
invariant-loop-length l = l.all ≡ capped (parts_in (take l.length-index l.lengths))
