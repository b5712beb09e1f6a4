use Rattle.std.proofs.Common.{◌≡◌, take}
use Rattle.zir_cells.specs.Layout.{capped}
use Rattle.zir_eval.specs.Opening.{held_cells}
use Rattle.zir_eval.proofs.opening.base_of.Given as goal

-- the cells of those so far
abbrev pub invariant-loop-holder : goal.invariant-loop-holder
invariant-loop-holder l = l.total ≡ capped (held_cells (take l.holder-index l.holder-items))
