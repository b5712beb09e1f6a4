use Rattle.std.proofs.Common.{◌≡◌, drop}
use Rattle.zir_eval.specs.Cells.{put_all}
use Rattle.zir_eval.proofs.variables.copy_in.Given as goal

-- what all cells make of the frame is what those from here on make of it
abbrev pub invariant-loop-cell : goal.invariant-loop-cell
invariant-loop-cell l = put_all l.initial.at l.from l.initial.frame ≡ put_all l.i (drop l.cell-index l.from) l.frame
