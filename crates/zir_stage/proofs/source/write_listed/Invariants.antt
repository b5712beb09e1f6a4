use Rattle.std.proofs.Common.{◌≡◌, drop}
use Rattle.zir_flow.specs.Threads.{written}
use Rattle.zir_stage.proofs.source.write_listed.Given as goal

abbrev pub invariant-loop-cell : goal.invariant-loop-cell
invariant-loop-cell l = written l.initial.to l.cells l.initial.frame ≡ written l.to (drop l.cell-index l.cells) l.frame
