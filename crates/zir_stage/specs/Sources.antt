-- Cells that go from one place to another.
use Rattle.std.specs.Prelude.{List, ℤ}
use Rattle.zir_flow.specs.Threads.{cells_from}
use Rattle.zir_stage.specs.declared.source.Source.{Source}
use Rattle.zir_stage.specs.declared.source.Source.TheVariants.{Listed, Held}

-- the cells that a source stands for
abbrev pub cells_in : Source → List ℤ
cells_in (Listed cells) = cells.now
cells_in (Held frame at n) = cells_from n at frame.now
