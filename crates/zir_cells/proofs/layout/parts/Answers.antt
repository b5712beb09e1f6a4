use Rattle.std.proofs.Common.{◌∙◌, refl}
use Rattle.zir_cells.proofs.Capping.{next_parts}
use Rattle.zir_cells.proofs.layout.parts.Goals as goal

pub loop-length-preserved : goal.loop-length-preserved
loop-length-preserved c =
    c.saturating_mul-all.ensures
    ∙ next_parts c.args.lengths.now c.loop-length.length-index c.loop-length.all _ c.loop-length-test.true refl c.loop-length.invariant
