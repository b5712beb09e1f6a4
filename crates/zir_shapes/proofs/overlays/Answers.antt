use Rattle.zir_shapes.proofs.Overlaying.{overlaid-between, overlaid-inside}
use Rattle.zir_shapes.proofs.overlays.Goals as goal

pub returns-clause-between : goal.returns-clause-between
returns-clause-between c = overlaid-between

pub returns-clause-inside : goal.returns-clause-inside
returns-clause-inside c = overlaid-inside
