use Rattle.zir_shapes.proofs.Blank.{blanks-have}
use Rattle.zir_shapes.proofs.blanks.Goals as goal

pub returns : goal.returns
returns c = blanks-have
