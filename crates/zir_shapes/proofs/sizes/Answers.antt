use Rattle.zir_shapes.proofs.Fitting.{sizes-fit}
use Rattle.zir_shapes.proofs.sizes.Goals as goal

pub returns : goal.returns
returns c = sizes-fit
