use Rattle.zir_meaning.specs.Instances.{around, comps_of}
use Rattle.zir_bits.proofs.Components.{tr-wide}
use Rattle.zir_bits.proofs.same_traces.Goals as goal

pub returns : goal.returns
returns c core comp s xs = tr-wide (around core) (comps_of (around core) core.instances) comp s xs
