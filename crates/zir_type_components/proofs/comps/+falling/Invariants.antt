use Rattle.std.proofs.Common.{length}
use Rattle.zir_type_components.proofs.comps.+falling.Given as goal

abbrev pub decreases-falling : goal.decreases-falling
decreases-falling l = length l.list.now
