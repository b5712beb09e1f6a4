use Rattle.std.proofs.Common.{length}
use Rattle.zir_types.proofs.kinds.+agree.Given as goal

abbrev pub decreases-agree : goal.decreases-agree
decreases-agree l = length l.params.now
