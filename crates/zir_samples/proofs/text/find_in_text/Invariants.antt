use Rattle.zir_samples.proofs.Gathering.{HasRead}
use Rattle.zir_samples.proofs.text.find_in_text.Given as goal

abbrev pub invariant-loop-cell : goal.invariant-loop-cell
invariant-loop-cell l = HasRead l.ty.base l.ended l.bytes l.at l.into l.cell-index
