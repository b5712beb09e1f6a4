use Rattle.std.proofs.Common.{rules}
use Rattle.zir_outside.proofs.AppendsLemmas.{Appends-take}
use Rattle.zir_outside.proofs.real.write_whole.Goals as goal

pub loop-done-preserved : goal.loop-done-preserved
loop-done-preserved g c = (search rules, Appends-take _ _ _ c.loop-done.done c.in-Ok.n c.args.piece.now c.loop-done.invariant.1 c.in-Ok.ensures.bytes)
