use Rattle.std.proofs.Common.{vec_len, ◌≤◌, ◌-◌}
use Rattle.zir_outside.proofs.real.read_text.Given as goal

abbrev pub invariant-loop-piece : goal.invariant-loop-piece
invariant-loop-piece g l = vec_len l.into ≤ 65537

abbrev pub decreases-loop-piece : goal.decreases-loop-piece
decreases-loop-piece g l = 65537 - vec_len l.into
