use Rattle.std.proofs.Common.{◌≡◌, ◌-◌}
use Rattle.zir_expr.specs.Memory.{moved}
use Rattle.zir_expr.proofs.frame.Frame.copy_several.Given as goal

abbrev pub invariant-loop-past : goal.invariant-loop-past
invariant-loop-past l = moved l.n l.initial.to l.initial.from l.initial.self ≡ moved (l.n - l._past) l.to l.from l.self
