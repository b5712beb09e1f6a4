use Rattle.std.proofs.Common.{◌≡◌, take, length}
use Rattle.zir_names.proofs.scope.Scope.leave.Given as goal

-- the first declarations stay, and so does the next number
abbrev pub invariant-loop-self : goal.invariant-loop-self
invariant-loop-self l = (take l.count l.self.open_ ≡ take l.count l.initial.self.open_) × (l.self.next ≡ l.initial.self.next)

abbrev pub decreases-loop-self : goal.decreases-loop-self
decreases-loop-self l = length l.self.open_
