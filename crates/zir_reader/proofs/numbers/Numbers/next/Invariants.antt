use Rattle.std.proofs.Common.{◌≤◌, ◌-◌, if◌then◌else◌, length}
use Rattle.zir_reader.specs.Numbers.{Keeps}
use Rattle.zir_reader.proofs.numbers.Numbers.next.Given as goal

-- nothing that was to come was lost
abbrev pub invariant-loop-number : goal.invariant-loop-number
invariant-loop-number g l = Keeps l.initial.self (g.S.Source.left l.initial.source) l.self (g.S.Source.left l.source) × (g.S.Source.faults l.initial.source ≤ g.S.Source.faults l.source)

abbrev pub decreases-loop-number : goal.decreases-loop-number
decreases-loop-number g l = if l.self.ended then 0 else 4097 - length l.self.bytes
