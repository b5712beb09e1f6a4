use Rattle.std.proofs.Common.{◌≡◌, ◌≤◌}
use Rattle.zir_reader.specs.Gathering.{missing}
use Rattle.zir_reader.specs.Reading.{element_size, left_with}
use Rattle.zir_reader.proofs.reader.Reader.next.Given as goal

-- what is left stays as long as no element is whole
abbrev pub invariant-loop-number : goal.invariant-loop-number
invariant-loop-number g l = (left_with l.self (g.S.Source.left l.source) ≡ left_with l.initial.self (g.S.Source.left l.initial.source)) × (element_size l.self ≡ element_size l.initial.self) × (g.S.Source.faults l.initial.source ≤ g.S.Source.faults l.source)

abbrev pub decreases-loop-number : goal.decreases-loop-number
decreases-loop-number g l = missing l.self.gatherer
