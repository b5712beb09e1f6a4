use Rattle.std.proofs.Common.{◌≡◌, ◌≤◌, length}
use Rattle.zir_reader.proofs.tests.drain.Given as goal

-- there is room for an element, and a failure is a turn
abbrev pub invariant-loop-past : goal.invariant-loop-past
invariant-loop-past g l = (g.E.ElementSource.size l.elements ≡ l.size) × (length l.element.items ≡ l.size) × (l.failed ≤ l._past)
