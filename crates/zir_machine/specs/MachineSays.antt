-- What a machine that stands for a history says of its trace.
use Rattle.std.specs.Prelude.{◌≤◌, ◌≡◌, []}
use Rattle.std.proofs.Common.{ap, sym, ◌∙◌, arith}
use Rattle.std.proofs.lemmas.List.{append-nil}
use Rattle.zir_bit_meaning.specs.Trace.{after}
use Rattle.zir_bit_meaning.specs.Composition.{fresh}
use Rattle.zir_bit_meaning.specs.Trace.{point}
use Rattle.zir_bit_laws.specs.Process.{proc}
use Rattle.zir_bit_laws.specs.Feed.{feed}
use Rattle.zir_bit_laws.proofs.Feed.{feeds}
use Rattle.zir_steps.specs.History.{History, begun, trace_of, IsFront}
use Rattle.zir_machine.specs.MachineStands.{Standing, Stands, still, point_of, waiting, own_of}

-- the trace over what was received is what was given and then what the component still does
pub stands_trace : (m : Standing) (h : History) → Stands m h → trace_of h ≡ after h.given (feed (begun h) (still m) (point_of m.base) (waiting m.next))
stands_trace m h s =
    feeds h.component (begun h) h.received
    ∙ ap (λ os. feed (begun h) (proc h.component (fresh (begun h))) (point (begun h)) os) (sym (append-nil h.received))
    ∙ s.goes []
    ∙ ap (λ os. after h.given (feed (begun h) (still m) (point_of m.base) os)) (append-nil (waiting m.next))

-- what it gave is a front part of the trace
pub stands_front : (m : Standing) (h : History) → Stands m h → IsFront h
stands_front m h s = ((feed (begun h) (still m) (point_of m.base) (waiting m.next)).outs, ap (λ t. t.outs) (stands_trace m h s))

-- it counts no more ticks than it has
pub stands_bounded : (m : Standing) (h : History) → Stands m h → own_of m ≤ h.limit
stands_bounded m h s = let e : h.limit ≡ m.limit = s.limit in omega arith
