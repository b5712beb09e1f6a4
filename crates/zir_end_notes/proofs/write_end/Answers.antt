use Rattle.std.proofs.Common.{◌≡◌, sym, ap, ◌∙◌, subst}
use Rattle.zir_outside.specs.Sinks.{Grew, GrewPart}
use Rattle.zir_meaning.specs.Notes.{ended_note, input_note, spent_note, malformed_note, fault_note, trap_note}
use Rattle.zir_end_notes.specs.Endings.{end_note}
use Rattle.zir_end_notes.proofs.Growing.{from_ok, from_error}
use Rattle.zir_end_notes.proofs.write_end.Goals as goal

pub returns-in-Value-clause-failed : goal.returns-in-Value-clause-failed
returns-in-Value-clause-failed g c =
    let s = g.N.Sink.stands_for in
    let note : ended_note c.in-Value.structs.now c.in-Value.ty.now c.in-Value.value.now c.args.taken c.args.written ≡ end_note c.args.end.now c.args.ticks c.args.taken c.args.written = ap (λ e. end_note e c.args.ticks c.args.taken c.args.written) (sym c.in-Value.is) in
    from_error c.write_value.result (subst (λ t. GrewPart t (s c.args.notes.now) (s c.write_value.new.notes)) note) c.write_value.ensures.failed

pub returns-in-Input-clause-failed : goal.returns-in-Input-clause-failed
returns-in-Input-clause-failed g c =
    let s = g.N.Sink.stands_for in
    let text : c.as_bytes.result.now ≡ input_note c.args.taken c.args.written = cc in
    let note : input_note c.args.taken c.args.written ≡ end_note c.args.end.now c.args.ticks c.args.taken c.args.written = ap (λ e. end_note e c.args.ticks c.args.taken c.args.written) (sym c.in-Input.is) in
    from_error c.put.result (subst (λ t. GrewPart t (s c.args.notes.now) (s c.put.new.self)) (text ∙ note)) c.put.ensures.failed

pub returns-in-Trap-clause-failed : goal.returns-in-Trap-clause-failed
returns-in-Trap-clause-failed g c =
    let s = g.N.Sink.stands_for in
    let note : trap_note c.in-Trap.name.now c.in-Trap.trap c.args.taken c.args.written ≡ end_note c.args.end.now c.args.ticks c.args.taken c.args.written = ap (λ e. end_note e c.args.ticks c.args.taken c.args.written) (sym c.in-Trap.is) in
    from_error c.write_trap.result (subst (λ t. GrewPart t (s c.args.notes.now) (s c.write_trap.new.notes)) note) c.write_trap.ensures.failed

pub returns-in-Spent-clause-failed : goal.returns-in-Spent-clause-failed
returns-in-Spent-clause-failed g c =
    let s = g.N.Sink.stands_for in
    let text : c.as_bytes-in-Spent.result.now ≡ spent_note c.args.ticks c.args.written = cc in
    let note : spent_note c.args.ticks c.args.written ≡ end_note c.args.end.now c.args.ticks c.args.taken c.args.written = ap (λ e. end_note e c.args.ticks c.args.taken c.args.written) (sym c.in-Spent.is) in
    from_error c.put-in-Spent.result (subst (λ t. GrewPart t (s c.args.notes.now) (s c.put-in-Spent.new.self)) (text ∙ note)) c.put-in-Spent.ensures.failed

pub returns-in-Malformed-clause-failed : goal.returns-in-Malformed-clause-failed
returns-in-Malformed-clause-failed g c =
    let s = g.N.Sink.stands_for in
    let text : c.as_bytes-in-Malformed.result.now ≡ malformed_note c.in-Malformed.at c.args.taken c.args.written = cc in
    let note : malformed_note c.in-Malformed.at c.args.taken c.args.written ≡ end_note c.args.end.now c.args.ticks c.args.taken c.args.written = ap (λ e. end_note e c.args.ticks c.args.taken c.args.written) (sym c.in-Malformed.is) in
    from_error c.put-in-Malformed.result (subst (λ t. GrewPart t (s c.args.notes.now) (s c.put-in-Malformed.new.self)) (text ∙ note)) c.put-in-Malformed.ensures.failed

pub returns-in-ReadFault-clause-ok : goal.returns-in-ReadFault-clause-ok
returns-in-ReadFault-clause-ok g c =
    let s = g.N.Sink.stands_for in
    let note : fault_note ≡ end_note c.args.end.now c.args.ticks c.args.taken c.args.written = ap (λ e. end_note e c.args.ticks c.args.taken c.args.written) (sym c.in-ReadFault.is) in
    from_ok c.put-in-ReadFault.result (subst (λ t. Grew (s c.args.notes.now) (s c.put-in-ReadFault.new.self) t) note) c.put-in-ReadFault.ensures.ok
