use Rattle.std.proofs.Common.{[], ◌∷◌, refl}
use Rattle.zir_end_notes.proofs.Growing.{part_before, at_error, grew_none, byte_behind}
use Rattle.zir_end_notes.proofs.pieces.add_byte.Goals.{then-is_full+in_ok-put_held, else-is_full}
use Rattle.zir_end_notes.proofs.pieces.add_byte.Goals as goal

pub returns-in_err-put_held-clause-failed : goal.returns-in_err-put_held-clause-failed
returns-in_err-put_held-clause-failed g c =
    let s = g.N.Sink.stands_for in
    at_error c.from_residual.result (record { part = part_before (s c.args.notes.now) (s c.put_held.new.notes) c.args.held.now.items (c.args.byte ∷ []) c.in_err-put_held.ensures.failed })

pub returns-clause-ok : goal.returns-clause-ok
returns-clause-ok g c =
    let s = g.N.Sink.stands_for in
    rw (c.push.ensures.items) (elim c.if-is_full.branch [
      | then-is_full+in_ok-put_held w ↦ rw (w.held-is, w.notes-is, w.put_held.ensures.empty) (byte_behind (s c.args.notes.now) (s w.put_held.new.notes) c.args.held.now.items c.args.byte w.in_ok-put_held.ensures.ok)
      | else-is_full w ↦ rw (w.held-is, w.notes-is) (record { front = []; split = refl; grew = grew_none (s c.args.notes.now) })
    ])
