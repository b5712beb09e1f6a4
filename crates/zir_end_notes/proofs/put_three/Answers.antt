use Rattle.std.proofs.Common.{◌++◌}
use Rattle.zir_end_notes.proofs.Growing.{grew_both, part_behind, part_before, from_ok, from_error, at_error}
use Rattle.zir_end_notes.proofs.put_three.Goals as goal

pub returns-in_err-put-clause-failed : goal.returns-in_err-put-clause-failed
returns-in_err-put-clause-failed g c =
    let s = g.N.Sink.stands_for in
    at_error c.from_residual.result (part_before (s c.args.sink.now) (s c.put.new.self) c.args.first.now (c.args.second.now ++ c.args.third.now) c.in_err-put.ensures.failed)

pub returns-in_err-put-2-clause-failed : goal.returns-in_err-put-2-clause-failed
returns-in_err-put-2-clause-failed g c =
    let s = g.N.Sink.stands_for in
    at_error c.from_residual-in_err-put-2.result (part_behind (s c.args.sink.now) (s c.put.new.self) (s c.put-2.new.self) c.args.first.now (c.args.second.now ++ c.args.third.now) c.in_ok-put.ensures.ok
    (part_before (s c.put.new.self) (s c.put-2.new.self) c.args.second.now c.args.third.now c.in_err-put-2.ensures.failed))

pub returns-clause-ok : goal.returns-clause-ok
returns-clause-ok g c =
    let s = g.N.Sink.stands_for in
    from_ok c.put-3.result (λ third. grew_both (s c.args.sink.now) (s c.put.new.self) (s c.put-3.new.self) c.args.first.now (c.args.second.now ++ c.args.third.now) c.in_ok-put.ensures.ok
    (grew_both (s c.put.new.self) (s c.put-2.new.self) (s c.put-3.new.self) c.args.second.now c.args.third.now c.in_ok-put-2.ensures.ok third)) c.put-3.ensures.ok

pub returns-clause-failed : goal.returns-clause-failed
returns-clause-failed g c =
    let s = g.N.Sink.stands_for in
    from_error c.put-3.result (λ third. part_behind (s c.args.sink.now) (s c.put.new.self) (s c.put-3.new.self) c.args.first.now (c.args.second.now ++ c.args.third.now) c.in_ok-put.ensures.ok
    (part_behind (s c.put.new.self) (s c.put-2.new.self) (s c.put-3.new.self) c.args.second.now c.args.third.now c.in_ok-put-2.ensures.ok third)) c.put-3.ensures.failed
