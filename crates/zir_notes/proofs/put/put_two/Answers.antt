use Rattle.std.specs.Prelude.{refl}
use Rattle.std.proofs.Common.{◌++◌}
use Rattle.zir_notes.proofs.Puts.{part_before, part_behind, at_error, from_error}
use Rattle.zir_notes.proofs.put.put_two.Goals as goal

pub returns-in_err-put_some-clause-failed : goal.returns-in_err-put_some-clause-failed
returns-in_err-put_some-clause-failed g c =
    at_error c.from_residual.result
    (part_before (g.N.Sink.stands_for c.args.sink.now) (g.N.Sink.stands_for c.put_some.new.sink) c.args.first.now c.args.second.now (c.args.first.now ++ c.args.second.now) refl c.in_err-put_some.ensures.failed)

pub returns-clause-failed : goal.returns-clause-failed
returns-clause-failed g c =
    from_error c.put_some-2.result
    (part_behind (g.N.Sink.stands_for c.args.sink.now) (g.N.Sink.stands_for c.put_some.new.sink) (g.N.Sink.stands_for c.put_some-2.new.sink) c.args.first.now c.args.second.now (c.args.first.now ++ c.args.second.now) refl c.in_ok-put_some.ensures.ok)
    c.put_some-2.ensures.failed
