use Rattle.std.proofs.Common.{◌≡◌, ◌++◌, refl, sym, ap, ◌∙◌, arith, rules, append_assoc}
use Rattle.zir_notes.proofs.Puts.{grew_both, part_before, part_behind, at_error, from_error}
use Rattle.zir_notes.proofs.put.put_in_pieces.Goals as goal

pub returns-in_err-put-clause-failed : goal.returns-in_err-put-clause-failed
returns-in_err-put-clause-failed g c =
    let rest : c.loop-rest.rest.now ≡ c.split_at.result.0.now ++ c.split_at.result.1.now = search rules in
    at_error c.from_residual.result
    (part_behind (g.N.Sink.stands_for c.args.sink.now) (g.N.Sink.stands_for c.loop-rest.sink) (g.N.Sink.stands_for c.put.new.self) c.loop-rest.invariant.front c.loop-rest.rest.now c.args.text.now c.loop-rest.invariant.split c.loop-rest.invariant.grew
    (part_before (g.N.Sink.stands_for c.loop-rest.sink) (g.N.Sink.stands_for c.put.new.self) c.split_at.result.0.now c.split_at.result.1.now c.loop-rest.rest.now rest c.in_err-put.ensures.failed))

pub loop-rest-preserved : goal.loop-rest-preserved
loop-rest-preserved g c =
    let rest : c.loop-rest.rest.now ≡ c.split_at.result.0.now ++ c.split_at.result.1.now = search rules in
    record {
      front = c.loop-rest.invariant.front ++ c.split_at.result.0.now;
      split = c.loop-rest.invariant.split ∙ ap (λ l. c.loop-rest.invariant.front ++ l) rest ∙ sym (append_assoc c.loop-rest.invariant.front c.split_at.result.0.now c.split_at.result.1.now);
      grew = grew_both (g.N.Sink.stands_for c.args.sink.now) (g.N.Sink.stands_for c.loop-rest.sink) (g.N.Sink.stands_for c.put.new.self) c.loop-rest.invariant.front c.split_at.result.0.now (c.loop-rest.invariant.front ++ c.split_at.result.0.now) refl c.loop-rest.invariant.grew c.in_ok-put.ensures.ok;
      tells = λ t. c.loop-rest.invariant.tells (c.in_ok-put.ensures.untold t);
      later = omega (arith, c.loop-rest.invariant.later, c.in_ok-put.ensures.cause.later);
    }

pub returns-clause-failed : goal.returns-clause-failed
returns-clause-failed g c =
    from_error c.put_some.result
    (part_behind (g.N.Sink.stands_for c.args.sink.now) (g.N.Sink.stands_for c.loop-rest.sink) (g.N.Sink.stands_for c.put_some.new.sink) c.loop-rest.invariant.front c.loop-rest.rest.now c.args.text.now c.loop-rest.invariant.split c.loop-rest.invariant.grew)
    c.put_some.ensures.failed
