use Rattle.std.proofs.Common.{◌≡◌, ◌++◌, ◌∙◌, ap}
use Rattle.std.specs.Prelude.{codes}
use Rattle.zir_notes.specs.Refusals.{head_of, refusal_note, refusal_place, refusal_words}
use Rattle.zir_notes.proofs.Puts.{part_before, part_behind, at_error, from_error, four_pieces}
use Rattle.zir_notes.proofs.refused.write_refusal.Goals as goal

pub returns-in_err-put_two-clause-failed : goal.returns-in_err-put_two-clause-failed
returns-in_err-put_two-clause-failed g c =
    let head : c.head-head.result.bytes ≡ head_of (refusal_place c.args.why.now) ++ c.words_of-words.result.before.now =
    c.head-head.ensures ∙ ap (λ p. head_of p ++ c.words_of-words.result.before.now) c.place_of.ensures in
    at_error c.from_residual.result
    (part_before (g.N.Sink.stands_for c.args.notes.now) (g.N.Sink.stands_for c.put_two.new.sink) (c.args.name.now ++ c.as_bytes.result.now) (c.words_of-words.result.variable.now ++ c.words_of-words.result.behind.now) (refusal_note c.args.name.now c.args.why.now)
    (four_pieces c.args.name.now (head_of (refusal_place c.args.why.now)) c.words_of-words.result.before.now c.words_of-words.result.variable.now c.words_of-words.result.behind.now (refusal_words c.args.why.now) (codes "\n") c.as_bytes.result.now
    (c.as_bytes.ensures.value ∙ c.deref.ensures.0 ∙ head) c.words_of-words.ensures.words)
    c.in_err-put_two.ensures.failed)

pub returns-clause-failed : goal.returns-clause-failed
returns-clause-failed g c =
    let head : c.head-head.result.bytes ≡ head_of (refusal_place c.args.why.now) ++ c.words_of-words.result.before.now =
    c.head-head.ensures ∙ ap (λ p. head_of p ++ c.words_of-words.result.before.now) c.place_of.ensures in
    from_error c.put_two-2.result
    (part_behind (g.N.Sink.stands_for c.args.notes.now) (g.N.Sink.stands_for c.put_two.new.sink) (g.N.Sink.stands_for c.put_two-2.new.sink) (c.args.name.now ++ c.as_bytes.result.now) (c.words_of-words.result.variable.now ++ c.as_bytes-2.result.now) (refusal_note c.args.name.now c.args.why.now)
    (four_pieces c.args.name.now (head_of (refusal_place c.args.why.now)) c.words_of-words.result.before.now c.words_of-words.result.variable.now c.as_bytes-2.result.now (refusal_words c.args.why.now) (codes "\n") c.as_bytes.result.now
    (c.as_bytes.ensures.value ∙ c.deref.ensures.0 ∙ head) (ap (λ b. c.words_of-words.result.before.now ++ (c.words_of-words.result.variable.now ++ b)) c.as_bytes-2.ensures.value ∙ c.words_of-words.ensures.words))
    c.in_ok-put_two.ensures.ok)
    c.put_two-2.ensures.failed
