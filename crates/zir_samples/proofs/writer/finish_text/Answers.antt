use Rattle.std.proofs.Common.{ℕ, ◌++◌, ◌∷◌, [], true, List}
use Rattle.std.proofs.lemmas.Result.{on_ok_weaker, on_err_weaker}
use Rattle.std.specs.Prelude.{if◌then◌else◌}
use Rattle.zir_meaning.specs.Samples.{bits_of}
use Rattle.zir_samples.proofs.Putting.{on_err_any, part_padded, part_rest, rest_then}
use Rattle.zir_samples.proofs.writer.finish_text.Goals as goal

pub returns-in_err-push_mark-clause-failed : goal.returns-in_err-push_mark-clause-failed
returns-in_err-push_mark-clause-failed g c =
    let last : List ℕ = if c.args.some then 10 ∷ [] else [] in
    on_err_any c.from_residual.result (part_padded (g.K.Sink.stands_for c.args.sink.now) (g.K.Sink.stands_for c.push_mark.new.sink) (c.args.output.now ++ bits_of last) c.in_err-push_mark.ensures.failed)

pub returns-clause-ok : goal.returns-clause-ok
returns-clause-ok g c =
    let last : List ℕ = if c.args.some then 10 ∷ [] else [] in
    on_ok_weaker c.put_rest.result (λ grew. rest_then g.K.Sink.stands_for c.args.sink.now c.push_mark.new.sink c.put_rest.new.sink true (c.args.output.now ++ bits_of last) c.push_mark.new.output c.in_ok-push_mark.ensures.ok grew) c.put_rest.ensures.ok

pub returns-clause-failed : goal.returns-clause-failed
returns-clause-failed g c =
    let last : List ℕ = if c.args.some then 10 ∷ [] else [] in
    on_err_weaker c.put_rest.result (λ part. part_rest g.K.Sink.stands_for c.args.sink.now c.push_mark.new.sink c.put_rest.new.sink true (c.args.output.now ++ bits_of last) c.push_mark.new.output c.in_ok-push_mark.ensures.ok part) c.put_rest.ensures.failed
