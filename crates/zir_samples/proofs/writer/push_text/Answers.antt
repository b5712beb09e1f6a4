use Rattle.std.proofs.Common.{ℕ, ◌≡◌, List, ◌∷◌, [], ap, ◌∙◌, w64}
use Rattle.std.proofs.lemmas.Int.{to_z-of_z}
use Rattle.std.proofs.lemmas.Result.{on_ok_weaker, on_err_weaker}
use Rattle.std.specs.Fmt.{signed_decimal}
use Rattle.std.specs.Prelude.{if◌then◌else◌}
use Rattle.zir_samples.proofs.Putting.{on_err_any, text_front, text_part, text_then}
use Rattle.zir_samples.proofs.writer.push_text.Goals as goal

-- the text of the number
text : (g : _) (c : goal.After-t15-1 g) → c.as_bytes.result.now ≡ signed_decimal c.args.number
text g c = c.as_bytes.ensures.value ∙ c.format.ensures.text ∙ ap signed_decimal (to_z-of_z w64 c.args.number c.ranges.number)

pub returns-in_err-push_mark-clause-failed : goal.returns-in_err-push_mark-clause-failed
returns-in_err-push_mark-clause-failed g c =
    let comma : List ℕ = if c.args.some then 44 ∷ [] else [] in
    on_err_any c.from_residual.result (text_front (g.K.Sink.stands_for c.args.sink.now) (g.K.Sink.stands_for c.push_mark.new.sink) c.args.output.now comma (signed_decimal c.args.number) c.in_err-push_mark.ensures.failed)

pub returns-clause-ok : goal.returns-clause-ok
returns-clause-ok g c =
    let comma : List ℕ = if c.args.some then 44 ∷ [] else [] in
    on_ok_weaker c.push_bytes.result (λ puts. text_then g.K.Sink.stands_for c.args.sink.now c.push_mark.new.sink c.push_bytes.new.sink c.args.output.now c.push_mark.new.output c.push_bytes.new.self comma (signed_decimal c.args.number) c.as_bytes.result.now (text g c) c.in_ok-push_mark.ensures.ok puts) c.push_bytes.ensures.ok

pub returns-clause-failed : goal.returns-clause-failed
returns-clause-failed g c =
    let comma : List ℕ = if c.args.some then 44 ∷ [] else [] in
    on_err_weaker c.push_bytes.result (λ part. text_part g.K.Sink.stands_for c.args.sink.now c.push_mark.new.sink c.push_bytes.new.sink c.args.output.now c.push_mark.new.output comma (signed_decimal c.args.number) c.as_bytes.result.now (text g c) c.in_ok-push_mark.ensures.ok part) c.push_bytes.ensures.failed
