use Rattle.std.proofs.Common.{◌≡◌, ◌∙◌, ◌++◌, get_or, take, pos, ap, sym, subst, w64, to_z, of_z, FitsSigned, arith, rules}
use Rattle.std.proofs.lemmas.Int.{to_z-of_z}
use Rattle.std.proofs.lemmas.List.{take_all}
use Rattle.zir_samples.specs.Output.{Puts}
use Rattle.zir_samples.specs.Writing.{all_added}
use Rattle.zir_samples.proofs.Putting.{on_err_any}
use Rattle.zir_samples.proofs.Writing.{push_part, push_step, some-more, some_after, wrote_from}
use Rattle.zir_samples.proofs.writer.Writer.push.Goals as goal

pub returns-in_err-push_number-clause-failed : goal.returns-in_err-push_number-clause-failed
returns-in_err-push_number-clause-failed g c =
    let zs = c.args.element.now in
    let i = c.loop-number.number-index in
    let z = get_or zs i (pos 0) in
    let known : FitsSigned w64 z = search rules in
    let same : to_z w64 (of_z w64 z) ≡ z = to_z-of_z w64 z known in
    let kept = c.loop-number.invariant in
    on_err_any c.from_residual.result (push_part g.K.Sink.stands_for c.args.sink.now c.loop-number.sink c.push_number.new.sink c.args.self.now c.loop-number.self zs i (pos 0) (to_z w64 (of_z w64 z)) c.loop-number-test.true same kept.format kept.base kept.some kept.puts c.in_err-push_number.ensures.failed)

pub loop-number-preserved : goal.loop-number-preserved
loop-number-preserved g c =
    let zs = c.args.element.now in
    let i = c.loop-number.number-index in
    let z = get_or zs i (pos 0) in
    let known : FitsSigned w64 z = search rules in
    let same : to_z w64 (of_z w64 z) ≡ z = to_z-of_z w64 z known in
    let kept = c.loop-number.invariant in
    record {
      puts = push_step g.K.Sink.stands_for c.args.sink.now c.loop-number.sink c.push_number.new.sink c.args.self.now c.loop-number.self c.push_number.new.self.bits zs i (pos 0) (to_z w64 (of_z w64 z)) c.loop-number-test.true same kept.format kept.base kept.some kept.puts c.in_ok-push_number.ensures.ok;
      format = c.push_number.ensures.format ∙ kept.format;
      base = c.push_number.ensures.base ∙ kept.base;
      some = c.push_number.ensures.some ∙ sym (some-more c.args.self.now.some zs i (pos 0) c.loop-number-test.true);
      untold = λ told. kept.untold (c.push_number.ensures.untold told);
      later = omega (arith, kept.later, c.push_number.ensures.cause.later);
    }

pub returns-clause-ok : goal.returns-clause-ok
returns-clause-ok g c =
    let zs = c.args.element.now in
    let kept = c.loop-number.invariant in
    let all : take c.loop-number.number-index zs ≡ zs = take_all c.loop-number.number-index zs c.loop-number-test.false in
    wrote_from g.K.Sink.stands_for c.args.sink.now c.loop-number.sink c.args.self.now c.loop-number.self zs kept.format kept.base (kept.some ∙ ap (some_after c.args.self.now.some) all)
    (subst (λ ys. Puts g.K.Sink.stands_for c.args.sink.now c.loop-number.sink (c.args.self.now.bits ++ all_added c.args.self.now.format c.args.self.now.base c.args.self.now.some ys) c.loop-number.self.bits) all kept.puts)
