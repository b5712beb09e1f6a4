use Rattle.std.proofs.Common.{◌≡◌, max, ◌∙◌, rules, arith}
use Rattle.std.proofs.lemmas.Result.{err_from_is_err_and}
use Rattle.zir_grammar.proofs.Descent.{stop_leads}
use Rattle.zir_parse.proofs.HeadSteps.{declared_taken, declared_all, next_decl}
use Rattle.zir_parse.proofs.ProgramSteps.{decl_room}
use Rattle.zir_parse.proofs.declarations.declarations.Goals as goal

pub returns-in_err-found-clause-read : goal.returns-in_err-found-clause-read
returns-in_err-found-clause-read c most k has =
    let p = err_from_is_err_and c.from_residual.result c.from_residual.ensures.1 in
    rw (p.1, p.2) (stop_leads c.in_err-found.field-0.0 _ _
    (c.loop-word.invariant.read most k has ∙ declared_taken most c.args.room c.loop-word.declarations c.loop-word.high k c.loop-word.rest.now c.in-Some.word c.in-Some.at c.in-Some.after.now c.in-Some.ensures.found has c.loop-word.invariant.high c.requires)
    (c.in_err-found.ensures.read most (next_decl c.loop-word.declarations c.loop-word.high k) (decl_room most c.args.room c.loop-word.declarations c.loop-word.high k has c.loop-word.invariant.high)))

pub loop-word-preserved : goal.loop-word-preserved
loop-word-preserved c =
    let m : c.max-high.result ≡ max c.loop-word.high c.in_ok-found.height = search rules in
    record {
      read = λ most k has. rw (c.in_ok-push.ensures.ok, m)
          (c.loop-word.invariant.read most k has ∙ declared_taken most c.args.room c.loop-word.declarations c.loop-word.high k c.loop-word.rest.now c.in-Some.word c.in-Some.at c.in-Some.after.now c.in-Some.ensures.found has c.loop-word.invariant.high c.requires
          ∙ c.in_ok-found.ensures.read most (next_decl c.loop-word.declarations c.loop-word.high k) (decl_room most c.args.room c.loop-word.declarations c.loop-word.high k has c.loop-word.invariant.high));
      high = omega (arith, m, c.in_ok-found.ensures.high, c.loop-word.invariant.high);
    }

pub returns-clause-read : goal.returns-clause-read
returns-clause-read c most k has =
    c.loop-word.invariant.read most k has ∙ declared_all most c.loop-word.declarations c.loop-word.high k c.loop-word.rest.now c.in_default.ensures.found
