use Rattle.std.proofs.Common.{◌∙◌}
use Rattle.std.proofs.lemmas.Result.{err_from_is_err_and}
use Rattle.zir_grammar.specs.Parts.{reads, behind_semicolon}
use Rattle.zir_grammar.proofs.Descent.{stop_leads}
use Rattle.zir_parse.proofs.MemberSteps.{closed_first, not_closed, closed_then, goes_on}
use Rattle.zir_parse.proofs.members.ended.Goals as goal

pub returns-in-Some-clause-read : goal.returns-in-Some-clause-read
returns-in-Some-clause-read c most done low k fit = closed_first most done low k c.args.tokens.now _ c.in-Some.rest.now c.in-Some.ensures.found fit

pub returns-in_err-rest-clause-read : goal.returns-in_err-rest-clause-read
returns-in_err-rest-clause-read c most done low k fit =
    let p = err_from_is_err_and c.from_residual.result c.from_residual.ensures.1 in
    rw (p.1, p.2) (stop_leads c.in_err-rest.field-0.0 _ _
    (not_closed most done low k c.args.tokens.now c.in_default.ensures.found)
    (c.in_err-rest.ensures.read most (reads (behind_semicolon done low) k) fit))

pub returns-in-Some-symbol-clause-read : goal.returns-in-Some-symbol-clause-read
returns-in-Some-symbol-clause-read c most done low k fit =
    not_closed most done low k c.args.tokens.now c.in_default.ensures.found
    ∙ c.in_ok-rest.ensures.read most (reads (behind_semicolon done low) k) fit
    ∙ closed_then most done low k c.in_ok-rest.rest.now _ c.in-Some-symbol.rest.now c.in-Some-symbol.ensures.found fit

pub returns-clause-read : goal.returns-clause-read
returns-clause-read c most done low k fit =
    not_closed most done low k c.args.tokens.now c.in_default.ensures.found
    ∙ c.in_ok-rest.ensures.read most (reads (behind_semicolon done low) k) fit
    ∙ goes_on most done low k c.in_ok-rest.rest.now c.in_default-symbol.ensures.found
