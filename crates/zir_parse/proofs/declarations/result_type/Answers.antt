use Rattle.std.proofs.Common.{◌∙◌}
use Rattle.std.proofs.lemmas.Result.{err_from_is_err_and}
use Rattle.zir_grammar.proofs.Descent.{stop_leads}
use Rattle.zir_parse.proofs.ProgramSteps.{no_result, result_begins}
use Rattle.std.proofs.Common.{Some}
use Rattle.zir_parse.proofs.declarations.result_type.Goals as goal

pub returns-in_default-clause-read : goal.returns-in_default-clause-read
returns-in_default-clause-read c most k low = no_result most k c.args.tokens.now c.in_default.ensures.found

pub returns-in_err-found-clause-read : goal.returns-in_err-found-clause-read
returns-in_err-found-clause-read c most k low =
    let p = err_from_is_err_and c.from_residual.result c.from_residual.ensures.1 in
    rw (p.1, p.2) (stop_leads c.in_err-found.field-0.0 _ _
    (result_begins most k c.args.tokens.now _ _ c.in-Some.ensures.found low)
    (c.in_err-found.ensures.read most (λ t h. k (Some t) 0) (λ t. low (Some t))))

pub returns-clause-read : goal.returns-clause-read
returns-clause-read c most k low =
    result_begins most k c.args.tokens.now _ _ c.in-Some.ensures.found low
    ∙ c.in_ok-found.ensures.read most (λ t h. k (Some t) 0) (λ t. low (Some t))
