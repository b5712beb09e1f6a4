use Rattle.std.proofs.Common.{◌∙◌}
use Rattle.std.proofs.lemmas.Result.{err_from_is_err_and}
use Rattle.zir_lex.specs.declared.token.Symbol.TheVariants as symbol
use Rattle.zir_grammar.specs.Parts.{wants_sign}
use Rattle.zir_grammar.proofs.Descent.{stop_leads, fits}
use Rattle.zir_parse_statements.proofs.StmtParts.{value_end, value_closes, value_goes_on}
use Rattle.zir_parse_statements.proofs.statements.returned.Goals as goal

pub returns-in_err-value-clause-read : goal.returns-in_err-value-clause-read
returns-in_err-value-clause-read c most k has =
    let p = err_from_is_err_and c.from_residual.result c.from_residual.ensures.1 in
    rw (p.1, p.2) (c.in_err-value.ensures.read most (value_end k) has)

pub returns-in-Some-clause-read : goal.returns-in-Some-clause-read
returns-in-Some-clause-read c most k has =
    c.in_ok-value.ensures.read most (value_end k) has
    ∙ value_closes most c.args.room k c.in_ok-value.value c.in_ok-value.height c.in_ok-value.rest.now _ c.in-Some.rest.now c.in-Some.ensures.found has c.in_ok-value.ensures.low c.in_ok-value.ensures.high

pub returns-in_err-rest-clause-read : goal.returns-in_err-rest-clause-read
returns-in_err-rest-clause-read c most k has =
    let p = err_from_is_err_and c.from_residual-in_err-rest.result c.from_residual-in_err-rest.ensures.1 in
    rw (p.1, p.2) (stop_leads c.in_err-rest.field-0.0 _ _
    (c.in_ok-value.ensures.read most (value_end k) has
    ∙ value_goes_on most k c.in_ok-value.value c.in_ok-value.height c.in_ok-value.rest.now c.in_default.ensures.found)
    (c.in_err-rest.ensures.read most (wants_sign symbol.RightBrace (k c.in_ok-value.value c.in_ok-value.height))
    (fits most k 1 c.args.room _ c.in_ok-value.height has c.in_ok-value.ensures.low c.in_ok-value.ensures.high)))

pub returns-in_err-rest-2-clause-read : goal.returns-in_err-rest-2-clause-read
returns-in_err-rest-2-clause-read c most k has =
    let p = err_from_is_err_and c.from_residual-in_err-rest-2.result c.from_residual-in_err-rest-2.ensures.1 in
    rw (p.1, p.2) (stop_leads c.in_err-rest-2.field-0.0 _ _
    (c.in_ok-value.ensures.read most (value_end k) has
    ∙ value_goes_on most k c.in_ok-value.value c.in_ok-value.height c.in_ok-value.rest.now c.in_default.ensures.found
    ∙ c.in_ok-rest.ensures.read most (wants_sign symbol.RightBrace (k c.in_ok-value.value c.in_ok-value.height))
    (fits most k 1 c.args.room _ c.in_ok-value.height has c.in_ok-value.ensures.low c.in_ok-value.ensures.high))
    (c.in_err-rest-2.ensures.read most (k c.in_ok-value.value c.in_ok-value.height)
    (fits most k 1 c.args.room _ c.in_ok-value.height has c.in_ok-value.ensures.low c.in_ok-value.ensures.high)))

pub returns-clause-read : goal.returns-clause-read
returns-clause-read c most k has =
    c.in_ok-value.ensures.read most (value_end k) has
    ∙ value_goes_on most k c.in_ok-value.value c.in_ok-value.height c.in_ok-value.rest.now c.in_default.ensures.found
    ∙ c.in_ok-rest.ensures.read most (wants_sign symbol.RightBrace (k c.in_ok-value.value c.in_ok-value.height))
    (fits most k 1 c.args.room _ c.in_ok-value.height has c.in_ok-value.ensures.low c.in_ok-value.ensures.high)
    ∙ c.in_ok-rest-2.ensures.read most (k c.in_ok-value.value c.in_ok-value.height)
    (fits most k 1 c.args.room _ c.in_ok-value.height has c.in_ok-value.ensures.low c.in_ok-value.ensures.high)
