use Rattle.std.proofs.Common.{◌∙◌, arith}
use Rattle.std.proofs.lemmas.Result.{err_from_is_err_and}
use Rattle.zir_lex.specs.declared.token.Symbol.TheVariants as symbol
use Rattle.zir_grammar.specs.Parts.{wants_sign}
use Rattle.zir_grammar.proofs.Descent.{stop_leads, fits}
use Rattle.zir_parse_statements.specs.Parsers.{expr_before}
use Rattle.zir_parse_statements.proofs.statements.condition.Goals as goal

pub returns-in_err-rest-clause-read : goal.returns-in_err-rest-clause-read
returns-in_err-rest-clause-read c most k has =
    let p = err_from_is_err_and c.from_residual.result c.from_residual.ensures.1 in
    rw (p.1, p.2) (c.in_err-rest.ensures.read most (expr_before symbol.RightParenthesis k) (fits most k 1 c.args.room _ 1 has (omega arith) c.requires))

pub returns-in_err-value-clause-read : goal.returns-in_err-value-clause-read
returns-in_err-value-clause-read c most k has =
    let p = err_from_is_err_and c.from_residual-in_err-value.result c.from_residual-in_err-value.ensures.1 in
    rw (p.1, p.2) (stop_leads c.in_err-value.field-0.0 _ _
    (c.in_ok-rest.ensures.read most (expr_before symbol.RightParenthesis k) (fits most k 1 c.args.room _ 1 has (omega arith) c.requires))
    (c.in_err-value.ensures.read most (λ e h. wants_sign symbol.RightParenthesis (k e h)) has))

pub returns-in_err-rest-2-clause-read : goal.returns-in_err-rest-2-clause-read
returns-in_err-rest-2-clause-read c most k has =
    let p = err_from_is_err_and c.from_residual-in_err-rest-2.result c.from_residual-in_err-rest-2.ensures.1 in
    rw (p.1, p.2) (stop_leads c.in_err-rest-2.field-0.0 _ _
    (c.in_ok-rest.ensures.read most (expr_before symbol.RightParenthesis k) (fits most k 1 c.args.room _ 1 has (omega arith) c.requires)
    ∙ c.in_ok-value.ensures.read most (λ e h. wants_sign symbol.RightParenthesis (k e h)) has)
    (c.in_err-rest-2.ensures.read most (k c.in_ok-value.value c.in_ok-value.height)
    (fits most k 1 c.args.room _ c.in_ok-value.height has c.in_ok-value.ensures.low c.in_ok-value.ensures.high)))

pub returns-clause-read : goal.returns-clause-read
returns-clause-read c most k has =
    c.in_ok-rest.ensures.read most (expr_before symbol.RightParenthesis k) (fits most k 1 c.args.room _ 1 has (omega arith) c.requires)
    ∙ c.in_ok-value.ensures.read most (λ e h. wants_sign symbol.RightParenthesis (k e h)) has
    ∙ c.in_ok-rest-2.ensures.read most (k c.in_ok-value.value c.in_ok-value.height)
    (fits most k 1 c.args.room _ c.in_ok-value.height has c.in_ok-value.ensures.low c.in_ok-value.ensures.high)
