use Rattle.std.proofs.Common.{◌≡◌, max, rules, ◌∙◌, arith}
use Rattle.std.proofs.lemmas.Result.{err_from_is_err_and}
use Rattle.zir_grammar.specs.Parts.{wants_sign}
use Rattle.zir_grammar.proofs.Descent.{stop_leads, fits}
use Rattle.zir_parse_statements.specs.Parsers.{expr_before}
use Rattle.zir_parse_statements.proofs.Steps.{room_first, room_among}
use Rattle.zir_lex.specs.declared.token.Symbol.TheVariants as symbol
use Rattle.zir_parse_statements.proofs.StmtParts.{pair_first, pair_second}
use Rattle.zir_parse_statements.proofs.statements.pair.Goals as goal

pub returns-in_err-first-clause-read : goal.returns-in_err-first-clause-read
returns-in_err-first-clause-read c most k has =
    let p = err_from_is_err_and c.from_residual.result c.from_residual.ensures.1 in
    rw (p.1, p.2) (c.in_err-first.ensures.read most (pair_first k) (λ e h some. room_first most c.args.room k _ h has c.requires some))

pub returns-in_err-rest-clause-read : goal.returns-in_err-rest-clause-read
returns-in_err-rest-clause-read c most k has =
    let p = err_from_is_err_and c.from_residual-in_err-rest.result c.from_residual-in_err-rest.ensures.1 in
    rw (p.1, p.2) (stop_leads c.in_err-rest.field-0.0 _ _
    (c.in_ok-first.ensures.read most (pair_first k) (λ e h some. room_first most c.args.room k _ h has c.requires some))
    (c.in_err-rest.ensures.read most (expr_before symbol.RightBracket (pair_second k c.in_ok-first.first c.in_ok-first.low))
    (fits most k 1 c.args.room _ (max c.in_ok-first.low 1) has (omega arith) (omega (arith, c.in_ok-first.ensures.high, c.requires)))))

pub returns-in_err-second-clause-read : goal.returns-in_err-second-clause-read
returns-in_err-second-clause-read c most k has =
    let p = err_from_is_err_and c.from_residual-in_err-second.result c.from_residual-in_err-second.ensures.1 in
    rw (p.1, p.2) (stop_leads c.in_err-second.field-0.0 _ _
    (c.in_ok-first.ensures.read most (pair_first k) (λ e h some. room_first most c.args.room k _ h has c.requires some)
    ∙ c.in_ok-rest.ensures.read most (expr_before symbol.RightBracket (pair_second k c.in_ok-first.first c.in_ok-first.low))
    (fits most k 1 c.args.room _ (max c.in_ok-first.low 1) has (omega arith) (omega (arith, c.in_ok-first.ensures.high, c.requires))))
    (c.in_err-second.ensures.read most (λ f g. wants_sign symbol.RightBracket (pair_second k c.in_ok-first.first c.in_ok-first.low f g))
    (λ f g some. room_among most c.args.room c.in_ok-first.low k _ g has some c.in_ok-first.ensures.high)))

pub returns-in_err-rest-2-clause-read : goal.returns-in_err-rest-2-clause-read
returns-in_err-rest-2-clause-read c most k has =
    let p = err_from_is_err_and c.from_residual-in_err-rest-2.result c.from_residual-in_err-rest-2.ensures.1 in
    rw (p.1, p.2) (stop_leads c.in_err-rest-2.field-0.0 _ _
    (c.in_ok-first.ensures.read most (pair_first k) (λ e h some. room_first most c.args.room k _ h has c.requires some)
    ∙ c.in_ok-rest.ensures.read most (expr_before symbol.RightBracket (pair_second k c.in_ok-first.first c.in_ok-first.low))
    (fits most k 1 c.args.room _ (max c.in_ok-first.low 1) has (omega arith) (omega (arith, c.in_ok-first.ensures.high, c.requires)))
    ∙ c.in_ok-second.ensures.read most (λ f g. wants_sign symbol.RightBracket (pair_second k c.in_ok-first.first c.in_ok-first.low f g))
    (λ f g some. room_among most c.args.room c.in_ok-first.low k _ g has some c.in_ok-first.ensures.high))
    (c.in_err-rest-2.ensures.read most (pair_second k c.in_ok-first.first c.in_ok-first.low c.in_ok-second.second c.in_ok-second.high)
    (fits most k 1 c.args.room _ (max c.in_ok-first.low c.in_ok-second.high) has (omega (arith, c.in_ok-first.ensures.low))
    (omega (arith, c.in_ok-first.ensures.high, c.in_ok-second.ensures.high)))))

pub returns-clause-read : goal.returns-clause-read
returns-clause-read c most k has =
    let m : c.max.result ≡ max c.in_ok-first.low c.in_ok-second.high = search rules in
    rw m
    (c.in_ok-first.ensures.read most (pair_first k) (λ e h some. room_first most c.args.room k _ h has c.requires some)
    ∙ c.in_ok-rest.ensures.read most (expr_before symbol.RightBracket (pair_second k c.in_ok-first.first c.in_ok-first.low))
    (fits most k 1 c.args.room _ (max c.in_ok-first.low 1) has (omega arith) (omega (arith, c.in_ok-first.ensures.high, c.requires)))
    ∙ c.in_ok-second.ensures.read most (λ f g. wants_sign symbol.RightBracket (pair_second k c.in_ok-first.first c.in_ok-first.low f g))
    (λ f g some. room_among most c.args.room c.in_ok-first.low k _ g has some c.in_ok-first.ensures.high)
    ∙ c.in_ok-rest-2.ensures.read most (pair_second k c.in_ok-first.first c.in_ok-first.low c.in_ok-second.second c.in_ok-second.high)
    (fits most k 1 c.args.room _ (max c.in_ok-first.low c.in_ok-second.high) has (omega (arith, c.in_ok-first.ensures.low))
    (omega (arith, c.in_ok-first.ensures.high, c.in_ok-second.ensures.high))))
