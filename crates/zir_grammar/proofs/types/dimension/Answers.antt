use Rattle.std.proofs.Common.{◌∙◌}
use Rattle.std.proofs.lemmas.Result.{err_from_is_err_and}
use Rattle.zir_lex.specs.declared.token.Symbol.TheVariants as symbol
use Rattle.zir_grammar.specs.Wants.{a_number}
use Rattle.zir_grammar.specs.Parts.{wants, wants_sign}
use Rattle.zir_grammar.proofs.Descent.{stop_leads}
use Rattle.zir_grammar.proofs.types.dimension.Goals as goal

pub returns-in_err-rest-clause-read : goal.returns-in_err-rest-clause-read
returns-in_err-rest-clause-read c most f low =
    let p = err_from_is_err_and c.from_residual.result c.from_residual.ensures.1 in
    rw (p.1, p.2) (c.in_err-rest.ensures.read most (wants a_number (λ n. wants_sign symbol.RightBracket (f n.0))) (low 0))

pub returns-in_err-length-clause-read : goal.returns-in_err-length-clause-read
returns-in_err-length-clause-read c most f low =
    let p = err_from_is_err_and c.from_residual-in_err-length.result c.from_residual-in_err-length.ensures.1 in
    rw (p.1, p.2) (stop_leads c.in_err-length.field-0.0 _ _ (c.in_ok-rest.ensures.read most (wants a_number
    (λ n. wants_sign symbol.RightBracket (f n.0))) (low 0))
    (c.in_err-length.ensures.read most (λ n. wants_sign symbol.RightBracket (f n)) low))

pub returns-in_err-rest-2-clause-read : goal.returns-in_err-rest-2-clause-read
returns-in_err-rest-2-clause-read c most f low =
    let p = err_from_is_err_and c.from_residual-in_err-rest-2.result c.from_residual-in_err-rest-2.ensures.1 in
    rw (p.1, p.2) (stop_leads c.in_err-rest-2.field-0.0 _ _
    (c.in_ok-rest.ensures.read most (wants a_number (λ n. wants_sign symbol.RightBracket (f n.0))) (low 0) ∙ c.in_ok-length.ensures.read most
    (λ n. wants_sign symbol.RightBracket (f n)) low)
    (c.in_err-rest-2.ensures.read most (f c.in_ok-length.length) (low c.in_ok-length.length)))

pub returns-clause-read : goal.returns-clause-read
returns-clause-read c most f low =
    c.in_ok-rest.ensures.read most (wants a_number (λ n. wants_sign symbol.RightBracket (f n.0))) (low 0)
    ∙ c.in_ok-length.ensures.read most (λ n. wants_sign symbol.RightBracket (f n)) low
    ∙ c.in_ok-rest-2.ensures.read most (f c.in_ok-length.length) (low c.in_ok-length.length)
