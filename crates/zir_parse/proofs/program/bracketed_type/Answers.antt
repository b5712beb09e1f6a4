use Rattle.std.proofs.Common.{◌∙◌}
use Rattle.std.proofs.lemmas.Result.{err_from_is_err_and}
use Rattle.zir_lex.specs.declared.token.Symbol.TheVariants as symbol
use Rattle.zir_grammar.specs.Parts.{reads, wants_sign, a_type_part}
use Rattle.zir_grammar.proofs.Descent.{stop_leads}
use Rattle.zir_parse.proofs.program.bracketed_type.Goals as goal

pub returns-in_err-rest : goal.returns-in_err-rest
returns-in_err-rest c most f low =
    let p = err_from_is_err_and c.from_residual.result c.from_residual.ensures.1 in
    rw (p.1, p.2) (c.in_err-rest.ensures.read most (reads a_type_part (λ t h. wants_sign symbol.RightBracket (f t))) (low _))

pub returns-in_err-found : goal.returns-in_err-found
returns-in_err-found c most f low =
    let p = err_from_is_err_and c.from_residual-in_err-found.result c.from_residual-in_err-found.ensures.1 in
    rw (p.1, p.2) (stop_leads c.in_err-found.field-0.0 _ _
    (c.in_ok-rest.ensures.read most (reads a_type_part (λ t h. wants_sign symbol.RightBracket (f t))) (low _))
    (c.in_err-found.ensures.read most (λ t h. wants_sign symbol.RightBracket (f t)) (λ t. low t)))

pub returns-in_err-rest-2 : goal.returns-in_err-rest-2
returns-in_err-rest-2 c most f low =
    let p = err_from_is_err_and c.from_residual-in_err-rest-2.result c.from_residual-in_err-rest-2.ensures.1 in
    rw (p.1, p.2) (stop_leads c.in_err-rest-2.field-0.0 _ _
    (c.in_ok-rest.ensures.read most (reads a_type_part (λ t h. wants_sign symbol.RightBracket (f t))) (low _)
    ∙ c.in_ok-found.ensures.read most (λ t h. wants_sign symbol.RightBracket (f t)) (λ t. low t))
    (c.in_err-rest-2.ensures.read most (f c.in_ok-found.found) (low c.in_ok-found.found)))

pub returns : goal.returns
returns c most f low =
    c.in_ok-rest.ensures.read most (reads a_type_part (λ t h. wants_sign symbol.RightBracket (f t))) (low _)
    ∙ c.in_ok-found.ensures.read most (λ t h. wants_sign symbol.RightBracket (f t)) (λ t. low t)
    ∙ c.in_ok-rest-2.ensures.read most (f c.in_ok-found.found) (low c.in_ok-found.found)
