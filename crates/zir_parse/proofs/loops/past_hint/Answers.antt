use Rattle.std.proofs.Common.{◌∙◌}
use Rattle.std.proofs.lemmas.Result.{err_from_is_err_and}
use Rattle.zir_lex.specs.declared.token.Symbol.TheVariants as symbol
use Rattle.zir_grammar.specs.Wants.{a_number}
use Rattle.zir_grammar.specs.Parts.{wants, wants_sign}
use Rattle.zir_grammar.proofs.Descent.{stop_leads}
use Rattle.zir_parse.proofs.LoopSteps.{repeated, no_hint, hint_begins}
use Rattle.zir_parse.proofs.loops.past_hint.Goals as goal

pub returns-in_default-clause-read : goal.returns-in_default-clause-read
returns-in_default-clause-read c most at k low = no_hint most at k c.args.tokens.now c.in_default.ensures.found

pub returns-in_err-rest-clause-read : goal.returns-in_err-rest-clause-read
returns-in_err-rest-clause-read c most at k low =
    let p = err_from_is_err_and c.from_residual.result c.from_residual.ensures.1 in
    rw (p.1, p.2) (stop_leads c.in_err-rest.field-0.0 _ _
    (hint_begins most at k c.args.tokens.now _ _ c.in-Some.ensures.found low)
    (c.in_err-rest.ensures.read most (λ n. wants_sign symbol.Comma (wants a_number (λ m. wants_sign symbol.RightBracket (repeated at k)))) (λ n. low _)))

pub returns-in_err-rest-2-clause-read : goal.returns-in_err-rest-2-clause-read
returns-in_err-rest-2-clause-read c most at k low =
    let p = err_from_is_err_and c.from_residual-in_err-rest-2.result c.from_residual-in_err-rest-2.ensures.1 in
    rw (p.1, p.2) (stop_leads c.in_err-rest-2.field-0.0 _ _
    (hint_begins most at k c.args.tokens.now _ _ c.in-Some.ensures.found low ∙ c.in_ok-rest.ensures.read most (λ n. wants_sign symbol.Comma (wants a_number (λ m. wants_sign symbol.RightBracket (repeated at k)))) (λ n. low _))
    (c.in_err-rest-2.ensures.read most (wants a_number (λ m. wants_sign symbol.RightBracket (repeated at k))) (low _)))

pub returns-in_err-rest-3-clause-read : goal.returns-in_err-rest-3-clause-read
returns-in_err-rest-3-clause-read c most at k low =
    let p = err_from_is_err_and c.from_residual-in_err-rest-3.result c.from_residual-in_err-rest-3.ensures.1 in
    rw (p.1, p.2) (stop_leads c.in_err-rest-3.field-0.0 _ _
    (hint_begins most at k c.args.tokens.now _ _ c.in-Some.ensures.found low ∙ c.in_ok-rest.ensures.read most (λ n. wants_sign symbol.Comma (wants a_number (λ m. wants_sign symbol.RightBracket (repeated at k)))) (λ n. low _) ∙ c.in_ok-rest-2.ensures.read most (wants a_number (λ m. wants_sign symbol.RightBracket (repeated at k))) (low _))
    (c.in_err-rest-3.ensures.read most (λ n. wants_sign symbol.RightBracket (repeated at k)) (λ n. low _)))

pub returns-in_err-rest-4-clause-read : goal.returns-in_err-rest-4-clause-read
returns-in_err-rest-4-clause-read c most at k low =
    let p = err_from_is_err_and c.from_residual-in_err-rest-4.result c.from_residual-in_err-rest-4.ensures.1 in
    rw (p.1, p.2) (stop_leads c.in_err-rest-4.field-0.0 _ _
    (hint_begins most at k c.args.tokens.now _ _ c.in-Some.ensures.found low ∙ c.in_ok-rest.ensures.read most (λ n. wants_sign symbol.Comma (wants a_number (λ m. wants_sign symbol.RightBracket (repeated at k)))) (λ n. low _) ∙ c.in_ok-rest-2.ensures.read most (wants a_number (λ m. wants_sign symbol.RightBracket (repeated at k))) (low _) ∙ c.in_ok-rest-3.ensures.read most (λ n. wants_sign symbol.RightBracket (repeated at k)) (λ n. low _))
    (c.in_err-rest-4.ensures.read most (repeated at k) (low _)))

pub returns-clause-read : goal.returns-clause-read
returns-clause-read c most at k low =
    hint_begins most at k c.args.tokens.now _ _ c.in-Some.ensures.found low
    ∙ c.in_ok-rest.ensures.read most (λ n. wants_sign symbol.Comma (wants a_number (λ m. wants_sign symbol.RightBracket (repeated at k)))) (λ n. low _)
    ∙ c.in_ok-rest-2.ensures.read most (wants a_number (λ m. wants_sign symbol.RightBracket (repeated at k))) (low _)
    ∙ c.in_ok-rest-3.ensures.read most (λ n. wants_sign symbol.RightBracket (repeated at k)) (λ n. low _)
    ∙ c.in_ok-rest-4.ensures.read most (repeated at k) (low _)
