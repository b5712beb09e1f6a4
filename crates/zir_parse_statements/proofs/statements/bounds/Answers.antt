use Rattle.std.proofs.Common.{◌∙◌, ap, sym, arith}
use Rattle.std.proofs.lemmas.Result.{err_from_is_err_and}
use Rattle.zir_lex.specs.declared.token.Symbol.TheVariants as symbol
use Rattle.zir_grammar.specs.Machine.{run}
use Rattle.zir_grammar.specs.Parts.{wants_sign}
use Rattle.zir_grammar.proofs.Descent.{stop_leads, fits}
use Rattle.zir_parse_statements.specs.Parsers.{two_exprs}
use Rattle.zir_parse_statements.proofs.StmtParts.{bounds_behind, bounds_begin, bounded}
use Rattle.zir_parse_statements.proofs.statements.bounds.Goals as goal

pub returns-in_err-name-clause-read : goal.returns-in_err-name-clause-read
returns-in_err-name-clause-read c most k has =
    let p = err_from_is_err_and c.from_residual.result c.from_residual.ensures.1 in
    rw (p.1, p.2) (stop_leads c.in_err-name.field-0.0 _ _ (bounds_begin most k c.args.tokens.now)
    (c.in_err-name.ensures.read most (bounds_behind k) (λ x. fits most k 1 c.args.room _ 1 has (omega arith) c.requires)))

pub returns-in_err-rest-clause-read : goal.returns-in_err-rest-clause-read
returns-in_err-rest-clause-read c most k has =
    let p = err_from_is_err_and c.from_residual-in_err-rest.result c.from_residual-in_err-rest.ensures.1 in
    rw (p.1, p.2) (stop_leads c.in_err-rest.field-0.0 _ _
    (bounds_begin most k c.args.tokens.now
    ∙ c.in_ok-name.ensures.read most (bounds_behind k) (λ x. fits most k 1 c.args.room _ 1 has (omega arith) c.requires))
    (c.in_err-rest.ensures.read most (wants_sign symbol.LeftBracket (two_exprs (bounded k c.in_ok-name.name.name c.in_ok-name.name.at)))
    (fits most k 1 c.args.room _ 1 has (omega arith) c.requires)))

pub returns-in_err-rest-2-clause-read : goal.returns-in_err-rest-2-clause-read
returns-in_err-rest-2-clause-read c most k has =
    let p = err_from_is_err_and c.from_residual-in_err-rest-2.result c.from_residual-in_err-rest-2.ensures.1 in
    rw (p.1, p.2) (stop_leads c.in_err-rest-2.field-0.0 _ _
    (bounds_begin most k c.args.tokens.now
    ∙ c.in_ok-name.ensures.read most (bounds_behind k) (λ x. fits most k 1 c.args.room _ 1 has (omega arith) c.requires)
    ∙ c.in_ok-rest.ensures.read most (wants_sign symbol.LeftBracket (two_exprs (bounded k c.in_ok-name.name.name c.in_ok-name.name.at)))
    (fits most k 1 c.args.room _ 1 has (omega arith) c.requires))
    (c.in_err-rest-2.ensures.read most (two_exprs (bounded k c.in_ok-name.name.name c.in_ok-name.name.at))
    (fits most k 1 c.args.room _ 1 has (omega arith) c.requires)))

pub returns-in_err-first-clause-read : goal.returns-in_err-first-clause-read
returns-in_err-first-clause-read c most k has =
    let p = err_from_is_err_and c.from_residual-in_err-first.result c.from_residual-in_err-first.ensures.1 in
    rw (p.1, p.2) (stop_leads c.in_err-first.field-0.0 _ _
    (bounds_begin most k c.args.tokens.now
    ∙ c.in_ok-name.ensures.read most (bounds_behind k) (λ x. fits most k 1 c.args.room _ 1 has (omega arith) c.requires)
    ∙ c.in_ok-rest.ensures.read most (wants_sign symbol.LeftBracket (two_exprs (bounded k c.in_ok-name.name.name c.in_ok-name.name.at)))
    (fits most k 1 c.args.room _ 1 has (omega arith) c.requires)
    ∙ c.in_ok-rest-2.ensures.read most (two_exprs (bounded k c.in_ok-name.name.name c.in_ok-name.name.at))
    (fits most k 1 c.args.room _ 1 has (omega arith) c.requires))
    (c.in_err-first.ensures.read most (bounded k c.in_ok-name.name.name c.in_ok-name.name.at) (λ x h some. has _ h some)))

pub returns-clause-read : goal.returns-clause-read
returns-clause-read c most k has =
    bounds_begin most k c.args.tokens.now
    ∙ c.in_ok-name.ensures.read most (bounds_behind k) (λ x. fits most k 1 c.args.room _ 1 has (omega arith) c.requires)
    ∙ c.in_ok-rest.ensures.read most (wants_sign symbol.LeftBracket (two_exprs (bounded k c.in_ok-name.name.name c.in_ok-name.name.at)))
    (fits most k 1 c.args.room _ 1 has (omega arith) c.requires)
    ∙ c.in_ok-rest-2.ensures.read most (two_exprs (bounded k c.in_ok-name.name.name c.in_ok-name.name.at))
    (fits most k 1 c.args.room _ 1 has (omega arith) c.requires)
    ∙ c.in_ok-first.ensures.read most (bounded k c.in_ok-name.name.name c.in_ok-name.name.at) (λ x h some. has _ h some)
    ∙ ap (λ n. run most (k (n, c.in_ok-first.first, c.in_ok-first.count) c.in_ok-first.height) c.in_ok-first.rest.now) (sym c.in_ok-name.ensures.new)
