use Rattle.std.proofs.Common.{ℕ, List, sym, ap, ◌∙◌, arith}
use Rattle.std.proofs.lemmas.Result.{err_from_is_err_and}
use Rattle.zir_tree.specs.declared.place.Place.{Place}
use Rattle.zir_tree.specs.declared.program.Decl.{Decl}
use Rattle.zir_tree.specs.declared.program.Decl.TheVariants as decl
use Rattle.zir_tree.specs.declared.program.Prog.{Prog}
use Rattle.zir_lex.specs.declared.token.Symbol.TheVariants as symbol
use Rattle.zir_grammar.specs.Grammar.{ident}
use Rattle.zir_grammar.specs.Parts.{Rest, reads, wants_sign, some_params, a_result, a_body}
use Rattle.zir_grammar.specs.Machine.{run}
use Rattle.zir_grammar.proofs.Descent.{stop_leads, fits}
use Rattle.zir_parse.proofs.ProgramSteps.{part_room}
use Rattle.zir_tree.specs.declared.types.Field.{Field}
use Rattle.zir_tree.specs.declared.types.TypeExpr.{TypeExpr}
use Rattle.zir_tree.specs.declared.stmt.Body.{Body}
use Rattle.std.proofs.Common.{Option}
use Rattle.zir_parse.proofs.declarations.plain_function.Goals as goal

-- a function of its parts
abbrev made : Place → List ℕ × Place → List Field → Option TypeExpr → Body → Decl
made at p fs t b = decl.Function (record { name = ident p.0 p.1; params = fs; result = t; body = b; at = at })

abbrev params_of : Place → (Decl → ℕ → Rest Prog) → List ℕ × Place → Rest Prog
params_of at k p = reads some_params (λ fs f. reads a_result (λ t g. reads a_body (λ b h. k (made at p fs t b) h)))

pub returns-in_err-name-clause-read : goal.returns-in_err-name-clause-read
returns-in_err-name-clause-read c most k has =
    let p = err_from_is_err_and c.from_residual.result c.from_residual.ensures.1 in
    rw (p.1, p.2) (c.in_err-name.ensures.read most (λ p. wants_sign symbol.LeftParenthesis (params_of c.args.at k p)) (λ p. fits most k 0 c.args.room _ 1 has (omega arith) c.requires))

pub returns-in_err-rest-clause-read : goal.returns-in_err-rest-clause-read
returns-in_err-rest-clause-read c most k has =
    let p = err_from_is_err_and c.from_residual-in_err-rest.result c.from_residual-in_err-rest.ensures.1 in
    rw (p.1, p.2) (stop_leads c.in_err-rest.field-0.0 _ _
    (c.in_ok-name.ensures.read most (λ p. wants_sign symbol.LeftParenthesis (params_of c.args.at k p)) (λ p. fits most k 0 c.args.room _ 1 has (omega arith) c.requires))
    (c.in_err-rest.ensures.read most (params_of c.args.at k (c.in_ok-name.name.name, c.in_ok-name.name.at)) (fits most k 0 c.args.room _ 1 has (omega arith) c.requires)))

pub returns-in_err-params-clause-read : goal.returns-in_err-params-clause-read
returns-in_err-params-clause-read c most k has =
    let p = err_from_is_err_and c.from_residual-in_err-params.result c.from_residual-in_err-params.ensures.1 in
    rw (p.1, p.2) (stop_leads c.in_err-params.field-0.0 _ _
    (c.in_ok-name.ensures.read most (λ p. wants_sign symbol.LeftParenthesis (params_of c.args.at k p)) (λ p. fits most k 0 c.args.room _ 1 has (omega arith) c.requires)
    ∙ c.in_ok-rest.ensures.read most (params_of c.args.at k (c.in_ok-name.name.name, c.in_ok-name.name.at)) (fits most k 0 c.args.room _ 1 has (omega arith) c.requires))
    (c.in_err-params.ensures.read most (λ fs f. reads a_result (λ t g. reads a_body (λ b h. k (made c.args.at (c.in_ok-name.name.name, c.in_ok-name.name.at) fs t b) h))) (λ fs. fits most k 0 c.args.room _ 1 has (omega arith) c.requires)))

pub returns-in_err-result-clause-read : goal.returns-in_err-result-clause-read
returns-in_err-result-clause-read c most k has =
    let p = err_from_is_err_and c.from_residual-in_err-result.result c.from_residual-in_err-result.ensures.1 in
    rw (p.1, p.2) (stop_leads c.in_err-result.field-0.0 _ _
    (c.in_ok-name.ensures.read most (λ p. wants_sign symbol.LeftParenthesis (params_of c.args.at k p)) (λ p. fits most k 0 c.args.room _ 1 has (omega arith) c.requires)
    ∙ c.in_ok-rest.ensures.read most (params_of c.args.at k (c.in_ok-name.name.name, c.in_ok-name.name.at)) (fits most k 0 c.args.room _ 1 has (omega arith) c.requires)
    ∙ c.in_ok-params.ensures.read most (λ fs f. reads a_result (λ t g. reads a_body (λ b h. k (made c.args.at (c.in_ok-name.name.name, c.in_ok-name.name.at) fs t b) h))) (λ fs. fits most k 0 c.args.room _ 1 has (omega arith) c.requires))
    (c.in_err-result.ensures.read most (λ t g. reads a_body (λ b h. k (made c.args.at (c.in_ok-name.name.name, c.in_ok-name.name.at) c.in_ok-params.params t b) h)) (λ t. fits most k 0 c.args.room _ 1 has (omega arith) c.requires)))

pub returns-in_err-body-clause-read : goal.returns-in_err-body-clause-read
returns-in_err-body-clause-read c most k has =
    let p = err_from_is_err_and c.from_residual-in_err-body.result c.from_residual-in_err-body.ensures.1 in
    rw (p.1, p.2) (stop_leads c.in_err-body.field-0.0 _ _
    (c.in_ok-name.ensures.read most (λ p. wants_sign symbol.LeftParenthesis (params_of c.args.at k p)) (λ p. fits most k 0 c.args.room _ 1 has (omega arith) c.requires)
    ∙ c.in_ok-rest.ensures.read most (params_of c.args.at k (c.in_ok-name.name.name, c.in_ok-name.name.at)) (fits most k 0 c.args.room _ 1 has (omega arith) c.requires)
    ∙ c.in_ok-params.ensures.read most (λ fs f. reads a_result (λ t g. reads a_body (λ b h. k (made c.args.at (c.in_ok-name.name.name, c.in_ok-name.name.at) fs t b) h))) (λ fs. fits most k 0 c.args.room _ 1 has (omega arith) c.requires)
    ∙ c.in_ok-result.ensures.read most (λ t g. reads a_body (λ b h. k (made c.args.at (c.in_ok-name.name.name, c.in_ok-name.name.at) c.in_ok-params.params t b) h)) (λ t. fits most k 0 c.args.room _ 1 has (omega arith) c.requires))
    (c.in_err-body.ensures.read most (λ b h. k (made c.args.at (c.in_ok-name.name.name, c.in_ok-name.name.at) c.in_ok-params.params c.in_ok-result.result b) h) (part_room most 0 1 c.args.room k (made c.args.at (c.in_ok-name.name.name, c.in_ok-name.name.at) c.in_ok-params.params c.in_ok-result.result) has (omega arith))))

pub returns-clause-read : goal.returns-clause-read
returns-clause-read c most k has =
    c.in_ok-name.ensures.read most (λ p. wants_sign symbol.LeftParenthesis (params_of c.args.at k p)) (λ p. fits most k 0 c.args.room _ 1 has (omega arith) c.requires)
    ∙ c.in_ok-rest.ensures.read most (params_of c.args.at k (c.in_ok-name.name.name, c.in_ok-name.name.at)) (fits most k 0 c.args.room _ 1 has (omega arith) c.requires)
    ∙ c.in_ok-params.ensures.read most (λ fs f. reads a_result (λ t g. reads a_body (λ b h. k (made c.args.at (c.in_ok-name.name.name, c.in_ok-name.name.at) fs t b) h))) (λ fs. fits most k 0 c.args.room _ 1 has (omega arith) c.requires)
    ∙ c.in_ok-result.ensures.read most (λ t g. reads a_body (λ b h. k (made c.args.at (c.in_ok-name.name.name, c.in_ok-name.name.at) c.in_ok-params.params t b) h)) (λ t. fits most k 0 c.args.room _ 1 has (omega arith) c.requires)
    ∙ c.in_ok-body.ensures.read most (λ b h. k (made c.args.at (c.in_ok-name.name.name, c.in_ok-name.name.at) c.in_ok-params.params c.in_ok-result.result b) h) (part_room most 0 1 c.args.room k (made c.args.at (c.in_ok-name.name.name, c.in_ok-name.name.at) c.in_ok-params.params c.in_ok-result.result) has (omega arith))
    ∙ ap (λ n. run most (k (decl.Function (record { name = n; params = c.in_ok-params.params; result = c.in_ok-result.result; body = c.in_ok-body.body; at = c.args.at })) c.in_ok-body.height) c.in_ok-body.rest.now)
    (sym c.in_ok-name.ensures.new)
