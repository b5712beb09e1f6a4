use Rattle.std.proofs.Common.{◌∙◌, arith}
use Rattle.std.proofs.lemmas.Result.{err_from_is_err_and}
use Rattle.zir_tree.specs.declared.program.Decl.TheVariants as decl
use Rattle.zir_lex.specs.declared.token.Symbol.TheVariants as symbol
use Rattle.zir_grammar.specs.Parts.{wants_sign}
use Rattle.zir_grammar.proofs.Descent.{stop_leads, fits}
use Rattle.zir_parse.proofs.declarations.top_variable.Goals as goal

pub returns-in_err-var-clause-read : goal.returns-in_err-var-clause-read
returns-in_err-var-clause-read c most k has =
    let p = err_from_is_err_and c.from_residual.result c.from_residual.ensures.1 in
    rw (p.1, p.2) (c.in_err-var.ensures.read most (λ v h. wants_sign symbol.Semicolon (k (decl.Var v) h)) (λ v h above. has (decl.Var v) h (omega arith)))

pub returns-in_err-rest-clause-read : goal.returns-in_err-rest-clause-read
returns-in_err-rest-clause-read c most k has =
    let p = err_from_is_err_and c.from_residual-in_err-rest.result c.from_residual-in_err-rest.ensures.1 in
    rw (p.1, p.2) (stop_leads c.in_err-rest.field-0.0 _ _
    (c.in_ok-var.ensures.read most (λ v h. wants_sign symbol.Semicolon (k (decl.Var v) h)) (λ v h above. has (decl.Var v) h (omega arith)))
    (c.in_err-rest.ensures.read most (k (decl.Var c.in_ok-var.var) c.in_ok-var.height) (fits most k 0 c.args.room _ c.in_ok-var.height has (omega arith) c.in_ok-var.ensures.high)))

pub returns-clause-read : goal.returns-clause-read
returns-clause-read c most k has =
    c.in_ok-var.ensures.read most (λ v h. wants_sign symbol.Semicolon (k (decl.Var v) h)) (λ v h above. has (decl.Var v) h (omega arith))
    ∙ c.in_ok-rest.ensures.read most (k (decl.Var c.in_ok-var.var) c.in_ok-var.height) (fits most k 0 c.args.room _ c.in_ok-var.height has (omega arith) c.in_ok-var.ensures.high)
