use Rattle.std.proofs.Common.{max, [], ◌∷◌, ◌++◌, ◌∙◌, arith}
use Rattle.std.proofs.lemmas.Result.{err_from_is_err_and}
use Rattle.zir_tree.specs.declared.comp.Member as member
use Rattle.zir_lex.specs.declared.token.Symbol.TheVariants as symbol
use Rattle.zir_grammar.specs.Parts.{reads, wants_sign, more_members}
use Rattle.zir_grammar.proofs.Descent.{stop_leads}
use Rattle.zir_parse.proofs.MemberSteps.{variable_room, more_fit}
use Rattle.zir_parse.proofs.members.member_variable.Goals as goal

pub returns-in_err-var-clause-read : goal.returns-in_err-var-clause-read
returns-in_err-var-clause-read c most done low k small has =
    let p = err_from_is_err_and c.from_residual.result c.from_residual.ensures.1 in
    rw (p.1, p.2) (c.in_err-var.ensures.read most (λ v h. wants_sign symbol.Semicolon (reads (more_members (done ++ member.Var v ∷ []) (max low h)) k)) (variable_room most c.args.room done low k has small c.requires))

pub returns-in_err-rest-clause-read : goal.returns-in_err-rest-clause-read
returns-in_err-rest-clause-read c most done low k small has =
    let p = err_from_is_err_and c.from_residual-in_err-rest.result c.from_residual-in_err-rest.ensures.1 in
    rw (p.1, p.2) (stop_leads c.in_err-rest.field-0.0 _ _
    (c.in_ok-var.ensures.read most (λ v h. wants_sign symbol.Semicolon (reads (more_members (done ++ member.Var v ∷ []) (max low h)) k)) (variable_room most c.args.room done low k has small c.requires))
    (c.in_err-rest.ensures.read most (reads (more_members (done ++ member.Var c.in_ok-var.var ∷ []) (max low c.in_ok-var.height)) k) (more_fit most c.args.room (done ++ member.Var c.in_ok-var.var ∷ []) (max low c.in_ok-var.height) k has (omega (arith, small, c.in_ok-var.ensures.high)) c.requires)))

pub returns-clause-read : goal.returns-clause-read
returns-clause-read c most done low k small has =
    c.in_ok-var.ensures.read most (λ v h. wants_sign symbol.Semicolon (reads (more_members (done ++ member.Var v ∷ []) (max low h)) k)) (variable_room most c.args.room done low k has small c.requires)
    ∙ c.in_ok-rest.ensures.read most (reads (more_members (done ++ member.Var c.in_ok-var.var ∷ []) (max low c.in_ok-var.height)) k) (more_fit most c.args.room (done ++ member.Var c.in_ok-var.var ∷ []) (max low c.in_ok-var.height) k has (omega (arith, small, c.in_ok-var.ensures.high)) c.requires)
