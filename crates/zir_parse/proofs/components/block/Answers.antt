use Rattle.std.proofs.Common.{◌≡◌, ◌+◌, suc, [], refl, ◌∙◌, arith}
use Rattle.std.proofs.lemmas.Result.{err_from_is_err_and}
use Rattle.zir_tree.specs.declared.comp.Comp as comp
use Rattle.zir_lex.specs.declared.token.Symbol.TheVariants as symbol
use Rattle.zir_grammar.specs.Wants.{a_sign}
use Rattle.zir_grammar.specs.Parts.{gives, reads, a_block, more_members}
use Rattle.zir_grammar.proofs.Descent.{stop_leads, refused}
use Rattle.zir_parse.proofs.Steps.{begins, inside}
use Rattle.zir_parse.proofs.components.block.Goals as goal

pub returns-in_default-clause-read : goal.returns-in_default-clause-read
returns-in_default-clause-read c most k has = refused most a_block k c.args.tokens.now refl (c.in_default.ensures.found, tt)

pub returns-in_err-members-clause-read : goal.returns-in_err-members-clause-read
returns-in_err-members-clause-read c most k has =
    let p = err_from_is_err_and c.from_residual.result c.from_residual.ensures.1 in
    rw (p.1, p.2) (stop_leads c.in_err-members.field-0.0 _ _
    (begins most 2 c.args.room a_block k (a_sign symbol.LeftBrace) c.args.tokens.now c.in-Some.at c.in-Some.rest.now (reads (more_members [] 0) (λ ms h. gives (comp.Block ms c.in-Some.at) (suc h))) c.in-Some.ensures.found refl has (omega arith) c.requires)
    (c.in_err-members.ensures.read most (λ ms h. k (comp.Block ms c.in-Some.at) (suc h)) (inside most 2 c.args.room 1 k (λ ms. comp.Block ms c.in-Some.at) has (omega (arith, c.requires)) (omega arith))))

pub returns-clause-read : goal.returns-clause-read
returns-clause-read c most k has =
    let up : c.in_ok-members.height + 1 ≡ suc c.in_ok-members.height = omega arith in
    rw up
    (begins most 2 c.args.room a_block k (a_sign symbol.LeftBrace) c.args.tokens.now c.in-Some.at c.in-Some.rest.now (reads (more_members [] 0) (λ ms h. gives (comp.Block ms c.in-Some.at) (suc h))) c.in-Some.ensures.found refl has (omega arith) c.requires
    ∙ c.in_ok-members.ensures.read most (λ ms h. k (comp.Block ms c.in-Some.at) (suc h)) (inside most 2 c.args.room 1 k (λ ms. comp.Block ms c.in-Some.at) has (omega (arith, c.requires)) (omega arith)))
