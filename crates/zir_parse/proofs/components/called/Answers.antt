use Rattle.std.proofs.Common.{◌≡◌, ◌+◌, suc, ◌∙◌, arith}
use Rattle.std.proofs.lemmas.Result.{err_from_is_err_and}
use Rattle.zir_tree.specs.declared.comp.Comp as comp
use Rattle.zir_grammar.specs.Grammar.{ident}
use Rattle.zir_grammar.specs.Parts.{reads, some_args}
use Rattle.zir_grammar.proofs.Descent.{stop_leads, fits}
use Rattle.zir_parse.proofs.Steps.{inside}
use Rattle.zir_parse.proofs.components.called.Goals as goal

pub returns-in_err-rest-clause-read : goal.returns-in_err-rest-clause-read
returns-in_err-rest-clause-read c most k has =
    let p = err_from_is_err_and c.from_residual-in_err-rest.result c.from_residual-in_err-rest.ensures.1 in
    rw (p.1, p.2) (c.in_err-rest.ensures.read most (reads some_args (λ es h. k (comp.Call (ident c.args.found.now c.args.at) 0 es) (suc h)))
    (fits most k 1 c.args.room _ 1 has (omega arith) (omega (arith, c.requires))))

pub returns-in_err-arguments-clause-read : goal.returns-in_err-arguments-clause-read
returns-in_err-arguments-clause-read c most k has =
    let p = err_from_is_err_and c.from_residual-in_err-arguments.result c.from_residual-in_err-arguments.ensures.1 in
    rw (p.1, p.2) (stop_leads c.in_err-arguments.field-0.0 _ _
    (c.in_ok-rest.ensures.read most (reads some_args (λ es h. k (comp.Call (ident c.args.found.now c.args.at) 0 es) (suc h)))
    (fits most k 1 c.args.room _ 1 has (omega arith) (omega (arith, c.requires))))
    (c.in_err-arguments.ensures.read most (λ es h. k (comp.Call (ident c.args.found.now c.args.at) 0 es) (suc h))
    (inside most 1 c.args.room 0 k (λ es. comp.Call (ident c.args.found.now c.args.at) 0 es) has (omega (arith, c.requires)) (omega arith))))

pub returns-clause-read : goal.returns-clause-read
returns-clause-read c most k has =
    let up : c.in_ok-arguments.high + 1 ≡ suc c.in_ok-arguments.high = omega arith in
    rw (c.in_ok-name.ensures, up)
    (c.in_ok-rest.ensures.read most (reads some_args (λ es h. k (comp.Call (ident c.args.found.now c.args.at) 0 es) (suc h)))
    (fits most k 1 c.args.room _ 1 has (omega arith) (omega (arith, c.requires)))
    ∙ c.in_ok-arguments.ensures.read most (λ es h. k (comp.Call (ident c.args.found.now c.args.at) 0 es) (suc h))
    (inside most 1 c.args.room 0 k (λ es. comp.Call (ident c.args.found.now c.args.at) 0 es) has (omega (arith, c.requires)) (omega arith)))
