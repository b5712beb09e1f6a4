use Rattle.std.proofs.Common.{sym, ap, ◌∙◌, arith}
use Rattle.std.proofs.lemmas.Result.{err_from_is_err_and}
use Rattle.zir_tree.specs.declared.comp.Comp as comp
use Rattle.zir_grammar.specs.Grammar.{ident}
use Rattle.zir_grammar.specs.Machine.{run}
use Rattle.zir_grammar.proofs.Descent.{stop_leads, fits}
use Rattle.zir_parse.specs.Heads.{a_single_behind}
use Rattle.zir_parse.proofs.components.single.Goals as goal

pub returns-in-Take-clause-read : goal.returns-in-Take-clause-read
returns-in-Take-clause-read c room some most k has = ap (λ s. run most (a_single_behind s c.args.at k) c.args.tokens.now) c.in-Take.is

pub returns-in_err-count-in-Takes-clause-read : goal.returns-in_err-count-in-Takes-clause-read
returns-in_err-count-in-Takes-clause-read c room some most k has =
    let p = err_from_is_err_and c.from_residual.result c.from_residual.ensures.1 in
    rw (p.1, p.2) (stop_leads c.in_err-count-in-Takes.field-0.0 _ _
    (ap (λ s. run most (a_single_behind s c.args.at k) c.args.tokens.now) c.in-Takes.is)
    (c.in_err-count-in-Takes.ensures.read most (λ n. k (comp.Takes n c.args.at) 1) (λ n. fits most k 1 room _ 1 has (omega arith) some)))

pub returns-in_ok-count-in-Takes-clause-read : goal.returns-in_ok-count-in-Takes-clause-read
returns-in_ok-count-in-Takes-clause-read c room some most k has =
    ap (λ s. run most (a_single_behind s c.args.at k) c.args.tokens.now) c.in-Takes.is
    ∙ c.in_ok-count-in-Takes.ensures.read most (λ n. k (comp.Takes n c.args.at) 1) (λ n. fits most k 1 room _ 1 has (omega arith) some)

pub returns-in_err-name-in-Map-clause-read : goal.returns-in_err-name-in-Map-clause-read
returns-in_err-name-in-Map-clause-read c room some most k has =
    let p = err_from_is_err_and c.from_residual-in_err-name-in-Map.result c.from_residual-in_err-name-in-Map.ensures.1 in
    rw (p.1, p.2) (stop_leads c.in_err-name-in-Map.field-0.0 _ _
    (ap (λ s. run most (a_single_behind s c.args.at k) c.args.tokens.now) c.in-Map.is)
    (c.in_err-name-in-Map.ensures.read most (λ p. k (comp.Map (ident p.0 p.1) 0 c.args.at) 1) (λ p. fits most k 1 room _ 1 has (omega arith) some)))

pub returns-in_ok-name-in-Map-clause-read : goal.returns-in_ok-name-in-Map-clause-read
returns-in_ok-name-in-Map-clause-read c room some most k has =
    ap (λ s. run most (a_single_behind s c.args.at k) c.args.tokens.now) c.in-Map.is
    ∙ c.in_ok-name-in-Map.ensures.read most (λ p. k (comp.Map (ident p.0 p.1) 0 c.args.at) 1) (λ p. fits most k 1 room _ 1 has (omega arith) some)
    ∙ ap (λ n. run most (k (comp.Map n 0 c.args.at) 1) c.in_ok-name-in-Map.rest.now) (sym c.in_ok-name-in-Map.ensures.new)

pub returns-in_err-test-in-Filter-clause-read : goal.returns-in_err-test-in-Filter-clause-read
returns-in_err-test-in-Filter-clause-read c room some most k has =
    let p = err_from_is_err_and c.from_residual-in_err-test-in-Filter.result c.from_residual-in_err-test-in-Filter.ensures.1 in
    rw (p.1, p.2) (stop_leads c.in_err-test-in-Filter.field-0.0 _ _
    (ap (λ s. run most (a_single_behind s c.args.at k) c.args.tokens.now) c.in-Filter.is)
    (c.in_err-test-in-Filter.ensures.read most (λ p. k (comp.Filter (ident p.0 p.1) 0 c.args.at) 1) (λ p. fits most k 1 room _ 1 has (omega arith) some)))

pub returns-in_ok-test-in-Filter-clause-read : goal.returns-in_ok-test-in-Filter-clause-read
returns-in_ok-test-in-Filter-clause-read c room some most k has =
    ap (λ s. run most (a_single_behind s c.args.at k) c.args.tokens.now) c.in-Filter.is
    ∙ c.in_ok-test-in-Filter.ensures.read most (λ p. k (comp.Filter (ident p.0 p.1) 0 c.args.at) 1) (λ p. fits most k 1 room _ 1 has (omega arith) some)
    ∙ ap (λ n. run most (k (comp.Filter n 0 c.args.at) 1) c.in_ok-test-in-Filter.rest.now) (sym c.in_ok-test-in-Filter.ensures.new)
