use Rattle.std.proofs.Common.{◌≡◌, ap, ◌∙◌, rules}
use Rattle.zir_grammar.specs.Machine.{run}
use Rattle.zir_grammar.specs.Reading.{nested, place_or}
use Rattle.zir_grammar.proofs.TypeSteps.{type_word_read, type_name_read, no_type, nested_plain, nested_struct}
use Rattle.zir_grammar.proofs.types.element.Goals as goal

pub returns-in-Some-clause-read : goal.returns-in-Some-clause-read
returns-in-Some-clause-read c most k low =
    let at : c.unwrap_or-at.result ≡ place_or c.args.first c.in-Some.here = search rules in
    type_word_read most (λ t h. k
    (nested c.args.dimensions c.args.first t) h) c.args.tokens.now c.in-Some.base c.in-Some.here c.in-Some.rest.now c.in-Some.ensures.found
    (λ t. low (nested c.args.dimensions c.args.first t))
    ∙ ap (λ t. run most (k t 0) c.in-Some.rest.now) (nested_plain c.args.dimensions c.args.first c.in-Some.base c.unwrap_or-at.result c.in-Some.here at)

pub returns-in_ok-ident-in-Some-name-clause-read : goal.returns-in_ok-ident-in-Some-name-clause-read
returns-in_ok-ident-in-Some-name-clause-read c most k low =
    let at : c.unwrap_or-at-in-Some-name.result ≡ place_or c.args.first c.in-Some-name.here = search rules in
    rw c.in_ok-ident-in-Some-name.ensures
    (type_name_read most
    (λ t h. k (nested c.args.dimensions c.args.first t) h) c.args.tokens.now c.in-Some-name.found.now c.in-Some-name.here c.in-Some-name.rest.now c.in-Some-name.ensures.found
    (λ t. low (nested c.args.dimensions c.args.first t))
    ∙ ap (λ t. run most (k t 0) c.in-Some-name.rest.now)
    (nested_struct c.args.dimensions c.args.first c.in-Some-name.found.now c.unwrap_or-at-in-Some-name.result c.in-Some-name.here at))

pub returns-in-None-clause-read : goal.returns-in-None-clause-read
returns-in-None-clause-read c most k low =
    no_type most (λ t h. k (nested c.args.dimensions c.args.first t) h) c.args.tokens.now c.in_default.ensures.found c.in-None.ensures.found c.requires
