use Rattle.std.proofs.Common.{◌≡◌, ◌<◌, length, ◌∙◌, rules}
use Rattle.std.proofs.lemmas.Result.{err_from_is_err_and}
use Rattle.zir_grammar.specs.Parts.{gives}
use Rattle.zir_parse.proofs.MainSteps.{program_ends, program_goes_on}
use Rattle.zir_parse.proofs.program.last_type.Goals as goal

pub returns-in_err-found : goal.returns-in_err-found
returns-in_err-found c most f h low =
    let p = err_from_is_err_and c.from_residual.result c.from_residual.ensures.1 in
    rw (p.1, p.2) (c.in_err-found.ensures most (λ t. gives (f t) h) (λ t. low))

pub returns-then-is_empty : goal.returns-then-is_empty
returns-then-is_empty c most f h low =
    let none : length c.in_ok-found.rest.now ≡ 0 = search rules in
    c.in_ok-found.ensures most (λ t. gives (f t) h) (λ t. low) ∙ program_ends most (f c.in_ok-found.found) h c.in_ok-found.rest.now none

pub returns-else-is_empty : goal.returns-else-is_empty
returns-else-is_empty c most f h low =
    let some : 0 < length c.in_ok-found.rest.now = search rules in
    c.in_ok-found.ensures most (λ t. gives (f t) h) (λ t. low) ∙ program_goes_on most (f c.in_ok-found.found) h c.in_ok-found.rest.now some
