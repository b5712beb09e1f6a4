use Rattle.std.proofs.Common.{[], ◌∷◌, ◌∙◌}
use Rattle.std.proofs.lemmas.Result.{err_from_is_err_and}
use Rattle.zir_grammar.specs.declared.enclosure.Enclosure.TheVariants.{Parentheses}
use Rattle.zir_grammar.specs.Parts.{reads, more_fields}
use Rattle.zir_grammar.specs.Machine.{run}
use Rattle.zir_grammar.proofs.Descent.{stop_leads, leads_on}
use Rattle.zir_grammar.proofs.TypeSteps.{no_params, params_begin}
use Rattle.zir_grammar.proofs.types.params.Goals as goal

pub returns-in-Some-clause-read : goal.returns-in-Some-clause-read
returns-in-Some-clause-read c most k low = rw c.new.ensures (no_params most k c.args.tokens.now _ _ c.in-Some.ensures.found low)

pub returns-in_err-first-clause-read : goal.returns-in_err-first-clause-read
returns-in_err-first-clause-read c most k low =
    let p = err_from_is_err_and c.from_residual.result c.from_residual.ensures.1 in
    rw (p.1, p.2) (stop_leads c.in_err-first.field-0.0 _ _ (params_begin most k c.args.tokens.now c.in_default.ensures.found)
    (c.in_err-first.ensures.read most (λ f h. reads (more_fields Parentheses (f ∷ [])) k) (λ f. low _)))

pub returns-clause-read : goal.returns-clause-read
returns-clause-read c most k low =
    leads_on (λ x. run most (k x.0 0) x.1.now) c.more_fields.result _ _
    (params_begin most k c.args.tokens.now c.in_default.ensures.found
    ∙ c.in_ok-first.ensures.read most (λ f h. reads (more_fields Parentheses (f ∷ [])) k) (λ f. low _)) (c.more_fields.ensures.read most k low)
