use Rattle.std.proofs.Common.{◌∙◌, arith}
use Rattle.std.proofs.lemmas.Result.{err_from_is_err_and}
use Rattle.zir_grammar.specs.Grammar.{array_type}
use Rattle.zir_grammar.specs.Parts.{reads, a_type_part}
use Rattle.zir_grammar.specs.Machine.{run}
use Rattle.zir_grammar.specs.Reading.{nested}
use Rattle.zir_grammar.proofs.Descent.{stop_leads, leads_on}
use Rattle.zir_grammar.proofs.TypeSteps.{array_begins, more_dimensions}
use Rattle.zir_grammar.proofs.types.type_expr.Goals as goal

pub returns-in_err-length-clause-read : goal.returns-in_err-length-clause-read
returns-in_err-length-clause-read c most k low =
    let p = err_from_is_err_and c.from_residual.result c.from_residual.ensures.1 in
    rw (p.1, p.2) (stop_leads c.in_err-length.field-0.0 _ _
    (c.loop-at.invariant.read most k low
    ∙ array_begins most (λ t h. k (nested c.loop-at.dimensions c.loop-at.first t) h) c.loop-at.rest.now c.in-Some.at c.in-Some.after.now c.in-Some.ensures.found
    (λ t. low (nested c.loop-at.dimensions c.loop-at.first t)))
    (c.in_err-length.ensures.read most (λ n. reads a_type_part
    (λ t h. k (nested c.loop-at.dimensions c.loop-at.first (array_type n c.in-Some.at t)) h)) (λ n. low _)))

pub loop-at-preserved : goal.loop-at-preserved
loop-at-preserved c = record {
  read = λ most k low. rw (c.in_ok-push.ensures.ok, c.first_of-first.ensures)
      (c.loop-at.invariant.read most k low
      ∙ array_begins most (λ t h. k
      (nested c.loop-at.dimensions c.loop-at.first t) h) c.loop-at.rest.now c.in-Some.at c.in-Some.after.now c.in-Some.ensures.found
      (λ t. low (nested c.loop-at.dimensions c.loop-at.first t))
      ∙ c.in_ok-length.ensures.read most (λ n. reads a_type_part
      (λ t h. k (nested c.loop-at.dimensions c.loop-at.first (array_type n c.in-Some.at t)) h)) (λ n. low _)
      ∙ more_dimensions most k c.loop-at.dimensions c.loop-at.first c.in_ok-length.length c.in-Some.at c.in_ok-length.after.now);
  rest = omega (arith, c.in_ok-length.ensures.rest, c.in-Some.ensures.rest, c.loop-at.invariant.rest);
}

pub returns-clause-read : goal.returns-clause-read
returns-clause-read c most k low = leads_on
    (λ x. run most (k x.0 0) x.1.now) c.element.result _ _ (c.loop-at.invariant.read most k low) (c.element.ensures.read most k low)
