use Rattle.std.proofs.Common.{◌≡◌, ℕ, List, [], ◌∷◌, ◌++◌, None, sym, ap, ◌∙◌, arith}
use Rattle.std.proofs.lemmas.Result.{err_from_is_err_and}
use Rattle.zir_tree.specs.declared.types.Field.{Field}
use Rattle.zir_tree.specs.declared.program.Prog.{Prog}
use Rattle.zir_lex.specs.declared.token.Token.{Token}
use Rattle.zir_lex.specs.declared.token.Symbol.{Symbol}
use Rattle.zir_grammar.specs.declared.enclosure.Enclosure.{Enclosure}
use Rattle.zir_grammar.specs.Enclosures.{closing_of, between_of}
use Rattle.zir_grammar.specs.Wants.{a_sign}
use Rattle.zir_grammar.specs.Parts.{Rest, reads, more_fields, wants_sign}
use Rattle.zir_grammar.specs.Machine.{run}
use Rattle.zir_grammar.specs.Reading.{at_front}
use Rattle.zir_grammar.proofs.Descent.{stop_leads}
use Rattle.zir_grammar.proofs.TypeSteps.{RoomyFields, fields_end, fields_go_on, next_field}
use Rattle.zir_grammar.proofs.types.more_fields.Goals as goal

-- no closing sign: the sign between two fields has to come
going_on : (most : ℕ) (kind : Enclosure) (done : List Field) (k : List Field → ℕ → Rest Prog) (ts : List Token) (closing between : Symbol)
    → closing ≡ closing_of kind → between ≡ between_of kind
    → at_front (a_sign closing) ts ≡ None → RoomyFields most k
    → run most (reads (more_fields kind done) k) ts ≡ run most (wants_sign between (next_field kind done k)) ts
going_on most kind done k ts closing between one two none low =
    fields_go_on most kind done k ts (rw one at none) low ∙ ap (λ s. run most (wants_sign s (next_field kind done k)) ts) (sym two)

pub returns-in-Some-clause-read : goal.returns-in-Some-clause-read
returns-in-Some-clause-read c most k low =
    c.loop-after.invariant.read most k low
    ∙ fields_end most c.args.enclosure c.loop-after.fields k c.loop-after.rest.now _ _ (rw c.closing.ensures at c.in-Some.ensures.found) low

pub returns-in_err-after-clause-read : goal.returns-in_err-after-clause-read
returns-in_err-after-clause-read c most k low =
    let p = err_from_is_err_and c.from_residual-in_err-after.result c.from_residual-in_err-after.ensures.1 in
    rw (p.1, p.2) (stop_leads c.in_err-after.field-0.0 _ _
    (c.loop-after.invariant.read most k low
    ∙ going_on most c.args.enclosure c.loop-after.fields k c.loop-after.rest.now c.closing.result c.between.result c.closing.ensures c.between.ensures c.in_default.ensures.found low)
    (c.in_err-after.ensures.read most (next_field c.args.enclosure c.loop-after.fields k) (low _)))

pub returns-in_err-field-clause-read : goal.returns-in_err-field-clause-read
returns-in_err-field-clause-read c most k low =
    let p = err_from_is_err_and c.from_residual-in_err-field.result c.from_residual-in_err-field.ensures.1 in
    rw (p.1, p.2) (stop_leads c.in_err-field.field-0.0 _ _
    (c.loop-after.invariant.read most k low
    ∙ going_on most c.args.enclosure c.loop-after.fields k c.loop-after.rest.now c.closing.result c.between.result c.closing.ensures c.between.ensures c.in_default.ensures.found low
    ∙ c.in_ok-after.ensures.read most (next_field c.args.enclosure c.loop-after.fields k) (low _))
    (c.in_err-field.ensures.read most (λ f h. reads (more_fields c.args.enclosure (c.loop-after.fields ++ f ∷ [])) k) (λ f. low _)))

pub loop-after-preserved : goal.loop-after-preserved
loop-after-preserved c = record {
  read = λ most k low. rw c.in_ok-push-2.ensures.ok
      (c.loop-after.invariant.read most k low
      ∙ going_on most c.args.enclosure c.loop-after.fields k c.loop-after.rest.now c.closing.result c.between.result c.closing.ensures c.between.ensures c.in_default.ensures.found low
      ∙ c.in_ok-after.ensures.read most (next_field c.args.enclosure c.loop-after.fields k) (low _)
      ∙ c.in_ok-field.ensures.read most (λ f h. reads (more_fields c.args.enclosure (c.loop-after.fields ++ f ∷ [])) k) (λ f. low _));
  rest = omega (arith, c.in_ok-field.ensures.rest, c.in_ok-after.ensures.rest, c.loop-after.invariant.rest);
}
