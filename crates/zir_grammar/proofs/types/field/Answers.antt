use Rattle.std.proofs.Common.{ℕ, List, sym, ap, ◌∙◌}
use Rattle.std.proofs.lemmas.Result.{err_from_is_err_and}
use Rattle.zir_lex.specs.declared.token.Symbol.TheVariants as symbol
use Rattle.zir_tree.specs.declared.place.Place.{Place}
use Rattle.zir_tree.specs.declared.types.Field.{Field}
use Rattle.zir_tree.specs.declared.program.Prog.{Prog}
use Rattle.zir_grammar.specs.Grammar.{field}
use Rattle.zir_grammar.specs.Parts.{Rest, reads, wants_sign, a_type_part}
use Rattle.zir_grammar.specs.Machine.{run}
use Rattle.zir_grammar.proofs.Descent.{stop_leads}
use Rattle.zir_grammar.proofs.TypeSteps.{field_begins}
use Rattle.zir_grammar.proofs.types.field.Goals as goal

-- behind the name
abbrev behind : (Field → ℕ → Rest Prog) → List ℕ × Place → Rest Prog
behind k p = wants_sign symbol.Colon (reads a_type_part (λ t h. k (field p.0 p.1 t) 0))

pub returns-in_err-name-clause-read : goal.returns-in_err-name-clause-read
returns-in_err-name-clause-read c most k low =
    let p = err_from_is_err_and c.from_residual.result c.from_residual.ensures.1 in
    rw (p.1, p.2) (stop_leads c.in_err-name.field-0.0 _ _ (field_begins most k c.args.tokens.now low) (c.in_err-name.ensures.read most (behind k) (λ p. low _)))

pub returns-in_err-rest-clause-read : goal.returns-in_err-rest-clause-read
returns-in_err-rest-clause-read c most k low =
    let p = err_from_is_err_and c.from_residual-in_err-rest.result c.from_residual-in_err-rest.ensures.1 in
    rw (p.1, p.2) (stop_leads c.in_err-rest.field-0.0 _ _ (field_begins most k c.args.tokens.now low ∙ c.in_ok-name.ensures.read most (behind k) (λ p. low _))
    (c.in_err-rest.ensures.read most (reads a_type_part (λ t h. k (field c.in_ok-name.name.name c.in_ok-name.name.at t) 0)) (low _)))

pub returns-in_err-ty-clause-read : goal.returns-in_err-ty-clause-read
returns-in_err-ty-clause-read c most k low =
    let p = err_from_is_err_and c.from_residual-in_err-ty.result c.from_residual-in_err-ty.ensures.1 in
    rw (p.1, p.2) (stop_leads c.in_err-ty.field-0.0 _ _
    (field_begins most k c.args.tokens.now low ∙ c.in_ok-name.ensures.read most (behind k) (λ p. low _)
    ∙ c.in_ok-rest.ensures.read most (reads a_type_part (λ t h. k (field c.in_ok-name.name.name c.in_ok-name.name.at t) 0)) (low _))
    (c.in_err-ty.ensures.read most (λ t h. k (field c.in_ok-name.name.name c.in_ok-name.name.at t) 0) (λ t. low _)))

pub returns-clause-read : goal.returns-clause-read
returns-clause-read c most k low =
    field_begins most k c.args.tokens.now low ∙ c.in_ok-name.ensures.read most (behind k) (λ p. low _)
    ∙ c.in_ok-rest.ensures.read most (reads a_type_part (λ t h. k (field c.in_ok-name.name.name c.in_ok-name.name.at t) 0)) (low _)
    ∙ c.in_ok-ty.ensures.read most (λ t h. k (field c.in_ok-name.name.name c.in_ok-name.name.at t) 0) (λ t. low _)
    ∙ ap (λ n. run most (k (record { name = n; ty = c.in_ok-ty.ty }) 0) c.in_ok-ty.rest.now) (sym c.in_ok-name.ensures.new)
