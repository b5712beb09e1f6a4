use Rattle.std.proofs.Common.{ℕ, List, [], ◌∷◌, sym, ap, ◌∙◌, arith}
use Rattle.std.proofs.lemmas.Result.{err_from_is_err_and}
use Rattle.zir_tree.specs.declared.place.Place.{Place}
use Rattle.zir_tree.specs.declared.program.Decl.{Decl}
use Rattle.zir_tree.specs.declared.program.Decl.TheVariants as decl
use Rattle.zir_tree.specs.declared.program.Prog.{Prog}
use Rattle.zir_lex.specs.declared.token.Symbol.TheVariants as symbol
use Rattle.zir_grammar.specs.declared.enclosure.Enclosure.TheVariants.{Braces}
use Rattle.zir_grammar.specs.Grammar.{ident}
use Rattle.zir_grammar.specs.Parts.{Rest, reads, wants_sign, a_field, more_fields}
use Rattle.zir_grammar.specs.Machine.{run}
use Rattle.zir_grammar.proofs.Descent.{stop_leads, fits}
use Rattle.zir_tree.specs.declared.types.Field.{Field}
use Rattle.zir_parse.proofs.declarations.structure.Goals as goal

-- a struct of a name and fields
abbrev made : Place → (Decl → ℕ → Rest Prog) → List ℕ × Place → List Field → Rest Prog
made at k p fs = k (decl.Struct (record { name = ident p.0 p.1; fields = fs; at = at })) 0

abbrev fields_of : Place → (Decl → ℕ → Rest Prog) → List ℕ × Place → Rest Prog
fields_of at k p = reads a_field (λ f h. reads (more_fields Braces (f ∷ [])) (λ fs g. made at k p fs))

pub returns-in_err-name-clause-read : goal.returns-in_err-name-clause-read
returns-in_err-name-clause-read c room most k has =
    let p = err_from_is_err_and c.from_residual.result c.from_residual.ensures.1 in
    rw (p.1, p.2) (c.in_err-name.ensures.read most (λ p. wants_sign symbol.Equal (wants_sign symbol.LeftBrace (fields_of c.args.at k p))) (λ p. fits most k 0 room _ 0 has (omega arith) (omega arith)))

pub returns-in_err-rest-clause-read : goal.returns-in_err-rest-clause-read
returns-in_err-rest-clause-read c room most k has =
    let p = err_from_is_err_and c.from_residual-in_err-rest.result c.from_residual-in_err-rest.ensures.1 in
    rw (p.1, p.2) (stop_leads c.in_err-rest.field-0.0 _ _
    (c.in_ok-name.ensures.read most (λ p. wants_sign symbol.Equal (wants_sign symbol.LeftBrace (fields_of c.args.at k p))) (λ p. fits most k 0 room _ 0 has (omega arith) (omega arith)))
    (c.in_err-rest.ensures.read most (wants_sign symbol.LeftBrace (fields_of c.args.at k (c.in_ok-name.name.name, c.in_ok-name.name.at))) (fits most k 0 room _ 0 has (omega arith) (omega arith))))

pub returns-in_err-rest-2-clause-read : goal.returns-in_err-rest-2-clause-read
returns-in_err-rest-2-clause-read c room most k has =
    let p = err_from_is_err_and c.from_residual-in_err-rest-2.result c.from_residual-in_err-rest-2.ensures.1 in
    rw (p.1, p.2) (stop_leads c.in_err-rest-2.field-0.0 _ _
    (c.in_ok-name.ensures.read most (λ p. wants_sign symbol.Equal (wants_sign symbol.LeftBrace (fields_of c.args.at k p))) (λ p. fits most k 0 room _ 0 has (omega arith) (omega arith))
    ∙ c.in_ok-rest.ensures.read most (wants_sign symbol.LeftBrace (fields_of c.args.at k (c.in_ok-name.name.name, c.in_ok-name.name.at))) (fits most k 0 room _ 0 has (omega arith) (omega arith)))
    (c.in_err-rest-2.ensures.read most (fields_of c.args.at k (c.in_ok-name.name.name, c.in_ok-name.name.at)) (fits most k 0 room _ 0 has (omega arith) (omega arith))))

pub returns-in_err-first-clause-read : goal.returns-in_err-first-clause-read
returns-in_err-first-clause-read c room most k has =
    let p = err_from_is_err_and c.from_residual-in_err-first.result c.from_residual-in_err-first.ensures.1 in
    rw (p.1, p.2) (stop_leads c.in_err-first.field-0.0 _ _
    (c.in_ok-name.ensures.read most (λ p. wants_sign symbol.Equal (wants_sign symbol.LeftBrace (fields_of c.args.at k p))) (λ p. fits most k 0 room _ 0 has (omega arith) (omega arith))
    ∙ c.in_ok-rest.ensures.read most (wants_sign symbol.LeftBrace (fields_of c.args.at k (c.in_ok-name.name.name, c.in_ok-name.name.at))) (fits most k 0 room _ 0 has (omega arith) (omega arith))
    ∙ c.in_ok-rest-2.ensures.read most (fields_of c.args.at k (c.in_ok-name.name.name, c.in_ok-name.name.at)) (fits most k 0 room _ 0 has (omega arith) (omega arith)))
    (c.in_err-first.ensures.read most (λ f h. reads (more_fields Braces (f ∷ [])) (λ fs g. made c.args.at k (c.in_ok-name.name.name, c.in_ok-name.name.at) fs)) (λ f. fits most k 0 room _ 0 has (omega arith) (omega arith))))

pub returns-in_err-fields-clause-read : goal.returns-in_err-fields-clause-read
returns-in_err-fields-clause-read c room most k has =
    let p = err_from_is_err_and c.from_residual-in_err-fields.result c.from_residual-in_err-fields.ensures.1 in
    rw (p.1, p.2) (stop_leads c.in_err-fields.field-0.0 _ _
    (c.in_ok-name.ensures.read most (λ p. wants_sign symbol.Equal (wants_sign symbol.LeftBrace (fields_of c.args.at k p))) (λ p. fits most k 0 room _ 0 has (omega arith) (omega arith))
    ∙ c.in_ok-rest.ensures.read most (wants_sign symbol.LeftBrace (fields_of c.args.at k (c.in_ok-name.name.name, c.in_ok-name.name.at))) (fits most k 0 room _ 0 has (omega arith) (omega arith))
    ∙ c.in_ok-rest-2.ensures.read most (fields_of c.args.at k (c.in_ok-name.name.name, c.in_ok-name.name.at)) (fits most k 0 room _ 0 has (omega arith) (omega arith))
    ∙ c.in_ok-first.ensures.read most (λ f h. reads (more_fields Braces (f ∷ [])) (λ fs g. made c.args.at k (c.in_ok-name.name.name, c.in_ok-name.name.at) fs)) (λ f. fits most k 0 room _ 0 has (omega arith) (omega arith)))
    (c.in_err-fields.ensures.read most (λ fs g. made c.args.at k (c.in_ok-name.name.name, c.in_ok-name.name.at) fs) (λ fs. fits most k 0 room _ 0 has (omega arith) (omega arith))))

pub returns-clause-read : goal.returns-clause-read
returns-clause-read c room most k has =
    c.in_ok-name.ensures.read most (λ p. wants_sign symbol.Equal (wants_sign symbol.LeftBrace (fields_of c.args.at k p))) (λ p. fits most k 0 room _ 0 has (omega arith) (omega arith))
    ∙ c.in_ok-rest.ensures.read most (wants_sign symbol.LeftBrace (fields_of c.args.at k (c.in_ok-name.name.name, c.in_ok-name.name.at))) (fits most k 0 room _ 0 has (omega arith) (omega arith))
    ∙ c.in_ok-rest-2.ensures.read most (fields_of c.args.at k (c.in_ok-name.name.name, c.in_ok-name.name.at)) (fits most k 0 room _ 0 has (omega arith) (omega arith))
    ∙ c.in_ok-first.ensures.read most (λ f h. reads (more_fields Braces (f ∷ [])) (λ fs g. made c.args.at k (c.in_ok-name.name.name, c.in_ok-name.name.at) fs)) (λ f. fits most k 0 room _ 0 has (omega arith) (omega arith))
    ∙ c.in_ok-fields.ensures.read most (λ fs g. made c.args.at k (c.in_ok-name.name.name, c.in_ok-name.name.at) fs) (λ fs. fits most k 0 room _ 0 has (omega arith) (omega arith))
    ∙ ap (λ n. run most (k (decl.Struct (record { name = n; fields = c.in_ok-fields.fields; at = c.args.at })) 0) c.in_ok-fields.rest.now) (sym c.in_ok-name.ensures.new)
