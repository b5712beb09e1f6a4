use Rattle.std.proofs.Common.{◌≡◌, ◌+◌, suc, ◌∙◌, arith}
use Rattle.std.proofs.lemmas.Result.{err_from_is_err_and}
use Rattle.zir_grammar.specs.Parts.{reads, initial_of}
use Rattle.zir_grammar.proofs.Descent.{stop_leads, fits}
use Rattle.zir_parse_statements.proofs.Steps.{room_inside}
use Rattle.zir_parse_statements.proofs.StmtParts.{set_to, initial_fits, initial_deep, no_initial}
use Rattle.zir_parse_statements.proofs.statements.variable.Goals as goal

pub returns-in_err-field-clause-read : goal.returns-in_err-field-clause-read
returns-in_err-field-clause-read c most k has =
    let p = err_from_is_err_and c.from_residual.result c.from_residual.ensures.1 in
    rw (p.1, p.2) (c.in_err-field.ensures.read most (λ f h. reads (initial_of f c.args.at) k) (λ f. fits most k 1 c.args.room _ 1 has (omega arith) c.requires))

pub returns-in_default-clause-read : goal.returns-in_default-clause-read
returns-in_default-clause-read c most k has =
    c.in_ok-field.ensures.read most (λ f h. reads (initial_of f c.args.at) k) (λ f. fits most k 1 c.args.room _ 1 has (omega arith) c.requires)
    ∙ no_initial most c.in_ok-field.field c.args.at k c.in_ok-field.rest.now c.in_default.ensures.found

pub returns-then-room-lt2-clause-read : goal.returns-then-room-lt2-clause-read
returns-then-room-lt2-clause-read c most k has =
    c.in_ok-field.ensures.read most (λ f h. reads (initial_of f c.args.at) k) (λ f. fits most k 1 c.args.room _ 1 has (omega arith) c.requires)
    ∙ initial_deep most c.args.room c.in_ok-field.field c.args.at k c.in_ok-field.rest.now _ c.in-Some.after.now c.in-Some.ensures.found has c.if-room-lt2.true

pub returns-in_err-value-clause-read : goal.returns-in_err-value-clause-read
returns-in_err-value-clause-read c most k has =
    let p = err_from_is_err_and c.from_residual-in_err-value.result c.from_residual-in_err-value.ensures.1 in
    rw (p.1, p.2) (stop_leads c.in_err-value.field-0.0 _ _
    (c.in_ok-field.ensures.read most (λ f h. reads (initial_of f c.args.at) k) (λ f. fits most k 1 c.args.room _ 1 has (omega arith) c.requires)
    ∙ initial_fits most c.args.room c.in_ok-field.field c.args.at k c.in_ok-field.rest.now _ c.in-Some.after.now c.in-Some.ensures.found has c.if-room-lt2.false)
    (c.in_err-value.ensures.read most (set_to c.in_ok-field.field c.args.at k) (λ e h some. room_inside most c.args.room k _ h has c.requires)))

pub returns-clause-read : goal.returns-clause-read
returns-clause-read c most k has =
    let up : c.in_ok-value.height + 1 ≡ suc c.in_ok-value.height = omega arith in
    rw up
    (c.in_ok-field.ensures.read most (λ f h. reads (initial_of f c.args.at) k) (λ f. fits most k 1 c.args.room _ 1 has (omega arith) c.requires)
    ∙ initial_fits most c.args.room c.in_ok-field.field c.args.at k c.in_ok-field.rest.now _ c.in-Some.after.now c.in-Some.ensures.found has c.if-room-lt2.false
    ∙ c.in_ok-value.ensures.read most (set_to c.in_ok-field.field c.args.at k) (λ e h some. room_inside most c.args.room k _ h has c.requires))
