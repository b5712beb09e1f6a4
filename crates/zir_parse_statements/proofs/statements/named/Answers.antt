use Rattle.std.proofs.Common.{rules, ◌≡◌, ◌≤◌, ◌<◌, ◌+◌, suc, max, refl, sym, ◌∙◌, arith}
use Rattle.std.proofs.lemmas.Result.{err_from_is_err_and}
use Rattle.zir_grammar.proofs.Descent.{stop_leads}
use Rattle.zir_parse_statements.proofs.Steps.{room_inside, room_beside}
use Rattle.zir_parse_statements.proofs.StmtParts.{call_of, call_fits, value_of, assign_of, assign_begins, assign_room, same_target}
use Rattle.zir_parse_statements.proofs.statements.named.Goals as goal

pub returns-in_err-arguments-clause-read : goal.returns-in_err-arguments-clause-read
returns-in_err-arguments-clause-read c most k has =
    let p = err_from_is_err_and c.from_residual-in_err-arguments.result c.from_residual-in_err-arguments.ensures.1 in
    rw (p.1, p.2) (stop_leads c.in_err-arguments.field-0.0 _ _
    (call_fits most c.args.room c.args.found.now c.args.at k c.args.tokens.now _ c.in-Some.rest.now c.in-Some.ensures.found has c.requires)
    (c.in_err-arguments.ensures.read most (call_of c.args.found.now c.args.at k) (λ es h some. room_inside most c.args.room k _ h has c.requires)))

pub returns-in-Some-clause-read : goal.returns-in-Some-clause-read
returns-in-Some-clause-read c most k has =
    let up : c.in_ok-arguments.high + 1 ≡ suc c.in_ok-arguments.high = omega arith in
    rw (c.in_ok-name.ensures, up)
    (call_fits most c.args.room c.args.found.now c.args.at k c.args.tokens.now _ c.in-Some.rest.now c.in-Some.ensures.found has c.requires
    ∙ c.in_ok-arguments.ensures.read most (call_of c.args.found.now c.args.at k) (λ es h some. room_inside most c.args.room k _ h has c.requires))

pub returns-in_err-path-clause-read : goal.returns-in_err-path-clause-read
returns-in_err-path-clause-read c most k has =
    let p = err_from_is_err_and c.from_residual-in_err-path.result c.from_residual-in_err-path.ensures.1 in
    rw (p.1, p.2) (stop_leads c.in_err-path.field-0.0 _ _
    (assign_begins most c.args.found.now c.args.at k c.args.tokens.now c.in_default.ensures.found
    ∙ same_target most (assign_of c.args.found.now c.args.at k) c.args.tokens.now _ c.new-path.result 1 1 (sym c.new-path.ensures) refl)
    (c.in_err-path.ensures.read most (assign_of c.args.found.now c.args.at k) (assign_room most c.args.room c.args.found.now c.args.at k has)))

pub returns-in_err-value-clause-read : goal.returns-in_err-value-clause-read
returns-in_err-value-clause-read c most k has =
    let p = err_from_is_err_and c.from_residual-in_err-value.result c.from_residual-in_err-value.ensures.1 in
    let own : 1 ≤ suc c.in_ok-path.low = omega arith in
    let below : c.in_ok-path.low < c.args.room = omega (arith, c.in_ok-path.ensures.high, c.requires) in
    rw (p.1, p.2) (stop_leads c.in_err-value.field-0.0 _ _
    (assign_begins most c.args.found.now c.args.at k c.args.tokens.now c.in_default.ensures.found
    ∙ same_target most (assign_of c.args.found.now c.args.at k) c.args.tokens.now _ c.new-path.result 1 1 (sym c.new-path.ensures) refl
    ∙ c.in_ok-path.ensures.read most (assign_of c.args.found.now c.args.at k) (assign_room most c.args.room c.args.found.now c.args.at k has))
    (c.in_err-value.ensures.read most (value_of c.args.found.now c.args.at k c.in_ok-path.path c.in_ok-path.low)
    (λ e h some. room_beside most 1 c.args.room c.in_ok-path.low k _ h has own below)))

pub returns-clause-read : goal.returns-clause-read
returns-clause-read c most k has =
    let own : 1 ≤ suc c.in_ok-path.low = omega arith in
    let below : c.in_ok-path.low < c.args.room = omega (arith, c.in_ok-path.ensures.high, c.requires) in
    let m : c.max.result ≡ max c.in_ok-path.low c.in_ok-value.high = search rules in
    let up : c.max.result + 1 ≡ suc (max c.in_ok-path.low c.in_ok-value.high) = omega (arith, m) in
    rw (c.in_ok-name.ensures, up)
    (assign_begins most c.args.found.now c.args.at k c.args.tokens.now c.in_default.ensures.found
    ∙ same_target most (assign_of c.args.found.now c.args.at k) c.args.tokens.now _ c.new-path.result 1 1 (sym c.new-path.ensures) refl
    ∙ c.in_ok-path.ensures.read most (assign_of c.args.found.now c.args.at k) (assign_room most c.args.room c.args.found.now c.args.at k has)
    ∙ c.in_ok-value.ensures.read most (value_of c.args.found.now c.args.at k c.in_ok-path.path c.in_ok-path.low)
    (λ e h some. room_beside most 1 c.args.room c.in_ok-path.low k _ h has own below))
