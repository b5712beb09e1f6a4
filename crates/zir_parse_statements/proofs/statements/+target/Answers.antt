use Rattle.std.proofs.Common.{rules, ◌≡◌, ◌≤◌, ◌+◌, suc, max, [], ◌∷◌, ◌++◌, sym, ap, ◌∙◌, arith}
use Rattle.std.proofs.lemmas.Result.{err_from_is_err_and}
use Rattle.zir_grammar.specs.Machine.{run}
use Rattle.zir_grammar.proofs.Descent.{stop_leads, leads_on, fits}
use Rattle.zir_parse_statements.proofs.Steps.{room_beside}
use Rattle.zir_parse_statements.proofs.StmtParts.{target_ends, target_deep, step_of, bracket_fits, bracket_deep, part_of, dot_fits, dot_deep, no_target, same_target}
use Rattle.zir_parse_statements.proofs.statements.+target.Goals as goal

pub returns-then-low-room-clause-read : goal.returns-then-low-room-clause-read
returns-then-low-room-clause-read t c most k has =
    target_deep most c.args.room c.args.path c.args.low k c.args.tokens.now _ c.in-Some.after.now c.in-Some.ensures.found has c.if-low-room.true

pub returns-in-Some-clause-read : goal.returns-in-Some-clause-read
returns-in-Some-clause-read t c most k has =
    target_ends most c.args.room c.args.path c.args.low k c.args.tokens.now _ c.in-Some.after.now c.in-Some.ensures.found has c.if-low-room.false

pub returns-then-low-room-2-clause-read : goal.returns-then-low-room-2-clause-read
returns-then-low-room-2-clause-read t c most k has =
    bracket_deep most c.args.room c.args.path c.args.low k c.args.tokens.now c.in-Some-symbol.at c.in-Some-symbol.after.now c.in-Some-symbol.ensures.found has c.if-low-room-2.true

pub returns-in_err-index-clause-read : goal.returns-in_err-index-clause-read
returns-in_err-index-clause-read t c most k has =
    let p = err_from_is_err_and c.from_residual.result c.from_residual.ensures.1 in
    let own : c.args.low ≤ suc c.args.low = omega arith in
    rw (p.1, p.2) (stop_leads c.in_err-index.field-0.0 _ _
    (bracket_fits most c.args.room c.args.path c.args.low k c.args.tokens.now c.in-Some-symbol.at c.in-Some-symbol.after.now c.in-Some-symbol.ensures.found has c.requires c.if-low-room-2.false)
    (c.in_err-index.ensures.read most (step_of c.args.path c.args.low c.in-Some-symbol.at k)
    (λ i h some. room_beside most c.args.low c.args.room c.args.low k _ h has own c.if-low-room-2.false)))

pub returns-in-Some-symbol-clause-read : goal.returns-in-Some-symbol-clause-read
returns-in-Some-symbol-clause-read t c most k has =
    let own : c.args.low ≤ suc c.args.low = omega arith in
    let m : c.max.result ≡ max c.args.low c.in_ok-index.high = search rules in
    let up : suc (max c.args.low c.in_ok-index.high) ≡ c.max.result + 1 = omega (arith, m) in
    leads_on (λ x. run most (k x.0 x.1) x.2.now) c.target.result _ _
    (bracket_fits most c.args.room c.args.path c.args.low k c.args.tokens.now c.in-Some-symbol.at c.in-Some-symbol.after.now c.in-Some-symbol.ensures.found has c.requires c.if-low-room-2.false
    ∙ c.in_ok-index.ensures.read most (step_of c.args.path c.args.low c.in-Some-symbol.at k)
    (λ i h some. room_beside most c.args.low c.args.room c.args.low k _ h has own c.if-low-room-2.false)
    ∙ same_target most k c.in_ok-index.rest.now _ _ _ (c.max.result + 1) (ap (λ s. c.args.path ++ s ∷ []) (sym c.step.ensures) ∙ sym c.in_ok-push.ensures.ok) up)
    (c.target.ensures.read most k (λ a h above. has a h (omega (arith, m, above))))

pub returns-in_default-symbol-2-clause-read : goal.returns-in_default-symbol-2-clause-read
returns-in_default-symbol-2-clause-read t c most k has =
    no_target most c.args.path c.args.low k c.args.tokens.now c.in_default.ensures.found c.in_default-symbol.ensures.found c.in_default-symbol-2.ensures.found

pub returns-then-low-room-3-clause-read : goal.returns-then-low-room-3-clause-read
returns-then-low-room-3-clause-read t c most k has =
    dot_deep most c.args.room c.args.path c.args.low k c.args.tokens.now c.in-Some-symbol-2.at c.in-Some-symbol-2.after.now c.in-Some-symbol-2.ensures.found has c.if-low-room-3.true

pub returns-in_err-field-clause-read : goal.returns-in_err-field-clause-read
returns-in_err-field-clause-read t c most k has =
    let p = err_from_is_err_and c.from_residual-in_err-field.result c.from_residual-in_err-field.ensures.1 in
    rw (p.1, p.2) (stop_leads c.in_err-field.field-0.0 _ _
    (dot_fits most c.args.room c.args.path c.args.low k c.args.tokens.now c.in-Some-symbol-2.at c.in-Some-symbol-2.after.now c.in-Some-symbol-2.ensures.found has c.if-low-room-3.false)
    (c.in_err-field.ensures.read most (part_of c.args.path c.args.low c.in-Some-symbol-2.at k)
    (λ x. fits most k c.args.low c.args.room _ (suc c.args.low) has (omega arith) (omega (arith, c.if-low-room-3.false)))))

pub returns-clause-read : goal.returns-clause-read
returns-clause-read t c most k has =
    let up : suc c.args.low ≡ c.args.low + 1 = omega arith in
    leads_on (λ x. run most (k x.0 x.1) x.2.now) c.target-2.result _ _
    (dot_fits most c.args.room c.args.path c.args.low k c.args.tokens.now c.in-Some-symbol-2.at c.in-Some-symbol-2.after.now c.in-Some-symbol-2.ensures.found has c.if-low-room-3.false
    ∙ c.in_ok-field.ensures.read most (part_of c.args.path c.args.low c.in-Some-symbol-2.at k)
    (λ x. fits most k c.args.low c.args.room _ (suc c.args.low) has (omega arith) (omega (arith, c.if-low-room-3.false)))
    ∙ same_target most k c.in_ok-field.rest.now _ _ _ (c.args.low + 1) (sym c.in_ok-push-2.ensures.ok) up)
    (c.target-2.ensures.read most k (λ a h above. has a h (omega (arith, above))))
