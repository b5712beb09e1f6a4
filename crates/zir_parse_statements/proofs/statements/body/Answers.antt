use Rattle.std.proofs.Common.{rules, ◌≡◌, ◌≤◌, ◌<◌, ◌+◌, suc, max, [], ◌∷◌, ◌++◌, ◌∙◌, arith}
use Rattle.std.proofs.lemmas.Result.{err_from_is_err_and}
use Rattle.zir_grammar.specs.Parts.{reads, more_body}
use Rattle.zir_grammar.proofs.Descent.{stop_leads, fits}
use Rattle.zir_parse_statements.proofs.Steps.{raised, room_beside}
use Rattle.zir_parse_statements.proofs.StmtParts.{body_opens, body_closes, result_of, return_fits, return_deep, result_room, after_step, body_goes_on, step_closes, step_goes_on}
use Rattle.zir_parse_statements.proofs.statements.body.Goals as goal

pub returns-in_err-rest-clause-read : goal.returns-in_err-rest-clause-read
returns-in_err-rest-clause-read c most k has =
    let p = err_from_is_err_and c.from_residual.result c.from_residual.ensures.1 in
    rw (p.1, p.2) (stop_leads c.in_err-rest.field-0.0 _ _ (body_opens most k c.args.tokens.now)
    (c.in_err-rest.ensures.read most (reads (more_body [] 0) (raised k)) (fits most k 1 c.args.room _ (suc 0) has (omega arith) (omega (arith, c.requires)))))

pub loop-after-init : goal.loop-after-init
loop-after-init c = record {
  read = λ most k has. rw c.new-statements.ensures
      (body_opens most k c.args.tokens.now
      ∙ c.in_ok-rest.ensures.read most (reads (more_body [] 0) (raised k)) (fits most k 1 c.args.room _ (suc 0) has (omega arith) (omega (arith, c.requires))));
  high = omega (arith, c.requires);
  rest = omega (arith, c.in_ok-rest.ensures.rest);
}

pub returns-in-Some-clause-read : goal.returns-in-Some-clause-read
returns-in-Some-clause-read c most k has =
    let up : c.loop-after.high + 1 ≡ suc c.loop-after.high = omega arith in
    rw up
    (c.loop-after.invariant.read most k has
    ∙ body_closes most c.args.room c.loop-after.statements c.loop-after.high k c.loop-after.rest.now _ c.in-Some.after.now c.in-Some.ensures.found has c.loop-after.invariant.high)

pub returns-then-room-lt3-clause-read : goal.returns-then-room-lt3-clause-read
returns-then-room-lt3-clause-read c most k has =
    c.loop-after.invariant.read most k has
    ∙ return_deep most c.args.room c.loop-after.statements c.loop-after.high k c.loop-after.rest.now c.in-Some-keyword.at c.in-Some-keyword.after.now c.in-Some-keyword.ensures.found has c.if-room-lt3.true

pub returns-in_err-value-clause-read : goal.returns-in_err-value-clause-read
returns-in_err-value-clause-read c most k has =
    let p = err_from_is_err_and c.from_residual-in_err-value.result c.from_residual-in_err-value.ensures.1 in
    rw (p.1, p.2) (stop_leads c.in_err-value.field-0.0 _ _
    (c.loop-after.invariant.read most k has
    ∙ return_fits most c.args.room c.loop-after.statements c.loop-after.high k c.loop-after.rest.now c.in-Some-keyword.at c.in-Some-keyword.after.now c.in-Some-keyword.ensures.found has c.loop-after.invariant.high c.if-room-lt3.false)
    (c.in_err-value.ensures.read most (result_of c.loop-after.statements c.loop-after.high c.in-Some-keyword.at k)
    (result_room most c.args.room c.loop-after.statements c.loop-after.high c.in-Some-keyword.at k has c.loop-after.invariant.high c.if-room-lt3.false)))

pub returns-in-Some-keyword-clause-read : goal.returns-in-Some-keyword-clause-read
returns-in-Some-keyword-clause-read c most k has =
    let m : c.max-height.result ≡ max c.loop-after.high (c.in_ok-value.height + 1) = search rules in
    let up : c.max-height.result + 1 ≡ suc (max c.loop-after.high (suc c.in_ok-value.height)) = omega (arith, m) in
    rw up
    (c.loop-after.invariant.read most k has
    ∙ return_fits most c.args.room c.loop-after.statements c.loop-after.high k c.loop-after.rest.now c.in-Some-keyword.at c.in-Some-keyword.after.now c.in-Some-keyword.ensures.found has c.loop-after.invariant.high c.if-room-lt3.false
    ∙ c.in_ok-value.ensures.read most (result_of c.loop-after.statements c.loop-after.high c.in-Some-keyword.at k)
    (result_room most c.args.room c.loop-after.statements c.loop-after.high c.in-Some-keyword.at k has c.loop-after.invariant.high c.if-room-lt3.false))

pub returns-in_err-statement-clause-read : goal.returns-in_err-statement-clause-read
returns-in_err-statement-clause-read c most k has =
    let p = err_from_is_err_and c.from_residual-in_err-statement.result c.from_residual-in_err-statement.ensures.1 in
    let own : 1 ≤ suc c.loop-after.high = omega arith in
    rw (p.1, p.2) (stop_leads c.in_err-statement.field-0.0 _ _
    (c.loop-after.invariant.read most k has
    ∙ body_goes_on most c.loop-after.statements c.loop-after.high k c.loop-after.rest.now c.in_default.ensures.found c.in_default-keyword.ensures.found)
    (c.in_err-statement.ensures.read most (after_step c.loop-after.statements c.loop-after.high k)
    (λ s h some. room_beside most 1 c.args.room c.loop-after.high k _ h has own c.loop-after.invariant.high)))

pub returns-in-Some-symbol-clause-read : goal.returns-in-Some-symbol-clause-read
returns-in-Some-symbol-clause-read c most k has =
    let own : 1 ≤ suc c.loop-after.high = omega arith in
    let m : c.max-high.result ≡ max c.loop-after.high c.in_ok-statement.height = search rules in
    let up : c.max-high.result + 1 ≡ suc (max c.loop-after.high c.in_ok-statement.height) = omega (arith, m) in
    let below : c.in_ok-statement.height < c.args.room = omega (arith, c.in_ok-statement.ensures.high, c.requires) in
    rw (c.in_ok-push.ensures.ok, up)
    (c.loop-after.invariant.read most k has
    ∙ body_goes_on most c.loop-after.statements c.loop-after.high k c.loop-after.rest.now c.in_default.ensures.found c.in_default-keyword.ensures.found
    ∙ c.in_ok-statement.ensures.read most (after_step c.loop-after.statements c.loop-after.high k)
    (λ s h some. room_beside most 1 c.args.room c.loop-after.high k _ h has own c.loop-after.invariant.high)
    ∙ step_closes most c.args.room c.loop-after.statements c.loop-after.high k c.in_ok-statement.statement c.in_ok-statement.height c.in_ok-statement.after.now _ c.in-Some-symbol.after.now c.in-Some-symbol.ensures.found has c.loop-after.invariant.high below)

pub returns-in_err-rest-2-clause-read : goal.returns-in_err-rest-2-clause-read
returns-in_err-rest-2-clause-read c most k has =
    let p = err_from_is_err_and c.from_residual-in_err-rest-2.result c.from_residual-in_err-rest-2.ensures.1 in
    let own : 1 ≤ suc c.loop-after.high = omega arith in
    let below : c.in_ok-statement.height < c.args.room = omega (arith, c.in_ok-statement.ensures.high, c.requires) in
    rw (p.1, p.2) (stop_leads c.in_err-rest-2.field-0.0 _ _
    (c.loop-after.invariant.read most k has
    ∙ body_goes_on most c.loop-after.statements c.loop-after.high k c.loop-after.rest.now c.in_default.ensures.found c.in_default-keyword.ensures.found
    ∙ c.in_ok-statement.ensures.read most (after_step c.loop-after.statements c.loop-after.high k)
    (λ s h some. room_beside most 1 c.args.room c.loop-after.high k _ h has own c.loop-after.invariant.high)
    ∙ step_goes_on most c.loop-after.statements c.loop-after.high k c.in_ok-statement.statement c.in_ok-statement.height c.in_ok-statement.after.now c.in_default-symbol.ensures.found)
    (c.in_err-rest-2.ensures.read most
    (reads (more_body (c.loop-after.statements ++ c.in_ok-statement.statement ∷ []) (max c.loop-after.high c.in_ok-statement.height)) (raised k))
    (fits most k 1 c.args.room _ (suc (max c.loop-after.high c.in_ok-statement.height)) has (omega arith) (omega (arith, below, c.loop-after.invariant.high)))))

pub loop-after-preserved : goal.loop-after-preserved
loop-after-preserved c =
    let own : 1 ≤ suc c.loop-after.high = omega arith in
    let m : c.max-high.result ≡ max c.loop-after.high c.in_ok-statement.height = search rules in
    let below : c.in_ok-statement.height < c.args.room = omega (arith, c.in_ok-statement.ensures.high, c.requires) in
    record {
      read = λ most k has. rw (c.in_ok-push.ensures.ok, m)
          (c.loop-after.invariant.read most k has
          ∙ body_goes_on most c.loop-after.statements c.loop-after.high k c.loop-after.rest.now c.in_default.ensures.found c.in_default-keyword.ensures.found
          ∙ c.in_ok-statement.ensures.read most (after_step c.loop-after.statements c.loop-after.high k)
          (λ s h some. room_beside most 1 c.args.room c.loop-after.high k _ h has own c.loop-after.invariant.high)
          ∙ step_goes_on most c.loop-after.statements c.loop-after.high k c.in_ok-statement.statement c.in_ok-statement.height c.in_ok-statement.after.now c.in_default-symbol.ensures.found
          ∙ c.in_ok-rest-2.ensures.read most
          (reads (more_body (c.loop-after.statements ++ c.in_ok-statement.statement ∷ []) (max c.loop-after.high c.in_ok-statement.height)) (raised k))
          (fits most k 1 c.args.room _ (suc (max c.loop-after.high c.in_ok-statement.height)) has (omega arith) (omega (arith, below, c.loop-after.invariant.high))));
      high = omega (arith, m, below, c.loop-after.invariant.high);
      rest = omega (arith, c.in_ok-statement.ensures.rest, c.in_ok-rest-2.ensures.rest, c.loop-after.invariant.rest);
    }
