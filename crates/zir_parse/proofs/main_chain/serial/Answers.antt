use Rattle.std.proofs.Common.{◌≡◌, ◌+◌, suc, max, sym, ◌∙◌, rules, arith}
use Rattle.std.proofs.lemmas.Result.{err_from_is_err_and}
use Rattle.zir_grammar.specs.Parts.{reads, behind_main}
use Rattle.zir_grammar.proofs.Descent.{stop_leads}
use Rattle.zir_parse.proofs.Steps.{same_room}
use Rattle.zir_parse.proofs.MainSteps.{behind, pipe_begins, write_begins, chain_goes_on, pipe_room, pipe_high, no_more}
use Rattle.zir_parse.proofs.main_chain.serial.Goals as goal

pub returns-in_err-first-clause-read : goal.returns-in_err-first-clause-read
returns-in_err-first-clause-read c most left k has =
    let p = err_from_is_err_and c.from_residual.result c.from_residual.ensures.1 in
    rw (p.1, p.2) (c.in_err-first.ensures.read most (λ d h. reads (behind_main left d h) k) (λ d h above. has _ h above))

pub loop-at-init : goal.loop-at-init
loop-at-init c = record {
  read = λ most left k has. c.in_ok-first.ensures.read most (λ d h. reads (behind_main left d h) k) (λ d h above. has _ h above);
  low = c.in_ok-first.ensures.low;
  high = c.in_ok-first.ensures.high;
  rest = c.in_ok-first.ensures.rest;
}

pub returns-in-Some-keyword-clause-read : goal.returns-in-Some-keyword-clause-read
returns-in-Some-keyword-clause-read c most left k has =
    c.loop-at.invariant.read most left k has
    ∙ pipe_begins most c.args.room left c.loop-at.left c.loop-at.height k c.loop-at.rest.now c.in-Some.at c.in-Some.after.now c.in-Some.ensures.found has c.loop-at.invariant.low c.loop-at.invariant.high
    ∙ write_begins most c.args.room left c.loop-at.left c.loop-at.height c.in-Some.at k c.in-Some.after.now _ c.in-Some-keyword.after.now c.in-Some-keyword.ensures.found has c.loop-at.invariant.low c.loop-at.invariant.high

pub returns-in-Some-keyword-clause-ends : goal.returns-in-Some-keyword-clause-ends
returns-in-Some-keyword-clause-ends c e = absurd (cc e)

pub returns-in_err-right-clause-read : goal.returns-in_err-right-clause-read
returns-in_err-right-clause-read c most left k has =
    let p = err_from_is_err_and c.from_residual-in_err-right.result c.from_residual-in_err-right.ensures.1 in
    rw (p.1, p.2) (stop_leads c.in_err-right.field-0.0 _ _
    (c.loop-at.invariant.read most left k has
    ∙ pipe_begins most c.args.room left c.loop-at.left c.loop-at.height k c.loop-at.rest.now c.in-Some.at c.in-Some.after.now c.in-Some.ensures.found has c.loop-at.invariant.low c.loop-at.invariant.high
    ∙ chain_goes_on most left c.loop-at.left c.loop-at.height c.in-Some.at k c.in-Some.after.now c.in_default-keyword.ensures.found)
    (c.in_err-right.ensures.read most (behind left c.loop-at.left c.loop-at.height c.in-Some.at k) (same_room most 1 (behind left c.loop-at.left c.loop-at.height c.in-Some.at k) _ _ (pipe_room most c.args.room left c.loop-at.left c.loop-at.height c.in-Some.at k has c.loop-at.invariant.high) (sym c.room_behind-below.ensures))))

pub loop-at-preserved : goal.loop-at-preserved
loop-at-preserved c =
    let m : c.max-height.result ≡ max c.loop-at.height c.in_ok-right.high = search rules in
    let up : c.max-height.result + 1 ≡ suc (max c.loop-at.height c.in_ok-right.high) = omega (arith, m) in
    record {
      read = λ most left k has. rw (c.in_ok-before.ensures, c.in_ok-behind.ensures, up)
          (c.loop-at.invariant.read most left k has
          ∙ pipe_begins most c.args.room left c.loop-at.left c.loop-at.height k c.loop-at.rest.now c.in-Some.at c.in-Some.after.now c.in-Some.ensures.found has c.loop-at.invariant.low c.loop-at.invariant.high
          ∙ chain_goes_on most left c.loop-at.left c.loop-at.height c.in-Some.at k c.in-Some.after.now c.in_default-keyword.ensures.found
          ∙ c.in_ok-right.ensures.read most (behind left c.loop-at.left c.loop-at.height c.in-Some.at k) (same_room most 1 (behind left c.loop-at.left c.loop-at.height c.in-Some.at k) _ _ (pipe_room most c.args.room left c.loop-at.left c.loop-at.height c.in-Some.at k has c.loop-at.invariant.high) (sym c.room_behind-below.ensures)));
      low = omega arith;
      high = rw up (pipe_high c.args.room c.loop-at.height c.in_ok-right.high c.loop-at.invariant.high c.in_ok-right.ensures.low
          (rw c.room_behind-below.ensures at c.in_ok-right.ensures.high));
      rest = omega (arith, c.in_ok-right.ensures.rest, c.in-Some.ensures.rest, c.loop-at.invariant.rest);
    }

pub returns-clause-read : goal.returns-clause-read
returns-clause-read c most left k has =
    c.loop-at.invariant.read most left k has
    ∙ no_more most left c.loop-at.left c.loop-at.height k c.loop-at.rest.now c.in_default.ensures.found

pub returns-clause-ends : goal.returns-clause-ends
returns-clause-ends c e = c.in_default.ensures.found
