use Rattle.std.proofs.Common.{◌≡◌, ◌+◌, suc, max, None, Some, true, false, ap, ◌∙◌, rules, arith}
use Rattle.std.proofs.lemmas.Result.{err_from_is_err_and}
use Rattle.zir_grammar.specs.Machine.{run}
use Rattle.zir_grammar.proofs.Descent.{stop_leads}
use Rattle.zir_parse.specs.Main.{behind_so_far}
use Rattle.zir_parse.proofs.MainSteps.{no_sign, parallel_fits, parallel_deep, parallel_room}
use Rattle.zir_parse.proofs.main_chain.main_chain.Goals as goal

pub returns-in_err-first-clause-read : goal.returns-in_err-first-clause-read
returns-in_err-first-clause-read c most k has =
    let p = err_from_is_err_and c.from_residual.result c.from_residual.ensures.1 in
    rw (p.1, p.2) (c.in_err-first.ensures.read most None k has)

pub loop-ended-init : goal.loop-ended-init
loop-ended-init c = record {
  read = λ most k has. c.in_ok-first.ensures.read most None k has;
  low = c.in_ok-first.ensures.low;
  high = c.in_ok-first.ensures.high;
  ends = c.in_ok-first.ensures.ends;
}

pub returns-in_default-clause-read : goal.returns-in_default-clause-read
returns-in_default-clause-read c most k has =
    let not_yet : c.loop-ended.ended ≡ false = search rules in
    c.loop-ended.invariant.read most k has
    ∙ ap (λ b. run most (behind_so_far b c.loop-ended.left c.loop-ended.height k) c.loop-ended.rest.now) not_yet
    ∙ no_sign most None c.loop-ended.left c.loop-ended.height k c.loop-ended.rest.now c.in_default.ensures.found (c.loop-ended.invariant.ends not_yet)

pub returns-then-height-room-clause-read : goal.returns-then-height-room-clause-read
returns-then-height-room-clause-read c most k has =
    let not_yet : c.loop-ended.ended ≡ false = search rules in
    c.loop-ended.invariant.read most k has
    ∙ ap (λ b. run most (behind_so_far b c.loop-ended.left c.loop-ended.height k) c.loop-ended.rest.now) not_yet
    ∙ parallel_deep most c.args.room c.loop-ended.left c.loop-ended.height k c.loop-ended.rest.now c.in-Some.at c.in-Some.after.now c.in-Some.ensures.found has c.if-height-room.true

pub returns-in_err-right-clause-read : goal.returns-in_err-right-clause-read
returns-in_err-right-clause-read c most k has =
    let p = err_from_is_err_and c.from_residual-in_err-right.result c.from_residual-in_err-right.ensures.1 in
    let not_yet : c.loop-ended.ended ≡ false = search rules in
    rw (p.1, p.2) (stop_leads c.in_err-right.field-0.0 _ _
    (c.loop-ended.invariant.read most k has
    ∙ ap (λ b. run most (behind_so_far b c.loop-ended.left c.loop-ended.height k) c.loop-ended.rest.now) not_yet
    ∙ parallel_fits most c.args.room c.loop-ended.left c.loop-ended.height k c.loop-ended.rest.now c.in-Some.at c.in-Some.after.now c.in-Some.ensures.found has c.loop-ended.invariant.low c.if-height-room.false)
    (c.in_err-right.ensures.read most (Some (c.loop-ended.left, c.loop-ended.height, c.in-Some.at)) k (parallel_room most c.args.room c.loop-ended.left c.loop-ended.height c.in-Some.at k has c.if-height-room.false)))

pub loop-ended-preserved : goal.loop-ended-preserved
loop-ended-preserved c =
    let m : c.max-height.result ≡ max c.loop-ended.height c.in_ok-right.high = search rules in
    let up : c.max-height.result + 1 ≡ suc (max c.loop-ended.height c.in_ok-right.high) = omega (arith, m) in
    let not_yet : c.loop-ended.ended ≡ false = search rules in
    record {
      read = λ most k has. rw (c.in_ok-before.ensures, c.in_ok-behind.ensures, up)
          (c.loop-ended.invariant.read most k has
          ∙ ap (λ b. run most (behind_so_far b c.loop-ended.left c.loop-ended.height k) c.loop-ended.rest.now) not_yet
          ∙ parallel_fits most c.args.room c.loop-ended.left c.loop-ended.height k c.loop-ended.rest.now c.in-Some.at c.in-Some.after.now c.in-Some.ensures.found has c.loop-ended.invariant.low c.if-height-room.false
          ∙ c.in_ok-right.ensures.read most (Some (c.loop-ended.left, c.loop-ended.height, c.in-Some.at)) k (parallel_room most c.args.room c.loop-ended.left c.loop-ended.height c.in-Some.at k has c.if-height-room.false));
      low = omega arith;
      high = omega (arith, up, c.in_ok-right.ensures.high, c.if-height-room.false);
      ends = c.in_ok-right.ensures.ends;
    }

pub returns-clause-read : goal.returns-clause-read
returns-clause-read c most k has =
    let at_last : c.loop-ended.ended ≡ true = search rules in
    c.loop-ended.invariant.read most k has
    ∙ ap (λ b. run most (behind_so_far b c.loop-ended.left c.loop-ended.height k) c.loop-ended.rest.now) at_last
