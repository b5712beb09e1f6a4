use Rattle.std.proofs.Common.{arith, rules, ap, ◌≡◌, ◌∙◌, ◌+◌, ◌-◌, ◌<◌, ◌≤◌, Some, None}
use Rattle.zir_flow.specs.Stages.{Going, turned_on}
use Rattle.zir_stage.specs.Coming.{point_within, says, spent}
use Rattle.zir_stage.specs.Standing.{stage_of, standing}
use Rattle.zir_stage.proofs.Composing.{joined_is, came_nothing, came_gives, came_traps, came_ends, came_gone, came_waiting, came_pulled, spent_less, stops_as}
use Rattle.zir_stage.proofs.Forking.{came_on}
use Rattle.zir_stage.proofs.stage.+turning.Goals as goal

pub turning::compose-returns-in-None-clause-came : goal.turning::compose-returns-in-None-clause-came
turning::compose-returns-in-None-clause-came t c =
    let run : turned_on (c.args.fuel.now - c.run.new.fuel) c.args.code.now (stage_of c.args.code.now c.args.right.now)
    ≡ Going (stage_of c.args.code.now c.run.new.self) = search rules in
    came_nothing _ c.args.code.now c.args.thread.now c.args.joint.now (stage_of c.args.code.now c.args.left.now) (stage_of c.args.code.now c.args.right.now)
    (stage_of c.args.code.now c.run.new.self) _ c.args.point run (joined_is c.args.link.now _ c.args.point c.args.joint.now _ _ _ _ c.requires.linked c.requires.at)

pub turning::compose-returns-in-Some-Gives-clause-came : goal.turning::compose-returns-in-Some-Gives-clause-came
turning::compose-returns-in-Some-Gives-clause-came t c =
    came_gives (c.args.fuel.now - c.run.new.fuel) c.args.code.now c.args.thread.now c.args.joint.now (stage_of c.args.code.now c.args.left.now)
    (stage_of c.args.code.now c.args.right.now) (stage_of c.args.code.now c.run.new.self)
    (standing c.args.code.now c.args.thread.now c.args.left.now c.run.new.self c.args.link.now) c.args.point c.in-Some-Gives.offer c.point_at-at.result
    c.give_at.result (stops_as (c.args.fuel.now - c.run.new.fuel) c.args.code.now (stage_of c.args.code.now c.args.right.now)
    (stage_of c.args.code.now c.run.new.self) c.in-Some-Gives.field-0 _ c.in-Some-Gives.field-0-is c.in-Some-Gives.ensures.came)
    (c.point_at-at.ensures ∙ ap (point_within c.args.point.taken c.args.point.ticks c.in-Some-Gives.offer.stamp.ticks) c.limit-limit.ensures)
    c.give_at.ensures (joined_is c.args.link.now _ c.args.point c.args.joint.now _ _ _ _ c.requires.linked c.requires.at)

pub turning::compose-returns-in-Some-Needs-clause-came : goal.turning::compose-returns-in-Some-Needs-clause-came
turning::compose-returns-in-Some-Needs-clause-came t c =
    let less : c.pull.new.fuel ≤ c.run.new.fuel = spent_less c.pull.result c.run.new.fuel c.pull.new.fuel c.pull.ensures.fuel in
    let k : c.args.fuel.now - c.pull.new.fuel ≡ (c.args.fuel.now - c.run.new.fuel) + (c.run.new.fuel - c.pull.new.fuel) =
    omega (arith, less, c.run.ensures.fuel) in
    rw k (c.pull.ensures.came (c.args.fuel.now - c.run.new.fuel) (stage_of c.args.code.now c.args.right.now) (stops_as (c.args.fuel.now - c.run.new.fuel) c.args.code.now (stage_of c.args.code.now c.args.right.now)
    (stage_of c.args.code.now c.run.new.self) c.in-Some-Needs.field-0 _ c.in-Some-Needs.field-0-is c.in-Some-Needs.ensures.came))

pub turning::compose-returns-in-Some-Ends-clause-came : goal.turning::compose-returns-in-Some-Ends-clause-came
turning::compose-returns-in-Some-Ends-clause-came t c =
    let k : c.args.fuel.now - c.spend.new.fuel ≡ (c.args.fuel.now - c.run.new.fuel) + spent c.end_side-event.result =
    omega (arith, c.spend.ensures.fuel, c.run.ensures.fuel) in
    rw c.spend.ensures.same
    (came_ends (c.args.fuel.now - c.run.new.fuel) (c.args.fuel.now - c.spend.new.fuel) c.args.code.now c.args.thread.now c.args.joint.now
    (stage_of c.args.code.now c.args.left.now) (stage_of c.args.code.now c.args.right.now) (stage_of c.args.code.now c.run.new.self)
    (standing c.args.code.now c.end_side-event.new.thread c.end_side-event.new.left c.end_side-event.new.right c.end_side-event.new.link) c.args.point
    c.in-Some-Ends.end c.point_at-at-in-Some-Ends.result c.end_side-event.result k (stops_as (c.args.fuel.now - c.run.new.fuel) c.args.code.now (stage_of c.args.code.now c.args.right.now)
    (stage_of c.args.code.now c.run.new.self) c.in-Some-Ends.field-0 _ c.in-Some-Ends.field-0-is c.in-Some-Ends.ensures.came)
    (c.point_at-at-in-Some-Ends.ensures ∙ ap (point_within c.args.point.taken c.args.point.ticks c.in-Some-Ends.end.ticks) c.limit-limit.ensures)
    c.end_side-event.ensures.ends)

pub turning::compose-returns-in-Some-Traps-clause-came : goal.turning::compose-returns-in-Some-Traps-clause-came
turning::compose-returns-in-Some-Traps-clause-came t c =
    came_traps (c.args.fuel.now - c.run.new.fuel) c.args.code.now c.args.thread.now c.args.joint.now (stage_of c.args.code.now c.args.left.now)
    (stage_of c.args.code.now c.args.right.now) (stage_of c.args.code.now c.run.new.self)
    (standing c.args.code.now c.args.thread.now c.args.left.now c.run.new.self c.args.link.now) c.args.point c.in-Some-Traps.end c.in-Some-Traps.trap
    c.point_at-at-in-Some-Traps.result c.trap_at.result (stops_as (c.args.fuel.now - c.run.new.fuel) c.args.code.now (stage_of c.args.code.now c.args.right.now)
    (stage_of c.args.code.now c.run.new.self) c.in-Some-Traps.field-0 _ c.in-Some-Traps.field-0-is c.in-Some-Traps.ensures.came)
    (c.point_at-at-in-Some-Traps.ensures ∙ ap (point_within c.args.point.taken c.args.point.ticks c.in-Some-Traps.end.ticks) c.limit-limit.ensures)
    c.trap_at.ensures (joined_is c.args.link.now _ c.args.point c.args.joint.now _ _ _ _ c.requires.linked c.requires.at)

pub turning::compose-returns-in-Some-Gone-clause-came : goal.turning::compose-returns-in-Some-Gone-clause-came
turning::compose-returns-in-Some-Gone-clause-came t c =
    came_gone (c.args.fuel.now - c.run.new.fuel) c.args.code.now c.args.thread.now c.args.joint.now (stage_of c.args.code.now c.args.left.now)
    (stage_of c.args.code.now c.args.right.now) (stage_of c.args.code.now c.run.new.self)
    (standing c.args.code.now c.args.thread.now c.args.left.now c.run.new.self c.args.link.now) c.args.point (stops_as (c.args.fuel.now - c.run.new.fuel) c.args.code.now (stage_of c.args.code.now c.args.right.now)
    (stage_of c.args.code.now c.run.new.self) c.in-Some-Gone.field-0 _ c.in-Some-Gone.field-0-is c.in-Some-Gone.ensures.came)

pub turning::pull-returns-in-None-clause-came : goal.turning::pull-returns-in-None-clause-came
turning::pull-returns-in-None-clause-came t c = λ n r stop.
    came_waiting n (c.args.fuel.now - c.run.new.fuel) c.args.code.now c.args.thread.now c.args.joint.now (stage_of c.args.code.now c.args.left.now)
    (stage_of c.args.code.now c.run.new.self) r (stage_of c.args.code.now c.args.right.now)
    (standing c.args.code.now c.args.thread.now c.run.new.self c.args.right.now c.args.link.now) c.args.point c.args.need stop c.in-None.ensures.came
    (joined_is c.args.link.now _ c.args.point c.args.joint.now _ _ _ _ c.requires.linked c.requires.at)

pub turning::pull-returns-in-Some-clause-came : goal.turning::pull-returns-in-Some-clause-came
turning::pull-returns-in-Some-clause-came t c = λ n r stop.
    let k : n + (c.args.fuel.now - c.spend.new.fuel) ≡ (n + (c.args.fuel.now - c.run.new.fuel)) + spent c.answer-event.result =
    omega (arith, c.spend.ensures.fuel, c.run.ensures.fuel) in
    rw c.spend.ensures.same
    (came_pulled n (c.args.fuel.now - c.run.new.fuel) (n + (c.args.fuel.now - c.spend.new.fuel)) c.args.code.now c.args.thread.now c.args.joint.now
    (stage_of c.args.code.now c.args.left.now) r (stage_of c.args.code.now c.args.right.now)
    (standing c.args.code.now c.answer-event.new.thread c.answer-event.new.left c.answer-event.new.right c.answer-event.new.link) c.args.point c.args.need
    (says c.in-Some.event (stage_of c.args.code.now c.run.new.self)) c.answer-event.result k stop c.in-Some.ensures.came
    (c.answer-event.ensures.answers c.args.point c.requires.linked))

pub Stage::run-returns-in-Some-clause-came : goal.Stage::run-returns-in-Some-clause-came
Stage::run-returns-in-Some-clause-came t c =
    let less : c.proceed.new.fuel ≤ c.loop-fuel.fuel = c.in-Some.ensures.fuel.0 in
    let k : c.args.fuel.now - c.proceed.new.fuel ≡ (c.args.fuel.now - c.loop-fuel.fuel) + (c.loop-fuel.fuel - c.proceed.new.fuel) =
    omega (arith, less, c.loop-fuel.invariant.0) in
    came_on (Some c.in-Some.event) (c.args.fuel.now - c.loop-fuel.fuel) (c.loop-fuel.fuel - c.proceed.new.fuel) _ c.args.code.now
    (stage_of c.args.code.now c.args.self.now) (stage_of c.args.code.now c.loop-fuel.self) (stage_of c.args.code.now c.proceed.new.self) k
    c.loop-fuel.invariant.1 c.in-Some.ensures.came

pub Stage::run-loop-fuel-preserved : goal.Stage::run-loop-fuel-preserved
Stage::run-loop-fuel-preserved t c =
    let less : c.proceed.new.fuel < c.loop-fuel.fuel = c.in_default.ensures.fuel in
    let k : c.args.fuel.now - c.proceed.new.fuel ≡ (c.args.fuel.now - c.loop-fuel.fuel) + (c.loop-fuel.fuel - c.proceed.new.fuel) =
    omega (arith, less, c.loop-fuel.invariant.0) in (
      omega (arith, less, c.loop-fuel.invariant.0),
      came_on None (c.args.fuel.now - c.loop-fuel.fuel) (c.loop-fuel.fuel - c.proceed.new.fuel) _ c.args.code.now
          (stage_of c.args.code.now c.args.self.now) (stage_of c.args.code.now c.loop-fuel.self) (stage_of c.args.code.now c.proceed.new.self) k
          c.loop-fuel.invariant.1 c.in_default.ensures.came,
      c.proceed.ensures.shape ∙ c.loop-fuel.invariant.2,
    )
