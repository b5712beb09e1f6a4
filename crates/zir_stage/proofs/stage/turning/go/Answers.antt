use Rattle.std.proofs.Common.{arith, rules, ◌≡◌, ◌+◌, ◌-◌, None, Some, subst, sym}
use Rattle.zir_flow.specs.Stages.{Alone, Open}
use Rattle.zir_stage.specs.Coming.{Came}
use Rattle.zir_stage.specs.Pausing.{fork_by, joint_at}
use Rattle.zir_stage.specs.Standing.{memory_of, room_in, standing}
use Rattle.zir_stage.proofs.Forking.{paced_event, paced_fork, fork_joint, came_by}
use Rattle.zir_stage.proofs.stage.turning.go.Goals as goal

pub returns-in-None-clause-came : goal.returns-in-None-clause-came
returns-in-None-clause-came c =
    let f : fork_by c.spin-pause.result (joint_at c.args.code.now c.spin-pause.new.self.place) ≡ None = search rules in
    rw c.event.ensures (paced_event c.spin-pause.result _ c.args.code.now c.args.thread.now c.spin-pause.new.self
    (Open (memory_of c.args.left.now) (room_in c.args.left.now) (room_in c.args.right.now)) c.spin-pause.ensures.paced f)

pub returns-in-Some-clause-came : goal.returns-in-Some-clause-came
returns-in-Some-clause-came c =
    let f : fork_by c.spin-pause.result (joint_at c.args.code.now c.spin-pause.new.self.place) ≡ Some c.in-Some.joint.now = search rules in
    let room = Open (memory_of c.args.left.now) (room_in c.args.left.now) (room_in c.args.right.now) in
    let k : c.args.fuel.now - c.spend.new.fuel ≡ (c.args.fuel.now - c.spin-pause.new.fuel) + 1 = omega (arith, c.spend.ensures.fuel, c.spin-pause.ensures.fuel) in
    let after = standing c.args.code.now c.begin.new.thread c.begin.new.left c.begin.new.right c.begin.new.link in
    subst (λ r. Came c.args.code.now (c.args.fuel.now - c.spend.new.fuel) (Alone c.args.thread.now room) r after) (sym c.spend.ensures.same)
    (came_by None (c.args.fuel.now - c.spin-pause.new.fuel) _ c.args.code.now (Alone c.args.thread.now room) after _ k
    (paced_fork c.spin-pause.result _ c.args.code.now c.args.thread.now c.spin-pause.new.self room c.in-Some.joint.now c.spin-pause.ensures.paced f)
    (c.begin.ensures.begun c.args.code.now (fork_joint c.spin-pause.result _ c.in-Some.joint.now f)))
