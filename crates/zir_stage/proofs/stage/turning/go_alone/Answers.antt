use Rattle.std.proofs.Common.{rules, ◌≡◌, None, Some}
use Rattle.zir_flow.specs.Stages.{Closed}
use Rattle.zir_stage.specs.Pausing.{fork_by, joint_at}
use Rattle.zir_stage.proofs.Forking.{paced_event, paced_fork}
use Rattle.zir_stage.proofs.stage.turning.go_alone.Goals as goal

pub returns-in-None-clause-came : goal.returns-in-None-clause-came
returns-in-None-clause-came c =
    let f : fork_by c.spin-pause.result (joint_at c.args.code.now c.spin-pause.new.self.place) ≡ None = search rules in
    rw c.event.ensures (paced_event c.spin-pause.result _ c.args.code.now c.args.thread.now c.spin-pause.new.self Closed c.spin-pause.ensures.paced f)

pub returns-in-Some-clause-came : goal.returns-in-Some-clause-came
returns-in-Some-clause-came c =
    let f : fork_by c.spin-pause.result (joint_at c.args.code.now c.spin-pause.new.self.place) ≡ Some c.in-Some.field-0.now = search rules in
    paced_fork c.spin-pause.result _ c.args.code.now c.args.thread.now c.spin-pause.new.self Closed c.in-Some.field-0.now c.spin-pause.ensures.paced f
