use Rattle.std.proofs.Common.{arith, ap, ◌+◌, ◌-◌, ◌≡◌}
use Rattle.zir_flow.specs.Stages.{Alone, turned_by}
use Rattle.zir_flow.proofs.Turning.{one_more}
use Rattle.zir_stage.proofs.thread.Thread.spin.Goals as goal

pub loop-fuel-preserved : goal.loop-fuel-preserved
loop-fuel-preserved c =
    let e : c.args.fuel.now - (c.loop-fuel.fuel - 1) ≡ (c.args.fuel.now - c.loop-fuel.fuel) + 1 = omega (arith, c.loop-fuel.invariant.0) in (
      omega (arith, c.loop-fuel.invariant.0),
      λ room. one_more (c.args.fuel.now - c.loop-fuel.fuel) _ c.args.code.now (Alone c.args.self.now room)
          (Alone c.loop-fuel.self room) _ e (c.loop-fuel.invariant.1 room) (ap (λ m. turned_by m room) c.in-Goes.ensures),
    )
