use Rattle.std.proofs.Common.{◌≡◌, drop}
use Rattle.zir_flow.specs.Stages.{brought_back}
use Rattle.zir_stage.proofs.thread.sides.bring_back.Given as goal

abbrev pub invariant-loop-one : goal.invariant-loop-one
invariant-loop-one l = brought_back l.back l.base l.left l.initial.frame ≡ brought_back (drop l.one-index l.back) l.base l.left l.frame
