use Rattle.std.proofs.Common.{◌∙◌, ap, sym, arith, take, []}
use Rattle.zir_names.specs.Sharing.{splits_from}
use Rattle.zir_sharing.specs.Marks.{marks_of}
use Rattle.zir_sharing.proofs.Conflicts.{splits_from-take}
use Rattle.zir_sharing.proofs.splits.marks_of.Goals as goal

pub loop-d-preserved : goal.loop-d-preserved
loop-d-preserved c =
    c.in_ok-more.ensures (splits_from [] (take c.loop-d.d-index c.args.ds.now)) (sym c.loop-d.invariant)
    ∙ ap marks_of (sym (splits_from-take c.args.ds.now c.loop-d.d-index c.d-item.result (omega arith) c.d-item.is))
