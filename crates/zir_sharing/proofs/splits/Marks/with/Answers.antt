use Rattle.zir_sharing.proofs.Tables.{marked_more}
use Rattle.zir_sharing.proofs.splits.Marks.with.Goals as goal

pub returns : goal.returns
returns c =
    rw (c.in_ok-push.ensures, c.in_ok-push-2.ensures.items, ← c.self.view_is) (marked_more c.self.inside.index c.self.inside.marks.items c.args.id c.args.mark c.self.invariant)
