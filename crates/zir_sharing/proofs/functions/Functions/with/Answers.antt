use Rattle.zir_sharing.proofs.Tables.{called_more}
use Rattle.zir_sharing.proofs.functions.Functions.with.Goals as goal

pub returns : goal.returns
returns c =
    rw (c.in_ok-push.ensures, c.in_ok-push-2.ensures.items, ← c.self.view_is) (called_more c.self.inside.index c.self.inside.touched.items c.args.id c.args.called c.self.invariant)
