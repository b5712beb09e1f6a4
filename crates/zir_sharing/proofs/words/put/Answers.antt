use Rattle.zir_sharing.proofs.Held.{put_holds}
use Rattle.zir_sharing.proofs.words.put.Goals as goal

pub returns : goal.returns
returns c = λ q. put_holds c.args.words.now c.args.n q c.requires
