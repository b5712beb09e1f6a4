use Rattle.zir_accept.proofs.Kept.{accepted_kept}
use Rattle.zir_accept.proofs.accepted_keep_rules.Goals as goal

pub returns : goal.returns
returns c = accepted_kept c.cores_are_sound.ensures c.names_are_own.ensures
