use Rattle.zir_limits.proofs.Noted.{call_noted}
use Rattle.zir_limits.proofs.notes.Notes.call.Goals as goal

pub returns : goal.returns
returns c = call_noted c.args.self.now c.args.target c.args.at _ c.in_ok-push.ensures.ok
