use Rattle.zir_limits.proofs.Noted.{splits_noted}
use Rattle.zir_limits.proofs.notes.Notes.splits.Goals as goal

pub returns : goal.returns
returns c = splits_noted c.args.self.now c.args.number c.args.at _ (c.marked-first.ensures)
