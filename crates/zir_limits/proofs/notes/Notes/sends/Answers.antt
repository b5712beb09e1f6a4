use Rattle.zir_limits.proofs.Noted.{sends_noted}
use Rattle.zir_limits.proofs.notes.Notes.sends.Goals as goal

pub returns : goal.returns
returns c = sends_noted c.args.self.now c.args.cells c.args.at _ (c.marked-first.ensures)
