use Rattle.zir_limits.proofs.Noted.{holds_noted}
use Rattle.zir_limits.proofs.notes.Notes.holds.Goals as goal

pub returns : goal.returns
returns c = holds_noted c.args.self.now c.args.cells c.args.at _ (c.marked-first.ensures)
