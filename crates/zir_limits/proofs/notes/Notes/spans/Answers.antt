use Rattle.std.proofs.Common.{◌∙◌, ap}
use Rattle.zir_limits.specs.Notes.{marks}
use Rattle.zir_limits.proofs.Noted.{spans_noted}
use Rattle.zir_limits.proofs.notes.Notes.spans.Goals as goal

pub returns : goal.returns
returns c = spans_noted c.args.self.now c.args.length c.args.at _ (c.marked-first.ensures ∙ ap (λ w. marks w c.args.at c.args.self.now.first_length) c.outside.ensures)
