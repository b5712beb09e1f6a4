use Rattle.std.proofs.Common.{◌∙◌, ap, sym}
use Rattle.zir_types.specs.Measures.{in_link, links}
use Rattle.zir_limits.specs.Notes.{noted}
use Rattle.zir_limits.proofs.Noted.{noted-none}
use Rattle.zir_limits_walks.proofs.Steps.{splits_capped}
use Rattle.zir_limits_walks.proofs.component.note_link.Goals as goal

pub returns-in-Serial : goal.returns-in-Serial
returns-in-Serial c = sym (noted-none c.args.notes.now) ∙ ap (λ l. noted (in_link l (links c.args.left.now) c.args.at) c.args.notes.now) (sym c.in-Serial.is)

pub returns-in-Parallel : goal.returns-in-Parallel
returns-in-Parallel c =
    c.splits.ensures ∙ splits_capped c.args.notes.now _ _ c.args.at c.links.ensures
    ∙ ap (λ l. noted (in_link l (links c.args.left.now) c.args.at) c.args.notes.now) (sym c.in-Parallel.is)
