use Rattle.std.proofs.Common.{◌∙◌, ap, sym}
use Rattle.zir_sharing.specs.Marks.{stand_of, mark_in}
use Rattle.zir_sharing.proofs.Tables.{mark_at, marked_last}
use Rattle.zir_sharing.proofs.splits.Marks.find.Goals as goal

pub returns-in-None : goal.returns-in-None
returns-in-None c =
    sym (ap (λ ms. mark_in ms c.args.id (stand_of c.args.stand)) (sym c.self.view_is)
    ∙ mark_at c.self.inside.index c.self.inside.marks.items c.args.id (stand_of c.args.stand)
    ∙ ap (marked_last c.self.inside.marks.items (stand_of c.args.stand)) (sym c.in-None.ensures))

pub returns-in-Some : goal.returns-in-Some
returns-in-Some c =
    rw c.deref.ensures.value at c.mark_at.ensures
    ∙ sym (ap (λ ms. mark_in ms c.args.id (stand_of c.args.stand)) (sym c.self.view_is)
    ∙ mark_at c.self.inside.index c.self.inside.marks.items c.args.id (stand_of c.args.stand)
    ∙ ap (marked_last c.self.inside.marks.items (stand_of c.args.stand)) (sym c.in-Some.ensures))
