use Rattle.std.proofs.Common.{◌∙◌, ap}
use Rattle.zir_names.specs.Numbers.{least}
use Rattle.zir_sharing.proofs.Held.{first_least}
use Rattle.zir_sharing.proofs.number_set.NumberSet.first.Goals as goal

pub returns : goal.returns
returns c = first_least c.self.inside.words.items c.first.result (rw c.deref.ensures.value at c.first.ensures) ∙ ap least c.self.view_is
