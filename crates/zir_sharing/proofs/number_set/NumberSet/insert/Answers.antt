use Rattle.std.proofs.Common.{◌∙◌, ap, arith}
use Rattle.std.proofs.lemmas.List.{with_items_is}
use Rattle.zir_names.specs.Numbers.{add}
use Rattle.zir_sharing.specs.Members.{members}
use Rattle.zir_sharing.proofs.Held.{after_put}
use Rattle.zir_sharing.proofs.number_set.NumberSet.insert.Goals as goal

pub returns : goal.returns
returns c =
    ap members (with_items_is c.widen.new.words c.put.new.words (omega (arith, c.put.auto.words, c.deref_mut.ensures.len)))
    ∙ after_put c.self.inside.words.items c.widen.new.words.items c.put.new.words c.args.n c.widen.ensures.same (rw c.deref_mut.ensures.value at c.put.ensures)
    ∙ ap (add c.args.n) c.self.view_is
