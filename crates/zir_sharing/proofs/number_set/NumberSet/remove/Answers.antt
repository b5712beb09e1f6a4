use Rattle.std.proofs.Common.{◌∙◌, ap, arith}
use Rattle.std.proofs.lemmas.List.{with_items_is}
use Rattle.zir_names.specs.Numbers.{without}
use Rattle.zir_sharing.specs.Members.{members}
use Rattle.zir_sharing.proofs.Held.{after_remove}
use Rattle.zir_sharing.proofs.number_set.NumberSet.remove.Goals as goal

pub returns : goal.returns
returns c =
    ap members (with_items_is c.self.inside.words c.remove.new.words (omega (arith, c.remove.auto.words, c.deref_mut.ensures.len)))
    ∙ after_remove c.self.inside.words.items c.others.inside.words.items c.remove.new.words (rw (c.deref_mut.ensures.value, c.deref.ensures.value) at c.remove.ensures)
    ∙ ap (λ v. without v (members c.self.inside.words.items)) c.others.view_is ∙ ap (without c.args.others.now) c.self.view_is
