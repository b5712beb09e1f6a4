use Rattle.std.proofs.Common.{◌∙◌, ap, arith}
use Rattle.std.proofs.lemmas.List.{with_items_is}
use Rattle.zir_names.specs.Numbers.{kept}
use Rattle.zir_sharing.specs.Members.{members}
use Rattle.zir_sharing.proofs.Held.{after_keep}
use Rattle.zir_sharing.proofs.number_set.NumberSet.keep.Goals as goal

pub returns : goal.returns
returns c =
    ap members (with_items_is c.self.inside.words c.keep.new.words (omega (arith, c.keep.auto.words, c.deref_mut.ensures.len)))
    ∙ after_keep c.self.inside.words.items c.others.inside.words.items c.keep.new.words (rw (c.deref_mut.ensures.value, c.deref.ensures.value) at c.keep.ensures)
    ∙ ap (λ v. kept v (members c.self.inside.words.items)) c.others.view_is ∙ ap (kept c.args.others.now) c.self.view_is
