use Rattle.std.proofs.Common.{◌∙◌, ap, arith}
use Rattle.std.proofs.lemmas.List.{with_items_is}
use Rattle.zir_names.specs.Numbers.{union}
use Rattle.zir_sharing.specs.Members.{members}
use Rattle.zir_sharing.proofs.Held.{after_join}
use Rattle.zir_sharing.proofs.number_set.NumberSet.join.Goals as goal

pub returns : goal.returns
returns c =
    ap members (with_items_is c.widen.new.words c.join.new.words (omega (arith, c.join.auto.words, c.deref_mut.ensures.len)))
    ∙ after_join c.self.inside.words.items c.widen.new.words.items c.others.inside.words.items c.join.new.words c.widen.ensures.same
    (rw (c.deref_mut.ensures.value, c.deref.ensures.value) at c.join.ensures)
    ∙ ap (λ v. union v (members c.self.inside.words.items)) c.others.view_is ∙ ap (union c.args.others.now) c.self.view_is
