use Rattle.std.proofs.Common.{◌∷◌, [], true, None, List, Option, length, ap, sym, subst, ◌∙◌}
use Rattle.std.specs.Prelude.{if◌then◌else◌}
use Rattle.zir_meaning.specs.Items.{Item}
use Rattle.zir_samples.specs.Reading.{front_of, items_of, Reads}
use Rattle.zir_samples.proofs.Items.{reads-blank, reads-last, reads-open}
use Rattle.zir_samples.proofs.text.last_item.Goals as goal

pub returns-then-all_blank : goal.returns-then-all_blank
returns-then-all_blank c = reads-blank c.args.base c.args.ended c.args.bytes.now c.requires.short c.requires.uncut (sym c.all_blank.ensures ∙ c.if-all_blank.true)

pub returns-then-ended : goal.returns-then-ended
returns-then-ended c =
    let base = c.args.base in
    let bytes = c.args.bytes.now in
    let read = reads-last base bytes c.requires.short c.requires.uncut (sym c.all_blank.ensures ∙ c.if-all_blank.false) in
    subst (λ ended. Reads base ended bytes c.item.result) (sym c.if-ended.true)
    (subst (Reads base true bytes) (sym (c.item.ensures ∙ ap (λ n. front_of n (length bytes)) c.number_in.ensures)) read)

pub returns-then-may_go_on : goal.returns-then-may_go_on
returns-then-may_go_on c =
    let none : List (Option Item) = None ∷ [] in
    ap (λ ended. items_of c.args.base ended c.args.bytes.now) c.if-ended.false
    ∙ reads-open c.args.base c.args.bytes.now c.may_go_on.result c.requires.uncut c.may_go_on.ensures
    ∙ ap (λ t. if t then [] else none) c.if-may_go_on.true

pub returns-else-may_go_on : goal.returns-else-may_go_on
returns-else-may_go_on c =
    let none : List (Option Item) = None ∷ [] in (
      [],
      ap (λ ended. items_of c.args.base ended c.args.bytes.now) c.if-ended.false
          ∙ reads-open c.args.base c.args.bytes.now c.may_go_on.result c.requires.uncut c.may_go_on.ensures
          ∙ ap (λ t. if t then [] else none) c.if-may_go_on.false,
    )
