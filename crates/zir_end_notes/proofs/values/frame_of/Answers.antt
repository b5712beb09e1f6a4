use Rattle.std.proofs.Common.{◌≡◌, ◌∷◌, rules, sym, ap, ◌∙◌}
use Rattle.zir_tree.specs.declared.value.Val.{List as ListVal}
use Rattle.zir_meaning.specs.Notes.{value_text}
use Rattle.zir_end_notes.proofs.values.frame_of.Goals as goal

pub returns-in-Some : goal.returns-in-Some
returns-in-Some c =
    let lengths : c.args.kind.lengths.now ≡ c.in-Some.field-0-0.now ∷ c.in-Some.inner.now = search rules in
    λ vs. c.array_frame.ensures c.args.structs.now c.in-Some.field-0-0.now vs ∙ ap (λ l. value_text c.args.structs.now l c.args.kind.base (ListVal vs)) (sym lengths)
