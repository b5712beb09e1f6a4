use Rattle.std.proofs.Common.{◌∙◌, ◌+◌, ap, List, drop}
use Rattle.zir_tree.specs.declared.types.Field.{Field}
use Rattle.zir_types.specs.Scope.{Visible}
use Rattle.zir_types.specs.Measures.{in_type}
use Rattle.zir_types.specs.Limits.{in_fields}
use Rattle.zir_limits.specs.Facts.{told, sight}
use Rattle.zir_limits.specs.Notes.{noted}
use Rattle.zir_limits.proofs.Noted.{noted_next}
use Rattle.zir_limits.proofs.Rows.{at_place}
use Rattle.zir_limits_walks.proofs.bodies.note_fields.Goals as goal

pub loop-field-preserved : goal.loop-field-preserved
loop-field-preserved c = λ vs.
    let g : Visible = sight (told c.args.facts.now) vs in
    let xs : List Field = c.args.fields.now in
    let i = c.loop-field.field-index in
    c.loop-field.invariant vs
    ∙ ap (λ l. noted (in_fields g l) c.loop-field.notes) (at_place xs i c.field-item.result c.loop-field-test.true c.field-item.is)
    ∙ noted_next (in_type g c.field-item.result.ty) (in_fields g (drop (i + 1) xs)) c.loop-field.notes c.note_type.new.notes c.note_type.ensures
