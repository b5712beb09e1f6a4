use Rattle.std.proofs.Common.{◌∙◌, ◌+◌, ap, List, drop}
use Rattle.zir_tree.specs.declared.types.Field.{Field}
use Rattle.zir_types.specs.Measures.{spans}
use Rattle.zir_types.specs.Limits.{in_struct_fields}
use Rattle.zir_limits.specs.Notes.{noted}
use Rattle.zir_limits.proofs.Noted.{noted_next}
use Rattle.zir_limits.proofs.Rows.{at_place}
use Rattle.zir_limits_walks.proofs.structs.note_lengths.Goals as goal

pub loop-field-preserved : goal.loop-field-preserved
loop-field-preserved c =
    let xs : List Field = c.args.fields.now in
    let i = c.loop-field.field-index in
    c.loop-field.invariant
    ∙ ap (λ l. noted (in_struct_fields l) c.loop-field.notes) (at_place xs i c.field-item.result c.loop-field-test.true c.field-item.is)
    ∙ noted_next (spans c.field-item.result.ty.dimensions) (in_struct_fields (drop (i + 1) xs)) c.loop-field.notes c.dimensions.new.self
    (c.dimensions.ensures ∙ ap (λ ds. noted (spans ds) c.loop-field.notes) c.as_slice.ensures)
