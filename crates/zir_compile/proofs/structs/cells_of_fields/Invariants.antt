use Rattle.std.proofs.Common.{◌≡◌, take, sum_by}
use Rattle.zir_cells.specs.Layout.{capped, cells_in}
use Rattle.zir_compile.proofs.structs.cells_of_fields.Given as goal

abbrev pub invariant-loop-field : goal.invariant-loop-field
invariant-loop-field l = l.total ≡ capped (sum_by (λ field. cells_in l.layouts field.ty) (take l.field-index l.fields))
