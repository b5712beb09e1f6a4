use Rattle.std.proofs.Common.{◌≡◌, take}
use Rattle.zir_type_components.proofs.instances.copy_fields.Given as goal

abbrev pub invariant-loop-field : goal.invariant-loop-field
invariant-loop-field l = l.copies ≡ take l.field-index l.fields
