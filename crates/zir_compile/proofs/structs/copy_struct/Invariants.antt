use Rattle.std.proofs.Common.{◌≡◌, take}
use Rattle.zir_compile.proofs.structs.copy_struct.Given as goal

abbrev pub invariant-loop-field : goal.invariant-loop-field
invariant-loop-field l = l.fields ≡ take l.field-index l.field-items
