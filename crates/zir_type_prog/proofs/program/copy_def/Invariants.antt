use Rattle.std.proofs.Common.{◌≡◌, take}
use Rattle.zir_type_prog.proofs.program.copy_def.Given as goal

abbrev pub invariant-loop-field : goal.invariant-loop-field
invariant-loop-field l = l.fields ≡ take l.field-index l.field-items
