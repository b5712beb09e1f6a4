use Rattle.std.proofs.Common.{◌≡◌, ◌++◌, drop}
use Rattle.zir_types.specs.Programs.{field_defs}
use Rattle.zir_type_prog.proofs.program.field_defs.Given as goal

-- those so far, and those that the rest gives
abbrev pub invariant-loop-field : goal.invariant-loop-field
invariant-loop-field l = field_defs l.fields l.types ≡ l.defs ++ field_defs (drop l.field-index l.fields) l.left
