use Rattle.std.proofs.Common.{◌≡◌, ◌++◌, drop}
use Rattle.zir_types.specs.Programs.{defs_of}
use Rattle.zir_type_prog.proofs.program.defs_of.Given as goal

-- those so far, and those that the rest gives
abbrev pub invariant-loop-shape : goal.invariant-loop-shape
invariant-loop-shape l = defs_of l.shapes ≡ l.defs ++ defs_of (drop l.shape-index l.shapes)
