use Rattle.std.proofs.Common.{◌≡◌, drop}
use Rattle.zir_types.specs.Programs.{declarations, none_declared}
use Rattle.zir_type_prog.specs.Declarations.{declared_in}
use Rattle.zir_type_prog.proofs.program.type_declarations.Given as goal

-- what all declare, those from here on declare behind the others
abbrev pub invariant-loop-x : goal.invariant-loop-x
invariant-loop-x l = declarations none_declared l.xs ≡ declarations (declared_in l.d) (drop l.x-index l.xs)
