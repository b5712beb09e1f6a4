use Rattle.std.proofs.Common.{◌≡◌, take}
use Rattle.zir_compile.proofs.structs.copy_structs.Given as goal

abbrev pub invariant-loop-definition : goal.invariant-loop-definition
invariant-loop-definition l = l.definitions ≡ take l.definition-index l.structs
