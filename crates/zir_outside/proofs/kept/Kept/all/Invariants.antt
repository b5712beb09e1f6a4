-- The texts that were taken so far have their memory.
use Rattle.std.proofs.Common.{◌≡◌, map}
use Rattle.zir_outside.specs.Texts.{entry_with}
use Rattle.zir_outside.specs.Memory.{entry}
use Rattle.zir_outside.proofs.kept.Kept.all.Given as goal

abbrev pub invariant-loop-name : goal.invariant-loop-name
invariant-loop-name l = map entry l.all.items ≡ map (entry_with l.spare) l.yielded
