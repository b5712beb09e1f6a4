use Rattle.std.proofs.Common.{◌≡◌, map, take}
use Rattle.zir_tree.specs.declared.types.Field.{Field}
use Rattle.zir_meaning.specs.Values.{type_of}
use Rattle.zir_compile.proofs.functions.types_of.Given as goal

abbrev pub invariant-loop-p : goal.invariant-loop-p
invariant-loop-p l = l.made ≡ map (λ (p : Field). type_of p.ty) (take l.p-index l.params)
