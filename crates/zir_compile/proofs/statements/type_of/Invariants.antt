use Rattle.std.proofs.Common.{◌≡◌, map, take}
use Rattle.zir_tree.specs.declared.types.Dimension.{Dimension}
use Rattle.zir_compile.proofs.statements.type_of.Given as goal

abbrev pub invariant-loop-dimension : goal.invariant-loop-dimension
invariant-loop-dimension l = l.lengths ≡ map (λ (d : Dimension). d.length) (take l.dimension-index l.dimension-items)
