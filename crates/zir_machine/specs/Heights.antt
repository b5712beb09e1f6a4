-- How large a component is, which bounds the way down to its parts.
use Rattle.std.specs.Prelude.{ℕ, suc, ◌+◌, List, [], ◌∷◌}
use Rattle.zir_bit_tree.specs.declared.tree.Comp.{Comp, Take, Emit, Return, Block', Repeat', Pipe', end_of-Comp, more_of-Comp, Row_of-Member, end_of-Member, more_of-Member}
use Rattle.zir_bit_tree.specs.declared.tree.Member.{Member}

abbrev mutual
  pub height : Comp → ℕ
  height (Take p) = 0
  height (Emit e p) = 0
  height (Return e p) = 0
  height (Block' _ ms p) = suc (row_height ms)
  height (Repeat' _ (more_of-Comp c end_of-Comp) p) = suc (height c)
  height (Pipe' _ (more_of-Comp a end_of-Comp) _ (more_of-Comp b end_of-Comp) p) = suc (height a + height b)

  pub row_height : {m : _} → Row_of-Member m → ℕ
  row_height end_of-Member = 0
  row_height (more_of-Member name c ms) = height c + row_height ms

-- the members of a block together
abbrev pub heights : List Member → ℕ
heights [] = 0
heights (m ∷ ms) = height m.what + heights ms
