-- What the memory of a run is to contracts.
use Rattle.std.specs.Prelude.{ℕ, ℤ, List}
use Rattle.zir_tree.specs.declared.ends.Trap.{Trap}

-- cells, the ticks that are used and that there are, and the last trap
pub record Memory : Type 0 where
  pub cells : List ℤ
  pub used : ℕ
  pub limit : ℕ
  pub trap : Trap
