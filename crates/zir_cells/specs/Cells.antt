-- The cells that a value stands in.
use Rattle.std.specs.Prelude.{ℤ, pos, Bool, true, false, List, [], ◌∷◌, ◌++◌}
use Rattle.zir_tree.specs.declared.value.Val.{Val, Unit as UnitVal, Bit as BitVal, Bool as BoolVal, Num, Pair, List' as ListVal', Row_of-Val, end_of-Val, more_of-Val}

-- a truth value as a cell
abbrev pub cell_of : Bool → ℤ
cell_of true = pos 1
cell_of false = pos 0

-- the cells of a value: none of unit, the real part before the imaginary part, and those of all parts one after the other
abbrev mutual
  pub cells_of : Val → List ℤ
  cells_of UnitVal = []
  cells_of (BitVal b) = cell_of b ∷ []
  cells_of (BoolVal b) = cell_of b ∷ []
  cells_of (Num n) = n ∷ []
  cells_of (Pair re im) = re ∷ im ∷ []
  cells_of (ListVal' _ parts) = row_cells parts

  -- the cells of the parts of a value, one after the other
  pub row_cells : {n : _} → Row_of-Val n → List ℤ
  row_cells end_of-Val = []
  row_cells (more_of-Val v parts) = cells_of v ++ row_cells parts
