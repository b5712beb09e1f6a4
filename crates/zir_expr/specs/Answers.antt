-- What operators answer in cells.
use Rattle.std.specs.Prelude.{ℕ, ℤ, pos, negsuc, List, [], ◌∷◌, Option, Some, None, Result, Ok, Err, Bool, not, nat_lt, if◌then◌else◌}
use Rattle.std.specs.Ordering.{int_eq}
use Rattle.zir_tree.specs.declared.types.Base.{Base}
use Rattle.zir_tree.specs.declared.types.Base.TheVariants.{Int8, Int16, Int32, Int64}
use Rattle.zir_tree.specs.declared.expr.Operator.{Operator}
use Rattle.zir_tree.specs.declared.expr.Operator.TheVariants.{BitOr, BitXor, BitAnd, Equal as SameAs, NotEqual as OtherThan}
use Rattle.zir_meaning.specs.Operators.{Computed, Gives, Fails}
use Rattle.zir_cells.specs.Cells.{cells_of}
use Rattle.zir_expr.specs.declared.truth.Bitwise.{Bitwise}
use Rattle.zir_expr.specs.declared.truth.Bitwise.TheVariants.{Or, Xor, And, Equal, NotEqual}
use Rattle.zir_expr.specs.declared.whole.Whole.{Whole}
use Rattle.zir_expr.specs.declared.whole.Whole.TheVariants.{Eight, Sixteen, ThirtyTwo, SixtyFour}

-- the whole type of this width
abbrev pub base_of : Whole → Base
base_of Eight = Int8
base_of Sixteen = Int16
base_of ThirtyTwo = Int32
base_of SixtyFour = Int64

-- the first of these cells, and 0 where there is none
abbrev pub first_cell : List ℤ → ℤ
first_cell [] = pos 0
first_cell (n ∷ ns) = n

-- the cell of what was computed, or the number of its trap
abbrev pub cell_or_trap : Computed → Result ℤ ℕ
cell_or_trap (Gives v) = Ok (first_cell (cells_of v))
cell_or_trap (Fails code) = Err code

-- the amount of a shift, where it is inside a width
abbrev pub amount_in : ℕ → ℤ → Option ℕ
amount_in width (pos k) = if nat_lt k width then Some k else None
amount_in width (negsuc k) = None

-- whether a cell stands for 1 or true
abbrev pub is_set : ℤ → Bool
is_set n = not (int_eq n (pos 0))

-- the operator of the language that takes two bits
abbrev pub operator_of : Bitwise → Operator
operator_of Or = BitOr
operator_of Xor = BitXor
operator_of And = BitAnd
operator_of Equal = SameAs
operator_of NotEqual = OtherThan
