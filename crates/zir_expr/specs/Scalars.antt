-- What prefixes, conversions and operators make of cells.
use Rattle.std.specs.Prelude.{ℕ, ℤ, ◌+ℤ◌, ◌-ℤ◌, Result}
use Rattle.zir_tree.specs.declared.value.Val.{Val, Num, Pair, Bit as BitVal}
use Rattle.zir_tree.specs.declared.types.Base.TheVariants.{Bit as BitTy}
use Rattle.zir_meaning.specs.Values.{real_of, imaginary_of}
use Rattle.zir_meaning.specs.Operators.{computed, added, multiplied, negated, complemented, to_whole, to_bit, to_complex}
use Rattle.zir_cells.specs.Cells.{cells_of}
use Rattle.zir_expr.specs.declared.scalar.Change.{Change}
use Rattle.zir_expr.specs.declared.scalar.Change.TheVariants.{Negate, Complement, Not, Wrap, LowestBit}
use Rattle.zir_expr.specs.declared.scalar.Operation.{Operation}
use Rattle.zir_expr.specs.declared.scalar.Operation.TheVariants.{Whole, Truth}
use Rattle.zir_expr.specs.declared.complex.Parts.{Parts}
use Rattle.zir_expr.specs.declared.complex.ComplexOperation.{ComplexOperation}
use Rattle.zir_expr.specs.declared.complex.ComplexOperation.TheVariants.{Add, Subtract, Multiply, Negate as NegateBoth, Convert}
use Rattle.zir_expr.specs.Answers.{base_of, first_cell, cell_or_trap, is_set, operator_of}

-- a prefix or a conversion at a cell
abbrev pub changed : Change → ℤ → ℤ
changed (Negate t) n = first_cell (cells_of (negated (base_of t) (Num n)))
changed Complement n = first_cell (cells_of (complemented (Num n)))
changed Not n = first_cell (cells_of (complemented (BitVal (is_set n))))
changed (Wrap t) n = first_cell (cells_of (to_whole (base_of t) (Num n)))
changed LowestBit n = first_cell (cells_of (to_bit (Num n)))

-- an operator at two cells: a cell, or the number of a trap
abbrev pub operated : Operation → ℤ → ℤ → Result ℤ ℕ
operated (Whole o t) a b = cell_or_trap (computed o (base_of t) (Num a) (Num b))
operated (Truth o) a b = cell_or_trap (computed (operator_of o) BitTy (BitVal (is_set a)) (BitVal (is_set b)))

-- a complex number in two cells
abbrev pub parts_of : Val → Parts
parts_of v = record { real = real_of v; imaginary = imaginary_of v }

-- the complex number that two cells stand for
abbrev pub pair_of : Parts → Val
pair_of p = Pair p.real p.imaginary

-- an operator at complex numbers
abbrev pub complex_operated : ComplexOperation → Parts → Parts → Parts
complex_operated (Add t) a b = parts_of (added (λ m n. m +ℤ n) (base_of t) (pair_of a) (pair_of b))
complex_operated (Subtract t) a b = parts_of (added (λ m n. m -ℤ n) (base_of t) (pair_of a) (pair_of b))
complex_operated (Multiply t) a b = parts_of (multiplied (base_of t) (pair_of a) (pair_of b))
complex_operated (NegateBoth t) a b = parts_of (negated (base_of t) (pair_of a))
complex_operated (Convert t) a b = parts_of (to_complex (base_of t) (pair_of a))
