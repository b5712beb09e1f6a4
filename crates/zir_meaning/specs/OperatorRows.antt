-- Worked rows that compute: operators and conversions.
use Rattle.std.specs.Prelude.{pos, negsuc, true, false, [], ◌∷◌, ◌≡◌, refl}
use Rattle.std.specs.Int.{int_wrap}
use denote.Hole.Carrier.{hidden}
use Rattle.zir_tree.specs.declared.value.Val.{Bit as BitVal, Bool as BoolVal, Num, Pair, List as Vals}
use Rattle.zir_tree.specs.declared.value.Val.TheBlock.{shape-the_row-Val-0, hidden-the_row-Val-0}
use Rattle.zir_tree.specs.declared.types.Base.TheVariants.{Bit as BitTy, Bool as BoolTy, Int8, Int16, Int32, Int64, Complex16, Complex32}
use Rattle.zir_tree.specs.declared.expr.Prefix.TheVariants.{Minus, Complement, Not}
use Rattle.zir_tree.specs.declared.expr.Operator.TheVariants.{BitOr, BitXor, BitAnd, Equal, NotEqual, Less, LessEqual, Greater, GreaterEqual, ShiftLeft, ShiftRight, Add, Subtract, Multiply, Divide, Remainder}
use Rattle.zir_meaning.specs.Operators.{Gives, Fails, computed, prefixed, converted, part_of, with_part}

-- sums and differences wrap
pub add_row : computed Add Int8 (Num (pos 127)) (Num (pos 1)) ≡ Gives (Num (negsuc 127))
unfolding int_wrap
add_row = refl

pub add_int16_row : computed Add Int16 (Num (pos 32767)) (Num (pos 1)) ≡ Gives (Num (negsuc 32767))
unfolding int_wrap
add_int16_row = refl

pub add_int32_row : computed Add Int32 (Num (pos 2147483647)) (Num (pos 1)) ≡ Gives (Num (negsuc 2147483647))
unfolding int_wrap
add_int32_row = refl

pub add_int64_row : computed Add Int64 (Num (pos 9223372036854775807)) (Num (pos 1)) ≡ Gives (Num (negsuc 9223372036854775807))
unfolding int_wrap
add_int64_row = refl

pub add_complex_row : computed Add Complex16 (Pair (pos 32767) (pos 3)) (Pair (pos 2) (negsuc 4)) ≡ Gives (Pair (negsuc 32766) (negsuc 1))
unfolding int_wrap
add_complex_row = refl

pub subtract_row : computed Subtract Int8 (Num (negsuc 127)) (Num (pos 1)) ≡ Gives (Num (pos 127))
unfolding int_wrap
subtract_row = refl

pub subtract_complex_row : computed Subtract Complex32 (Pair (pos 1) (pos 2)) (Pair (pos 3) (pos 5)) ≡ Gives (Pair (negsuc 1) (negsuc 2))
unfolding int_wrap
subtract_complex_row = refl

-- products wrap, and those of complex numbers only at their end
pub multiply_row : computed Multiply Int8 (Num (pos 100)) (Num (pos 3)) ≡ Gives (Num (pos 44))
unfolding int_wrap
multiply_row = refl

pub multiply_complex_row : computed Multiply Complex16 (Pair (pos 300) (pos 200)) (Pair (pos 200) (negsuc 99)) ≡ Gives (Pair (pos 14464) (pos 10000))
unfolding int_wrap
multiply_complex_row = refl

-- quotients are cut towards zero, and remainders have the sign of the left side
pub divide_row : computed Divide Int8 (Num (negsuc 6)) (Num (pos 2)) ≡ Gives (Num (negsuc 2))
unfolding int_wrap
divide_row = refl

pub divide_by_negative_row : computed Divide Int8 (Num (pos 7)) (Num (negsuc 1)) ≡ Gives (Num (negsuc 2))
unfolding int_wrap
divide_by_negative_row = refl

pub divide_least_row : computed Divide Int8 (Num (negsuc 127)) (Num (negsuc 0)) ≡ Gives (Num (negsuc 127))
unfolding int_wrap
divide_least_row = refl

pub divide_by_zero_row : computed Divide Int8 (Num (pos 7)) (Num (pos 0)) ≡ Fails 1
divide_by_zero_row = refl

pub remainder_row : computed Remainder Int8 (Num (negsuc 6)) (Num (pos 2)) ≡ Gives (Num (negsuc 0))
unfolding int_wrap
remainder_row = refl

pub remainder_by_negative_row : computed Remainder Int8 (Num (pos 7)) (Num (negsuc 3)) ≡ Gives (Num (pos 3))
unfolding int_wrap
remainder_by_negative_row = refl

pub remainder_least_row : computed Remainder Int8 (Num (negsuc 127)) (Num (negsuc 0)) ≡ Gives (Num (pos 0))
unfolding int_wrap
remainder_least_row = refl

pub remainder_by_zero_row : computed Remainder Int64 (Num (pos 7)) (Num (pos 0)) ≡ Fails 1
remainder_by_zero_row = refl

-- bits one by one, and whole numbers bit by bit
pub or_bits_row : computed BitOr BitTy (BitVal false) (BitVal true) ≡ Gives (BitVal true)
or_bits_row = refl

pub xor_bits_row : computed BitXor BitTy (BitVal true) (BitVal true) ≡ Gives (BitVal false)
xor_bits_row = refl

pub and_bits_row : computed BitAnd BitTy (BitVal true) (BitVal false) ≡ Gives (BitVal false)
and_bits_row = refl

pub or_row : computed BitOr Int8 (Num (pos 12)) (Num (negsuc 5)) ≡ Gives (Num (negsuc 1))
or_row = refl

pub xor_row : computed BitXor Int8 (Num (pos 12)) (Num (negsuc 5)) ≡ Gives (Num (negsuc 9))
xor_row = refl

pub and_row : computed BitAnd Int8 (Num (pos 12)) (Num (negsuc 5)) ≡ Gives (Num (pos 8))
and_row = refl

-- a left shift wraps, a right shift keeps the sign, and the amount is below the width
pub shift_left_row : computed ShiftLeft Int8 (Num (pos 3)) (Num (pos 7)) ≡ Gives (Num (negsuc 127))
unfolding int_wrap
shift_left_row = refl

pub shift_left_by_width_row : computed ShiftLeft Int8 (Num (pos 3)) (Num (pos 8)) ≡ Fails 4
unfolding int_wrap
shift_left_by_width_row = refl

pub shift_right_row : computed ShiftRight Int8 (Num (negsuc 127)) (Num (pos 7)) ≡ Gives (Num (negsuc 0))
unfolding int_wrap
shift_right_row = refl

pub shift_right_floor_row : computed ShiftRight Int16 (Num (negsuc 4)) (Num (pos 1)) ≡ Gives (Num (negsuc 2))
unfolding int_wrap
shift_right_floor_row = refl

pub shift_below_zero_row : computed ShiftRight Int64 (Num (pos 1)) (Num (negsuc 0)) ≡ Fails 4
shift_below_zero_row = refl

pub shift_63_row : computed ShiftLeft Int64 (Num (pos 1)) (Num (pos 63)) ≡ Gives (Num (negsuc 9223372036854775807))
unfolding int_wrap
shift_63_row = refl

pub shift_31_row : computed ShiftLeft Int32 (Num (pos 1)) (Num (pos 32)) ≡ Fails 4
unfolding int_wrap
shift_31_row = refl

-- comparisons
pub equal_bits_row : computed Equal BitTy (BitVal true) (BitVal false) ≡ Gives (BoolVal false)
equal_bits_row = refl

pub equal_truths_row : computed Equal BoolTy (BoolVal false) (BoolVal false) ≡ Gives (BoolVal true)
equal_truths_row = refl

pub equal_row : computed Equal Int32 (Num (pos 5)) (Num (negsuc 4)) ≡ Gives (BoolVal false)
equal_row = refl

pub equal_complex_row : computed Equal Complex16 (Pair (pos 1) (pos 2)) (Pair (pos 1) (pos 3)) ≡ Gives (BoolVal false)
equal_complex_row = refl

pub equal_real_parts_row : computed Equal Complex16 (Pair (pos 2) (pos 3)) (Pair (pos 1) (pos 3)) ≡ Gives (BoolVal false)
equal_real_parts_row = refl

pub not_equal_row : computed NotEqual Int8 (Num (pos 5)) (Num (pos 5)) ≡ Gives (BoolVal false)
not_equal_row = refl

pub less_row : computed Less Int8 (Num (negsuc 0)) (Num (pos 0)) ≡ Gives (BoolVal true)
less_row = refl

pub less_same_row : computed Less Int8 (Num (pos 1)) (Num (pos 1)) ≡ Gives (BoolVal false)
less_same_row = refl

pub less_equal_row : computed LessEqual Int8 (Num (pos 1)) (Num (pos 1)) ≡ Gives (BoolVal true)
less_equal_row = refl

pub greater_row : computed Greater Int8 (Num (negsuc 0)) (Num (pos 0)) ≡ Gives (BoolVal false)
greater_row = refl

pub greater_same_row : computed Greater Int8 (Num (pos 2)) (Num (pos 2)) ≡ Gives (BoolVal false)
greater_same_row = refl

pub greater_equal_row : computed GreaterEqual Int8 (Num (pos 2)) (Num (pos 2)) ≡ Gives (BoolVal true)
greater_equal_row = refl

pub greater_equal_less_row : computed GreaterEqual Int8 (Num (pos 1)) (Num (pos 2)) ≡ Gives (BoolVal false)
greater_equal_less_row = refl

-- prefixes
pub minus_least_row : prefixed Minus Int8 (Num (negsuc 127)) ≡ Num (negsuc 127)
unfolding int_wrap
minus_least_row = refl

pub minus_complex_row : prefixed Minus Complex16 (Pair (negsuc 32767) (pos 1)) ≡ Pair (negsuc 32767) (negsuc 0)
unfolding int_wrap
minus_complex_row = refl

pub complement_row : prefixed Complement Int8 (Num (pos 5)) ≡ Num (negsuc 5)
complement_row = refl

pub complement_bit_row : prefixed Complement BitTy (BitVal true) ≡ BitVal false
complement_bit_row = refl

pub not_row : prefixed Not BoolTy (BoolVal false) ≡ BoolVal true
not_row = refl

-- conversions
pub to_narrow_row : converted Int8 (Num (pos 300)) ≡ Num (pos 44)
unfolding int_wrap
to_narrow_row = refl

pub from_bit_row : converted Int64 (BitVal true) ≡ Num (pos 1)
from_bit_row = refl

pub to_bit_row : converted BitTy (Num (negsuc 2)) ≡ BitVal true
to_bit_row = refl

pub to_bit_even_row : converted BitTy (Num (pos 6)) ≡ BitVal false
to_bit_even_row = refl

pub to_complex_row : converted Complex16 (Pair (pos 40000) (pos 1)) ≡ Pair (negsuc 25535) (pos 1)
unfolding int_wrap
to_complex_row = refl

-- parts
pub real_row : part_of 0 (Pair (pos 3) (pos 4)) ≡ Num (pos 3)
real_row = refl

pub imaginary_row : part_of 1 (Pair (pos 3) (pos 4)) ≡ Num (pos 4)
imaginary_row = refl

pub with_real_row : with_part 0 (Num (pos 9)) (Pair (pos 3) (pos 4)) ≡ Pair (pos 9) (pos 4)
with_real_row = refl

pub field_row : part_of 1 (Vals (Num (pos 3) ∷ BitVal true ∷ [])) ≡ BitVal true
unfolding shape-the_row-Val-0 hidden-the_row-Val-0 hidden
field_row = refl
