-- What operators and conversions compute.
use Rattle.std.specs.Prelude.{ℕ, zero, suc, ◌^◌, ℤ, pos, negsuc, neg_ℤ, ◌+ℤ◌, ◌-ℤ◌, ◌*ℤ◌, Bool, true, false, not, ◌&&◌, nat_lt, int_lt, int_le, int_div, int_rem, bit_and, bit_or, bit_xor, slice_index_or, slice_set}
use Rattle.std.specs.Int.{cast_signed, cast_unsigned, int_div_euclid, int_rem_euclid}
use Rattle.std.specs.Ordering.{int_eq}
use mathlib.Core.Bool.{beq}
use mir.Syntax.{w64}
use Rattle.zir_tree.specs.declared.value.Val.{Val, Unit as UnitVal, Bit as BitVal, Bool as BoolVal, Num, Pair, List as Vals, List' as Vals'}
use Rattle.zir_tree.specs.declared.types.Base.{Base}
use Rattle.zir_tree.specs.declared.types.Base.TheVariants.{Unit as UnitTy, Bit as BitTy, Bool as BoolTy, Int8, Int16, Int32, Int64, Complex16, Complex32, Struct as StructTy}
use Rattle.zir_tree.specs.declared.expr.Operator.{Operator}
use Rattle.zir_tree.specs.declared.expr.Operator.TheVariants.{Or, And, BitOr, BitXor, BitAnd, Equal, NotEqual, Less, LessEqual, Greater, GreaterEqual, ShiftLeft, ShiftRight, Add, Subtract, Multiply, Divide, Remainder}
use Rattle.zir_tree.specs.declared.expr.Prefix.{Prefix}
use Rattle.zir_tree.specs.declared.expr.Prefix.TheVariants.{Minus, Complement, Not}
use Rattle.zir_meaning.specs.Values.{is_one, num_of, real_of, imaginary_of, wrap, width_of, row_values}

-- a value, or the number of a trap
pub data Computed : Type 0 where
  Gives : (v : Val) → Computed
  Fails : (code : ℕ) → Computed

-- two numbers bit by bit, as 64 bits in two's complement; a narrower number has copies of its sign in front
abbrev pub bitwise : (ℕ → ℕ → ℕ) → ℤ → ℤ → ℤ
bitwise f a b = cast_signed w64 (f (cast_unsigned w64 a) (cast_unsigned w64 b))

-- a bit operator on bits or on whole numbers
abbrev pub bits_of_both : (Bool → Bool → Bool) → (ℕ → ℕ → ℕ) → Val → Val → Val
bits_of_both on_bits on_numbers (BitVal a) w = BitVal (on_bits a (is_one w))
bits_of_both on_bits on_numbers UnitVal w = UnitVal
bits_of_both on_bits on_numbers (BoolVal a) w = UnitVal
bits_of_both on_bits on_numbers (Num a) w = Num (bitwise on_numbers a (num_of w))
bits_of_both on_bits on_numbers (Pair a b) w = UnitVal
bits_of_both on_bits on_numbers (Vals' _ row) w = UnitVal

-- either bit is 1
abbrev pub or_bit : Bool → Bool → Bool
or_bit true b = true
or_bit false b = b

-- the bits differ
abbrev pub xor_bit : Bool → Bool → Bool
xor_bit a b = not (beq a b)

-- two whole numbers, or two complex numbers part by part, wrapped to their type
abbrev pub added : (ℤ → ℤ → ℤ) → Base → Val → Val → Val
added f t (Pair a b) w = Pair (wrap t (f a (real_of w))) (wrap t (f b (imaginary_of w)))
added f t UnitVal w = UnitVal
added f t (BitVal a) w = UnitVal
added f t (BoolVal a) w = UnitVal
added f t (Num a) w = Num (wrap t (f a (num_of w)))
added f t (Vals' _ row) w = UnitVal

-- the product of whole numbers, or (a + bi)(c + di) = (ac - bd) + (ad + bc)i, wrapped to their type
abbrev pub multiplied : Base → Val → Val → Val
multiplied t (Pair a b) w =
    Pair (wrap t (a *ℤ real_of w -ℤ b *ℤ imaginary_of w)) (wrap t (a *ℤ imaginary_of w +ℤ b *ℤ real_of w))
multiplied t UnitVal w = UnitVal
multiplied t (BitVal a) w = UnitVal
multiplied t (BoolVal a) w = UnitVal
multiplied t (Num a) w = Num (wrap t (a *ℤ num_of w))
multiplied t (Vals' _ row) w = UnitVal

-- two bits, two truth values, two numbers or two complex numbers are the same
abbrev pub same : Val → Val → Bool
same UnitVal w = true
same (BitVal a) w = beq a (is_one w)
same (BoolVal a) w = beq a (is_one w)
same (Num a) w = int_eq a (num_of w)
same (Pair a b) w = int_eq a (real_of w) && int_eq b (imaginary_of w)
same (Vals' _ row) w = true

-- a quotient or remainder, cut towards zero and wrapped, and trap 1 where the right side is 0
abbrev pub divided : (ℤ → ℤ → ℤ) → Base → ℤ → ℤ → Computed
divided f t a (pos zero) = Fails 1
divided f t a (pos (suc n)) = Gives (Num (wrap t (f a (pos (suc n)))))
divided f t a (negsuc n) = Gives (Num (wrap t (f a (negsuc n))))

-- a shift where its amount is below the width, and else trap 4
abbrev pub shifted_if : Bool → ℤ → Computed
shifted_if true n = Gives (Num n)
shifted_if false n = Fails 4

-- a shift by an amount that is not negative, and else trap 4
abbrev pub shifted : (ℤ → ℤ → ℤ) → Base → ℤ → ℤ → Computed
shifted f t a (pos k) = shifted_if (nat_lt k (width_of t)) (wrap t (f a (pos (2 ^ k))))
shifted f t a (negsuc k) = Fails 4

-- an operator on two values whose type is that of the left one
abbrev pub computed : Operator → Base → Val → Val → Computed
computed Or t v w = Gives (BoolVal (or_bit (is_one v) (is_one w)))
computed And t v w = Gives (BoolVal (is_one v && is_one w))
computed BitOr t v w = Gives (bits_of_both or_bit bit_or v w)
computed BitXor t v w = Gives (bits_of_both xor_bit bit_xor v w)
computed BitAnd t v w = Gives (bits_of_both (λ a b. a && b) bit_and v w)
computed Equal t v w = Gives (BoolVal (same v w))
computed NotEqual t v w = Gives (BoolVal (not (same v w)))
computed Less t v w = Gives (BoolVal (int_lt (num_of v) (num_of w)))
computed LessEqual t v w = Gives (BoolVal (int_le (num_of v) (num_of w)))
computed Greater t v w = Gives (BoolVal (int_lt (num_of w) (num_of v)))
computed GreaterEqual t v w = Gives (BoolVal (int_le (num_of w) (num_of v)))
computed ShiftLeft t v w = shifted (λ a b. a *ℤ b) t (num_of v) (num_of w)
computed ShiftRight t v w = shifted int_div_euclid t (num_of v) (num_of w)
computed Add t v w = Gives (added (λ a b. a +ℤ b) t v w)
computed Subtract t v w = Gives (added (λ a b. a -ℤ b) t v w)
computed Multiply t v w = Gives (multiplied t v w)
computed Divide t v w = divided int_div t (num_of v) (num_of w)
computed Remainder t v w = divided int_rem t (num_of v) (num_of w)

-- a whole or complex number with its sign turned, wrapped to its type
abbrev pub negated : Base → Val → Val
negated t (Pair a b) = Pair (wrap t (neg_ℤ a)) (wrap t (neg_ℤ b))
negated t UnitVal = UnitVal
negated t (BitVal a) = UnitVal
negated t (BoolVal a) = UnitVal
negated t (Num a) = Num (wrap t (neg_ℤ a))
negated t (Vals' _ row) = UnitVal

-- a bit or a whole number with all bits turned
abbrev pub complemented : Val → Val
complemented (Pair a b) = UnitVal
complemented UnitVal = UnitVal
complemented (BitVal a) = BitVal (not a)
complemented (BoolVal a) = UnitVal
complemented (Num a) = Num (neg_ℤ a -ℤ pos 1)
complemented (Vals' _ row) = UnitVal

-- an operator before its operand
abbrev pub prefixed : Prefix → Base → Val → Val
prefixed Minus t v = negated t v
prefixed Complement t v = complemented v
prefixed Not t v = BoolVal (not (is_one v))

-- a bit as a whole number
abbrev pub number_of_bit : Bool → ℤ
number_of_bit true = pos 1
number_of_bit false = pos 0

-- a bit or a whole number as one of a whole type
abbrev pub to_whole : Base → Val → Val
to_whole t (BitVal b) = Num (number_of_bit b)
to_whole t UnitVal = UnitVal
to_whole t (BoolVal b) = UnitVal
to_whole t (Num n) = Num (wrap t n)
to_whole t (Pair a b) = UnitVal
to_whole t (Vals' _ row) = UnitVal

-- a bit, or the lowest bit of a whole number
abbrev pub to_bit : Val → Val
to_bit (BitVal b) = BitVal b
to_bit UnitVal = UnitVal
to_bit (BoolVal b) = UnitVal
to_bit (Num n) = BitVal (int_eq (int_rem_euclid n (pos 2)) (pos 1))
to_bit (Pair a b) = UnitVal
to_bit (Vals' _ row) = UnitVal

-- a complex number with its parts wrapped to a type
abbrev pub to_complex : Base → Val → Val
to_complex t v = Pair (wrap t (real_of v)) (wrap t (imaginary_of v))

-- a conversion of one value
abbrev pub converted : Base → Val → Val
converted UnitTy v = v
converted BitTy v = to_bit v
converted BoolTy v = v
converted Int8 v = to_whole Int8 v
converted Int16 v = to_whole Int16 v
converted Int32 v = to_whole Int32 v
converted Int64 v = to_whole Int64 v
converted Complex16 v = to_complex Complex16 v
converted Complex32 v = to_complex Complex32 v
converted (StructTy k) v = v

-- the real part at 0, and the imaginary part elsewhere
abbrev pub complex_part : ℕ → ℤ → ℤ → ℤ
complex_part zero a b = a
complex_part (suc k) a b = b

-- a part of a complex number or a field of a struct, by its place
abbrev pub part_of : ℕ → Val → Val
part_of k UnitVal = UnitVal
part_of k (BitVal b) = UnitVal
part_of k (BoolVal b) = UnitVal
part_of k (Num n) = UnitVal
part_of k (Pair a b) = Num (complex_part k a b)
part_of k (Vals' _ row) = slice_index_or (row_values row) k UnitVal

-- a complex number with another part
abbrev pub with_complex_part : ℕ → ℤ → ℤ → ℤ → Val
with_complex_part zero n a b = Pair n b
with_complex_part (suc k) n a b = Pair a n

-- a complex number or a struct with another part, by its place
abbrev pub with_part : ℕ → Val → Val → Val
with_part k new UnitVal = UnitVal
with_part k new (BitVal b) = UnitVal
with_part k new (BoolVal b) = UnitVal
with_part k new (Num n) = UnitVal
with_part k new (Pair a b) = with_complex_part k (num_of new) a b
with_part k new (Vals' _ row) = Vals (slice_set (row_values row) k new)
