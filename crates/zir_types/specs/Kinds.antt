-- Types, which of them are of a kind, and the rules of operators and conversions.
use Rattle.std.specs.Prelude.{ℕ, ℤ, pos, negsuc, List, [], ◌∷◌, Bool, true, false, ◌&&◌, ◌||◌, Option, Some, None, nat_eq, int_le}
use Rattle.zir_tree.specs.declared.types.Base.{Base}
use Rattle.zir_tree.specs.declared.types.Base.TheVariants.{Unit as UnitTy, Bit as BitTy, Bool as BoolTy, Int8, Int16, Int32, Int64, Complex16}
use Rattle.zir_tree.specs.declared.types.Base.TheVariants.{Complex32, Struct as StructTy}
use Rattle.zir_tree.specs.declared.types.Ty.{Ty}
use Rattle.zir_tree.specs.declared.expr.Prefix.{Prefix}
use Rattle.zir_tree.specs.declared.expr.Prefix.TheVariants.{Minus, Complement, Not}
use Rattle.zir_tree.specs.declared.expr.Operator.{Operator}
use Rattle.zir_tree.specs.declared.expr.Operator.TheVariants.{Or, And, BitOr, BitXor, BitAnd, Equal, NotEqual, Less, LessEqual, Greater, GreaterEqual}
use Rattle.zir_tree.specs.declared.expr.Operator.TheVariants.{ShiftLeft, ShiftRight, Add, Subtract, Multiply, Divide, Remainder}

-- The type of this base that is no array.
abbrev pub scalar : Base → Ty
scalar b = record { lengths = []; base = b }

-- An array of so many elements of a type.
abbrev pub arr : ℕ → Ty → Ty
arr n t = record { lengths = n ∷ t.lengths; base = t.base }

-- The base of a type without array lengths, and else unit.
abbrev pub scalar_if : List ℕ → Base → Base
scalar_if [] b = b
scalar_if (n ∷ ns) b = UnitTy

-- The base of a type that is no array; an array counts as unit, which no operator takes.
abbrev pub scalar_of : Ty → Base
scalar_of t = scalar_if t.lengths t.base

-- A whole number.
abbrev pub is_whole : Base → Bool
is_whole UnitTy = false
is_whole BitTy = false
is_whole BoolTy = false
is_whole Int8 = true
is_whole Int16 = true
is_whole Int32 = true
is_whole Int64 = true
is_whole Complex16 = false
is_whole Complex32 = false
is_whole (StructTy k) = false

-- A complex number.
abbrev pub is_complex : Base → Bool
is_complex UnitTy = false
is_complex BitTy = false
is_complex BoolTy = false
is_complex Int8 = false
is_complex Int16 = false
is_complex Int32 = false
is_complex Int64 = false
is_complex Complex16 = true
is_complex Complex32 = true
is_complex (StructTy k) = false

-- A bit.
abbrev pub is_bit : Base → Bool
is_bit UnitTy = false
is_bit BitTy = true
is_bit BoolTy = false
is_bit Int8 = false
is_bit Int16 = false
is_bit Int32 = false
is_bit Int64 = false
is_bit Complex16 = false
is_bit Complex32 = false
is_bit (StructTy k) = false

-- A truth value.
abbrev pub is_bool : Base → Bool
is_bool UnitTy = false
is_bool BitTy = false
is_bool BoolTy = true
is_bool Int8 = false
is_bool Int16 = false
is_bool Int32 = false
is_bool Int64 = false
is_bool Complex16 = false
is_bool Complex32 = false
is_bool (StructTy k) = false

-- A struct.
abbrev pub is_struct : Base → Bool
is_struct UnitTy = false
is_struct BitTy = false
is_struct BoolTy = false
is_struct Int8 = false
is_struct Int16 = false
is_struct Int32 = false
is_struct Int64 = false
is_struct Complex16 = false
is_struct Complex32 = false
is_struct (StructTy k) = true

-- The type of the parts of a complex number.
abbrev pub half_of : Base → Option Base
half_of UnitTy = None
half_of BitTy = None
half_of BoolTy = None
half_of Int8 = None
half_of Int16 = None
half_of Int32 = None
half_of Int64 = None
half_of Complex16 = Some Int16
half_of Complex32 = Some Int32
half_of (StructTy k) = None

-- Whether two bases are one.
abbrev pub same_base : Base → Base → Bool
same_base UnitTy UnitTy = true
same_base BitTy BitTy = true
same_base BoolTy BoolTy = true
same_base Int8 Int8 = true
same_base Int16 Int16 = true
same_base Int32 Int32 = true
same_base Int64 Int64 = true
same_base Complex16 Complex16 = true
same_base Complex32 Complex32 = true
same_base (StructTy k) (StructTy l) = nat_eq k l
same_base _ _ = false

-- Whether two lists of array lengths are one.
abbrev pub same_lengths : List ℕ → List ℕ → Bool
same_lengths [] [] = true
same_lengths [] (n ∷ ns) = false
same_lengths (m ∷ ms) [] = false
same_lengths (m ∷ ms) (n ∷ ns) = nat_eq m n && same_lengths ms ns

-- Whether two types are one.
abbrev pub same_ty : Ty → Ty → Bool
same_ty s t = same_lengths s.lengths t.lengths && same_base s.base t.base

-- A base, where a rule holds.
abbrev pub where_so : Bool → Base → Option Base
where_so true b = Some b
where_so false b = None

-- Both sides are one whole type.
abbrev pub both_whole : Base → Base → Bool
both_whole a b = is_whole a && same_base a b

-- Both sides are one whole or complex type.
abbrev pub both_numbers : Base → Base → Bool
both_numbers a b = (is_whole a || is_complex a) && same_base a b

-- Both sides are bits, or one whole type.
abbrev pub both_bits : Base → Base → Bool
both_bits a b = (is_bit a || is_whole a) && same_base a b

-- Both sides are one type out of bit, bool, whole and complex.
abbrev pub both_comparable : Base → Base → Bool
both_comparable a b = (is_bit a || is_bool a || is_whole a || is_complex a) && same_base a b

-- The type of an operator's result over the types of its sides, where its rule holds.
abbrev pub ruled : Operator → Base → Base → Option Base
ruled Or a b = where_so (is_bool a && is_bool b) BoolTy
ruled And a b = where_so (is_bool a && is_bool b) BoolTy
ruled BitOr a b = where_so (both_bits a b) a
ruled BitXor a b = where_so (both_bits a b) a
ruled BitAnd a b = where_so (both_bits a b) a
ruled Equal a b = where_so (both_comparable a b) BoolTy
ruled NotEqual a b = where_so (both_comparable a b) BoolTy
ruled Less a b = where_so (both_whole a b) BoolTy
ruled LessEqual a b = where_so (both_whole a b) BoolTy
ruled Greater a b = where_so (both_whole a b) BoolTy
ruled GreaterEqual a b = where_so (both_whole a b) BoolTy
ruled ShiftLeft a b = where_so (is_whole a && is_whole b) a
ruled ShiftRight a b = where_so (is_whole a && is_whole b) a
ruled Add a b = where_so (both_numbers a b) a
ruled Subtract a b = where_so (both_numbers a b) a
ruled Multiply a b = where_so (both_numbers a b) a
ruled Divide a b = where_so (both_whole a b) a
ruled Remainder a b = where_so (both_whole a b) a

-- Which types a prefix takes; its result has the same type.
abbrev pub prefixes : Prefix → Base → Bool
prefixes Minus b = is_whole b || is_complex b
prefixes Complement b = is_bit b || is_whole b
prefixes Not b = is_bool b

-- Which types a conversion of one part takes: to a whole number or a bit from these, and to a complex number from a complex one.
abbrev pub converts : Base → Base → Bool
converts to from = ((is_whole to || is_bit to) && (is_whole from || is_bit from)) || (is_complex to && is_complex from)

-- The numbers that a whole type can hold.
abbrev pub within : Base → ℤ → Bool
within UnitTy n = false
within BitTy n = false
within BoolTy n = false
within Int8 n = int_le (negsuc 127) n && int_le n (pos 127)
within Int16 n = int_le (negsuc 32767) n && int_le n (pos 32767)
within Int32 n = int_le (negsuc 2147483647) n && int_le n (pos 2147483647)
within Int64 n = int_le (negsuc 9223372036854775807) n && int_le n (pos 9223372036854775807)
within Complex16 n = false
within Complex32 n = false
within (StructTy k) n = false
