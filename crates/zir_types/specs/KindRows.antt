-- Worked rows of the rules of operators, prefixes and conversions: the table of the language, line by line, over all base types.
use Rattle.std.specs.Prelude.{◌≡◌, refl, pos, negsuc, List, [], ◌∷◌, map, true, false, Option, Some, None}
use Rattle.zir_tree.specs.declared.types.Base.{Base}
use Rattle.zir_tree.specs.declared.types.Base.TheVariants.{Unit as UnitTy, Bit as BitTy, Bool as BoolTy, Int8, Int16, Int32, Int64, Complex16}
use Rattle.zir_tree.specs.declared.types.Base.TheVariants.{Complex32, Struct as StructTy}
use Rattle.zir_tree.specs.declared.expr.Prefix.TheVariants.{Minus, Complement, Not}
use Rattle.zir_tree.specs.declared.expr.Operator.TheVariants.{Or, And, BitOr, BitXor, BitAnd, Equal, NotEqual, Less, LessEqual, Greater, GreaterEqual}
use Rattle.zir_tree.specs.declared.expr.Operator.TheVariants.{ShiftLeft, ShiftRight, Add, Subtract, Multiply, Divide, Remainder}
use Rattle.zir_types.specs.Kinds.{ruled, prefixes, converts, half_of, within, same_base, scalar, arr, same_ty}

-- All base types, with one struct.
abbrev all : List Base
all = UnitTy ∷ BitTy ∷ BoolTy ∷ Int8 ∷ Int16 ∷ Int32 ∷ Int64 ∷ Complex16 ∷ Complex32 ∷ StructTy 0 ∷ []

-- Numbers of any kind keep their type.
abbrev numbers : List (Option Base)
numbers = None ∷ None ∷ None ∷ Some Int8 ∷ Some Int16 ∷ Some Int32 ∷ Some Int64 ∷ Some Complex16 ∷ Some Complex32 ∷ None ∷ []

-- Whole numbers keep their type.
abbrev whole : List (Option Base)
whole = None ∷ None ∷ None ∷ Some Int8 ∷ Some Int16 ∷ Some Int32 ∷ Some Int64 ∷ None ∷ None ∷ None ∷ []

-- Bits and whole numbers keep their type.
abbrev bits : List (Option Base)
bits = None ∷ Some BitTy ∷ None ∷ Some Int8 ∷ Some Int16 ∷ Some Int32 ∷ Some Int64 ∷ None ∷ None ∷ None ∷ []

-- What is compared for equality gives a truth value.
abbrev compared : List (Option Base)
compared = None ∷ Some BoolTy ∷ Some BoolTy ∷ Some BoolTy ∷ Some BoolTy ∷ Some BoolTy ∷ Some BoolTy ∷ Some BoolTy ∷ Some BoolTy ∷ None ∷ []

-- Whole numbers that are compared by order give a truth value.
abbrev ordered : List (Option Base)
ordered = None ∷ None ∷ None ∷ Some BoolTy ∷ Some BoolTy ∷ Some BoolTy ∷ Some BoolTy ∷ None ∷ None ∷ None ∷ []

-- Truth values alone.
abbrev truths : List (Option Base)
truths = None ∷ None ∷ Some BoolTy ∷ None ∷ None ∷ None ∷ None ∷ None ∷ None ∷ None ∷ []

-- `+ - *`
add_row : map (λ b. ruled Add b b) all ≡ numbers
add_row = refl

subtract_row : map (λ b. ruled Subtract b b) all ≡ numbers
subtract_row = refl

multiply_row : map (λ b. ruled Multiply b b) all ≡ numbers
multiply_row = refl

-- Two types are not added.
mixed_add_row : map (λ b. ruled Add Int16 b) all ≡ None ∷ None ∷ None ∷ None ∷ Some Int16 ∷ None ∷ None ∷ None ∷ None ∷ None ∷ []
mixed_add_row = refl

-- `/ %`
divide_row : map (λ b. ruled Divide b b) all ≡ whole
divide_row = refl

remainder_row : map (λ b. ruled Remainder b b) all ≡ whole
remainder_row = refl

-- `& | ^`
and_bits_row : map (λ b. ruled BitAnd b b) all ≡ bits
and_bits_row = refl

or_bits_row : map (λ b. ruled BitOr b b) all ≡ bits
or_bits_row = refl

xor_bits_row : map (λ b. ruled BitXor b b) all ≡ bits
xor_bits_row = refl

-- `<< >>`: the amount is of any whole type, and the result has the left type.
left_row : map (λ b. ruled ShiftLeft b Int64) all ≡ whole
left_row = refl

right_row : map (λ b. ruled ShiftRight Int8 b) all ≡ None ∷ None ∷ None ∷ Some Int8 ∷ Some Int8 ∷ Some Int8 ∷ Some Int8 ∷ None ∷ None ∷ None ∷ []
right_row = refl

-- `== !=`
equal_row : map (λ b. ruled Equal b b) all ≡ compared
equal_row = refl

not_equal_row : map (λ b. ruled NotEqual b b) all ≡ compared
not_equal_row = refl

mixed_equal_row : map (λ b. ruled Equal BitTy b) all ≡ None ∷ Some BoolTy ∷ None ∷ None ∷ None ∷ None ∷ None ∷ None ∷ None ∷ None ∷ []
mixed_equal_row = refl

-- `< <= > >=`
less_row : map (λ b. ruled Less b b) all ≡ ordered
less_row = refl

less_equal_row : map (λ b. ruled LessEqual b b) all ≡ ordered
less_equal_row = refl

greater_row : map (λ b. ruled Greater b b) all ≡ ordered
greater_row = refl

greater_equal_row : map (λ b. ruled GreaterEqual b b) all ≡ ordered
greater_equal_row = refl

-- `&& || not`
and_row : map (λ b. ruled And b b) all ≡ truths
and_row = refl

or_row : map (λ b. ruled Or b b) all ≡ truths
or_row = refl

mixed_and_row : map (λ b. ruled And BoolTy b) all ≡ truths
mixed_and_row = refl

not_row : map (prefixes Not) all ≡ false ∷ false ∷ true ∷ false ∷ false ∷ false ∷ false ∷ false ∷ false ∷ false ∷ []
not_row = refl

-- `-` and `~`
minus_row : map (prefixes Minus) all ≡ false ∷ false ∷ false ∷ true ∷ true ∷ true ∷ true ∷ true ∷ true ∷ false ∷ []
minus_row = refl

complement_row : map (prefixes Complement) all ≡ false ∷ true ∷ false ∷ true ∷ true ∷ true ∷ true ∷ false ∷ false ∷ false ∷ []
complement_row = refl

-- Conversions to a whole number and to a bit, from a whole number or a bit.
to_whole_row : map (converts Int16) all ≡ false ∷ true ∷ false ∷ true ∷ true ∷ true ∷ true ∷ false ∷ false ∷ false ∷ []
to_whole_row = refl

to_bit_row : map (converts BitTy) all ≡ false ∷ true ∷ false ∷ true ∷ true ∷ true ∷ true ∷ false ∷ false ∷ false ∷ []
to_bit_row = refl

-- Conversions to a complex number, from the other complex type or the same.
to_complex_row : map (converts Complex32) all ≡ false ∷ false ∷ false ∷ false ∷ false ∷ false ∷ false ∷ true ∷ true ∷ false ∷ []
to_complex_row = refl

-- Nothing is converted to a truth value.
to_bool_row : map (converts BoolTy) all ≡ false ∷ false ∷ false ∷ false ∷ false ∷ false ∷ false ∷ false ∷ false ∷ false ∷ []
to_bool_row = refl

-- The parts of complex numbers.
half_row : map half_of all ≡ None ∷ None ∷ None ∷ None ∷ None ∷ None ∷ None ∷ Some Int16 ∷ Some Int32 ∷ None ∷ []
half_row = refl

-- The least and the greatest number of each whole type, and those just outside.
int8_row : map (within Int8) (negsuc 128 ∷ negsuc 127 ∷ pos 127 ∷ pos 128 ∷ []) ≡ false ∷ true ∷ true ∷ false ∷ []
int8_row = refl

int16_row : map (within Int16) (negsuc 32768 ∷ negsuc 32767 ∷ pos 32767 ∷ pos 32768 ∷ []) ≡ false ∷ true ∷ true ∷ false ∷ []
int16_row = refl

int32_row : map (within Int32) (negsuc 2147483648 ∷ negsuc 2147483647 ∷ pos 2147483647 ∷ pos 2147483648 ∷ []) ≡ false ∷ true ∷ true ∷ false ∷ []
int32_row = refl

int64_row : map (within Int64) (negsuc 9223372036854775808 ∷ negsuc 9223372036854775807 ∷ pos 9223372036854775807 ∷ pos 9223372036854775808 ∷ [])
    ≡ false ∷ true ∷ true ∷ false ∷ []
int64_row = refl

-- A base is the same as itself alone, and structs by their places.
same_row : map (λ b. same_base b b) all ≡ true ∷ true ∷ true ∷ true ∷ true ∷ true ∷ true ∷ true ∷ true ∷ true ∷ []
same_row = refl

struct_row : map (same_base (StructTy 1)) all ≡ false ∷ false ∷ false ∷ false ∷ false ∷ false ∷ false ∷ false ∷ false ∷ false ∷ []
struct_row = refl

-- Arrays differ by their lengths, and a type from its array.
array_row : map (same_ty (arr 2 (scalar BitTy))) (arr 2 (scalar BitTy) ∷ arr 3 (scalar BitTy) ∷ scalar BitTy ∷ arr 2 (arr 2 (scalar BitTy))
    ∷ arr 2 (scalar Int8) ∷ [])
    ≡ true ∷ false ∷ false ∷ false ∷ false ∷ []
array_row = refl
