-- The rules of operators, prefixes and conversions are those of code.
use Rattle.std.specs.Prelude.{◌≡◌, refl, ℤ, Bool, true, false, ◌&&◌, ◌||◌, ◌⊎◌, Some}
use Rattle.std.proofs.Common.{sym, inl, inr}
use Rattle.zir_tree.specs.declared.types.Base.{Base}
use Rattle.zir_tree.specs.declared.types.Base.TheVariants.{Unit as UnitTy, Bit as BitTy, Bool as BoolTy, Int8, Int16, Int32, Int64, Complex16}
use Rattle.zir_tree.specs.declared.types.Base.TheVariants.{Complex32, Struct as StructTy}
use Rattle.zir_tree.specs.declared.expr.Prefix.{Prefix}
use Rattle.zir_tree.specs.declared.expr.Prefix.TheVariants.{Minus, Complement, Not}
use Rattle.zir_tree.specs.declared.expr.Operator.{Operator}
use Rattle.zir_tree.specs.declared.expr.Operator.TheVariants.{Or, And, BitOr, BitXor, BitAnd, Equal, NotEqual, Less, LessEqual, Greater, GreaterEqual}
use Rattle.zir_tree.specs.declared.expr.Operator.TheVariants.{ShiftLeft, ShiftRight, Add, Subtract, Multiply, Divide, Remainder}
use Rattle.zir_types.specs.Kinds.{is_whole, is_complex, is_bit, is_bool, half_of, same_base, where_so, both_whole, both_numbers, both_bits}
use Rattle.zir_types.specs.Kinds.{both_comparable, ruled, prefixes, converts, within}
use Rattle.zir_types.proofs.Fine.{both, either}
use Rattle.zir_types.proofs.Agreement.{same_base_is}
use Rattle.zir_code.specs.Typing.{IsWholeType, IsComplexType, IsScalar, half_type, AtWholes, AtNumbers, AtBits, AtSame, AtOrder, AtShift, AtTruths}
use Rattle.zir_code.specs.Typing.{OperatorFits, PrefixFits, ConversionFits}

pub whole_type : (b : Base) → is_whole b ≡ true → IsWholeType b
whole_type UnitTy h = absurd cc
whole_type BitTy h = absurd cc
whole_type BoolTy h = absurd cc
whole_type Int8 h = tt
whole_type Int16 h = tt
whole_type Int32 h = tt
whole_type Int64 h = tt
whole_type Complex16 h = absurd cc
whole_type Complex32 h = absurd cc
whole_type (StructTy k) h = absurd cc

complex_type : (b : Base) → is_complex b ≡ true → IsComplexType b
complex_type UnitTy h = absurd cc
complex_type BitTy h = absurd cc
complex_type BoolTy h = absurd cc
complex_type Int8 h = absurd cc
complex_type Int16 h = absurd cc
complex_type Int32 h = absurd cc
complex_type Int64 h = absurd cc
complex_type Complex16 h = tt
complex_type Complex32 h = tt
complex_type (StructTy k) h = absurd cc

bit_type : (b : Base) → is_bit b ≡ true → b ≡ BitTy
bit_type UnitTy h = absurd cc
bit_type BitTy h = refl
bit_type BoolTy h = absurd cc
bit_type Int8 h = absurd cc
bit_type Int16 h = absurd cc
bit_type Int32 h = absurd cc
bit_type Int64 h = absurd cc
bit_type Complex16 h = absurd cc
bit_type Complex32 h = absurd cc
bit_type (StructTy k) h = absurd cc

bool_type : (b : Base) → is_bool b ≡ true → b ≡ BoolTy
bool_type UnitTy h = absurd cc
bool_type BitTy h = absurd cc
bool_type BoolTy h = refl
bool_type Int8 h = absurd cc
bool_type Int16 h = absurd cc
bool_type Int32 h = absurd cc
bool_type Int64 h = absurd cc
bool_type Complex16 h = absurd cc
bool_type Complex32 h = absurd cc
bool_type (StructTy k) h = absurd cc

-- A type that holds a number is whole.
pub holds_number : (b : Base) (n : ℤ) → within b n ≡ true → IsWholeType b
holds_number UnitTy n h = absurd cc
holds_number BitTy n h = absurd cc
holds_number BoolTy n h = absurd cc
holds_number Int8 n h = tt
holds_number Int16 n h = tt
holds_number Int32 n h = tt
holds_number Int64 n h = tt
holds_number Complex16 n h = absurd cc
holds_number Complex32 n h = absurd cc
holds_number (StructTy k) n h = absurd cc

-- A type with halves is complex, and they are its parts.
pub half_types : (b h : Base) → half_of b ≡ Some h → IsComplexType b × (h ≡ half_type b)
half_types UnitTy h e = absurd cc
half_types BitTy h e = absurd cc
half_types BoolTy h e = absurd cc
half_types Int8 h e = absurd cc
half_types Int16 h e = absurd cc
half_types Int32 h e = absurd cc
half_types Int64 h e = absurd cc
half_types Complex16 h e = (tt, cc)
half_types Complex32 h e = (tt, cc)
half_types (StructTy k) h e = absurd cc

comparable_type : (b : Base) → (is_bit b || is_bool b || is_whole b || is_complex b) ≡ true → IsScalar b ⊎ IsComplexType b
comparable_type UnitTy h = absurd cc
comparable_type BitTy h = inl (inl refl)
comparable_type BoolTy h = inl (inr (inl refl))
comparable_type Int8 h = inl (inr (inr tt))
comparable_type Int16 h = inl (inr (inr tt))
comparable_type Int32 h = inl (inr (inr tt))
comparable_type Int64 h = inl (inr (inr tt))
comparable_type Complex16 h = inr tt
comparable_type Complex32 h = inr tt
comparable_type (StructTy k) h = absurd cc

number_type : (b : Base) → (is_whole b || is_complex b) ≡ true → IsWholeType b ⊎ IsComplexType b
number_type UnitTy h = absurd cc
number_type BitTy h = absurd cc
number_type BoolTy h = absurd cc
number_type Int8 h = inl tt
number_type Int16 h = inl tt
number_type Int32 h = inl tt
number_type Int64 h = inl tt
number_type Complex16 h = inr tt
number_type Complex32 h = inr tt
number_type (StructTy k) h = absurd cc

bits_type : (b : Base) → (is_bit b || is_whole b) ≡ true → (b ≡ BitTy) ⊎ IsWholeType b
bits_type UnitTy h = absurd cc
bits_type BitTy h = inl refl
bits_type BoolTy h = absurd cc
bits_type Int8 h = inr tt
bits_type Int16 h = inr tt
bits_type Int32 h = inr tt
bits_type Int64 h = inr tt
bits_type Complex16 h = absurd cc
bits_type Complex32 h = absurd cc
bits_type (StructTy k) h = absurd cc

turned_bits_type : (b : Base) → (is_whole b || is_bit b) ≡ true → (b ≡ BitTy) ⊎ IsWholeType b
turned_bits_type UnitTy h = absurd cc
turned_bits_type BitTy h = inl refl
turned_bits_type BoolTy h = absurd cc
turned_bits_type Int8 h = inr tt
turned_bits_type Int16 h = inr tt
turned_bits_type Int32 h = inr tt
turned_bits_type Int64 h = inr tt
turned_bits_type Complex16 h = absurd cc
turned_bits_type Complex32 h = absurd cc
turned_bits_type (StructTy k) h = absurd cc

-- Where a rule holds, its result is this.
where_holds : (b : Bool) (u r : Base) → where_so b u ≡ Some r → (b ≡ true) × (r ≡ u)
where_holds true u r h = (refl, cc)
where_holds false u r h = absurd cc

at_wholes : (k m r : Base) → where_so (both_whole k m) k ≡ Some r → AtWholes k m r
at_wholes k m r h =
    let w = where_holds (both_whole k m) k r h in
    let s = both (is_whole k) (same_base k m) w.0 in
    (whole_type k s.0, sym (same_base_is k m s.1), w.1)

at_numbers : (k m r : Base) → where_so (both_numbers k m) k ≡ Some r → AtNumbers k m r
at_numbers k m r h =
    let w = where_holds (both_numbers k m) k r h in
    let s = both (is_whole k || is_complex k) (same_base k m) w.0 in
    (number_type k s.0, sym (same_base_is k m s.1), w.1)

at_bits : (k m r : Base) → where_so (both_bits k m) k ≡ Some r → AtBits k m r
at_bits k m r h =
    let w = where_holds (both_bits k m) k r h in
    let s = both (is_bit k || is_whole k) (same_base k m) w.0 in
    (bits_type k s.0, sym (same_base_is k m s.1), w.1)

at_same : (k m r : Base) → where_so (both_comparable k m) BoolTy ≡ Some r → AtSame k m r
at_same k m r h =
    let w = where_holds (both_comparable k m) BoolTy r h in
    let s = both (is_bit k || is_bool k || is_whole k || is_complex k) (same_base k m) w.0 in
    (comparable_type k s.0, sym (same_base_is k m s.1), w.1)

at_order : (k m r : Base) → where_so (both_whole k m) BoolTy ≡ Some r → AtOrder k m r
at_order k m r h =
    let w = where_holds (both_whole k m) BoolTy r h in
    let s = both (is_whole k) (same_base k m) w.0 in
    (whole_type k s.0, sym (same_base_is k m s.1), w.1)

at_shift : (k m r : Base) → where_so (is_whole k && is_whole m) k ≡ Some r → AtShift k m r
at_shift k m r h =
    let w = where_holds (is_whole k && is_whole m) k r h in
    let s = both (is_whole k) (is_whole m) w.0 in
    (whole_type k s.0, whole_type m s.1, w.1)

at_truths : (k m r : Base) → where_so (is_bool k && is_bool m) BoolTy ≡ Some r → AtTruths k m r
at_truths k m r h =
    let w = where_holds (is_bool k && is_bool m) BoolTy r h in
    let s = both (is_bool k) (is_bool m) w.0 in
    (bool_type k s.0, bool_type m s.1, w.1)

-- The rule of an operator.
pub operator_fits : (o : Operator) (k m r : Base) → ruled o k m ≡ Some r → OperatorFits o k m r
operator_fits Or k m r h = at_truths k m r h
operator_fits And k m r h = at_truths k m r h
operator_fits BitOr k m r h = at_bits k m r h
operator_fits BitXor k m r h = at_bits k m r h
operator_fits BitAnd k m r h = at_bits k m r h
operator_fits Equal k m r h = at_same k m r h
operator_fits NotEqual k m r h = at_same k m r h
operator_fits Less k m r h = at_order k m r h
operator_fits LessEqual k m r h = at_order k m r h
operator_fits Greater k m r h = at_order k m r h
operator_fits GreaterEqual k m r h = at_order k m r h
operator_fits ShiftLeft k m r h = at_shift k m r h
operator_fits ShiftRight k m r h = at_shift k m r h
operator_fits Add k m r h = at_numbers k m r h
operator_fits Subtract k m r h = at_numbers k m r h
operator_fits Multiply k m r h = at_numbers k m r h
operator_fits Divide k m r h = at_wholes k m r h
operator_fits Remainder k m r h = at_wholes k m r h

-- The rule of a prefix.
pub prefix_fits : (o : Prefix) (b : Base) → prefixes o b ≡ true → PrefixFits o b
prefix_fits Minus b h = number_type b h
prefix_fits Complement b h = bits_type b h
prefix_fits Not b h = bool_type b h

converts_by : (to from : Base) → (((is_whole to || is_bit to) && (is_whole from || is_bit from)) ≡ true) ⊎ ((is_complex to && is_complex from) ≡ true) →
    ConversionFits to from
converts_by to from (inl h) =
    let s = both (is_whole to || is_bit to) (is_whole from || is_bit from) h in inl (turned_bits_type to s.0, turned_bits_type from s.1)
converts_by to from (inr h) = let s = both (is_complex to) (is_complex from) h in inr (complex_type to s.0, complex_type from s.1)

-- The rule of a conversion.
pub conversion_fits : (to from : Base) → converts to from ≡ true → ConversionFits to from
conversion_fits to from h =
    converts_by to from (either ((is_whole to || is_bit to) && (is_whole from || is_bit from)) (is_complex to && is_complex from) h)
