-- What the rules of operators, prefixes and conversions say of the types of their parts.
use Rattle.std.specs.Prelude.{◌≡◌, refl, Bool, true, false, ◌&&◌, Option, Some, None}
use Rattle.std.proofs.Common.{ap, ◌∙◌, sym}
use Rattle.zir_tree.specs.declared.types.Base.{Base}
use Rattle.zir_tree.specs.declared.types.Base.TheVariants.{Unit as UnitTy, Bit as BitTy, Bool as BoolTy, Int8, Int16, Int32, Int64, Complex16}
use Rattle.zir_tree.specs.declared.types.Base.TheVariants.{Complex32, Struct as StructTy}
use Rattle.zir_tree.specs.declared.expr.Prefix.{Prefix}
use Rattle.zir_tree.specs.declared.expr.Prefix.TheVariants.{Minus, Complement, Not}
use Rattle.zir_tree.specs.declared.expr.Operator.{Operator}
use Rattle.zir_tree.specs.declared.expr.Operator.TheVariants.{Or, And, BitOr, BitXor, BitAnd, Equal, NotEqual, Less, LessEqual, Greater, GreaterEqual}
use Rattle.zir_tree.specs.declared.expr.Operator.TheVariants.{ShiftLeft, ShiftRight, Add, Subtract, Multiply, Divide, Remainder}
use Rattle.zir_types.specs.Kinds.{is_whole, is_bool, half_of, where_so, both_whole, both_numbers, both_bits, both_comparable, ruled, prefixes, converts}
use Rattle.zir_types.specs.Expressions.{is_half}
use Rattle.zir_types.proofs.Agreement.{same_base_is}

left_none : (o : Operator) (b : Base) → ruled o UnitTy b ≡ None
left_none Or b = refl
left_none And b = refl
left_none BitOr b = refl
left_none BitXor b = refl
left_none BitAnd b = refl
left_none Equal b = refl
left_none NotEqual b = refl
left_none Less b = refl
left_none LessEqual b = refl
left_none Greater b = refl
left_none GreaterEqual b = refl
left_none ShiftLeft b = refl
left_none ShiftRight b = refl
left_none Add b = refl
left_none Subtract b = refl
left_none Multiply b = refl
left_none Divide b = refl
left_none Remainder b = refl

whole_none : (a : Base) → both_whole a UnitTy ≡ false
whole_none UnitTy = refl
whole_none _ = refl

numbers_none : (a : Base) → both_numbers a UnitTy ≡ false
numbers_none UnitTy = refl
numbers_none _ = refl

bits_none : (a : Base) → both_bits a UnitTy ≡ false
bits_none UnitTy = refl
bits_none _ = refl

comparable_none : (a : Base) → both_comparable a UnitTy ≡ false
comparable_none UnitTy = refl
comparable_none _ = refl

bool_none : (a : Base) → (is_bool a && is_bool UnitTy) ≡ false
bool_none BoolTy = refl
bool_none _ = refl

shift_none : (a : Base) → (is_whole a && is_whole UnitTy) ≡ false
shift_none UnitTy = refl
shift_none _ = refl

where_not : (b : Bool) (r : Base) → b ≡ false → where_so b r ≡ None
where_not b r h = ap (λ c. where_so c r) h

right_none : (o : Operator) (a : Base) → ruled o a UnitTy ≡ None
right_none Or a = where_not _ BoolTy (bool_none a)
right_none And a = where_not _ BoolTy (bool_none a)
right_none BitOr a = where_not _ a (bits_none a)
right_none BitXor a = where_not _ a (bits_none a)
right_none BitAnd a = where_not _ a (bits_none a)
right_none Equal a = where_not _ BoolTy (comparable_none a)
right_none NotEqual a = where_not _ BoolTy (comparable_none a)
right_none Less a = where_not _ BoolTy (whole_none a)
right_none LessEqual a = where_not _ BoolTy (whole_none a)
right_none Greater a = where_not _ BoolTy (whole_none a)
right_none GreaterEqual a = where_not _ BoolTy (whole_none a)
right_none ShiftLeft a = where_not _ a (shift_none a)
right_none ShiftRight a = where_not _ a (shift_none a)
right_none Add a = where_not _ a (numbers_none a)
right_none Subtract a = where_not _ a (numbers_none a)
right_none Multiply a = where_not _ a (numbers_none a)
right_none Divide a = where_not _ a (whole_none a)
right_none Remainder a = where_not _ a (whole_none a)

none_some : (q : Option Base) (r : Base) → q ≡ None → q ≡ Some r → ⊥
none_some q r h k = let e : None ≡ Some r = sym h ∙ k in absurd cc

-- No operator takes unit on its left side.
pub left_unit : (o : Operator) (a b r : Base) → ruled o a b ≡ Some r → a ≡ UnitTy → ⊥
left_unit o a b r h e = none_some (ruled o a b) r (ap (λ c. ruled o c b) e ∙ left_none o b) h

-- Nor on its right side.
pub right_unit : (o : Operator) (a b r : Base) → ruled o a b ≡ Some r → b ≡ UnitTy → ⊥
right_unit o a b r h e = none_some (ruled o a b) r (ap (ruled o a) e ∙ right_none o a) h

prefix_none : (o : Prefix) → prefixes o UnitTy ≡ false
prefix_none Minus = refl
prefix_none Complement = refl
prefix_none Not = refl

false_true : (b : Bool) → b ≡ false → b ≡ true → ⊥
false_true b h k = let e : false ≡ true = sym h ∙ k in absurd cc

-- No prefix takes unit.
pub prefix_unit : (o : Prefix) (b : Base) → prefixes o b ≡ true → b ≡ UnitTy → ⊥
prefix_unit o b h e = false_true (prefixes o b) (ap (prefixes o) e ∙ prefix_none o) h

convert_none : (to : Base) → converts to UnitTy ≡ false
convert_none UnitTy = refl
convert_none BitTy = refl
convert_none BoolTy = refl
convert_none Int8 = refl
convert_none Int16 = refl
convert_none Int32 = refl
convert_none Int64 = refl
convert_none Complex16 = refl
convert_none Complex32 = refl
convert_none (StructTy k) = refl

-- No conversion takes unit.
pub convert_unit : (to b : Base) → converts to b ≡ true → b ≡ UnitTy → ⊥
convert_unit to b h e = false_true (converts to b) (ap (converts to) e ∙ convert_none to) h

half_not_unit : (b h : Base) → half_of b ≡ Some h → h ≡ UnitTy → ⊥
half_not_unit Complex16 h e u = let f : Some Int16 ≡ Some UnitTy = e ∙ ap Some u in absurd cc
half_not_unit Complex32 h e u = let f : Some Int32 ≡ Some UnitTy = e ∙ ap Some u in absurd cc
half_not_unit _ h e u = absurd cc

half_some : (q : Option Base) (k : Base) → is_half q k ≡ true → q ≡ Some k
half_some None k h = absurd cc
half_some (Some h) k e = ap Some (same_base_is h k e)

-- The parts of a complex number have the type of its halves, which is not unit.
pub half_is : (b k : Base) → is_half (half_of b) k ≡ true → (half_of b ≡ Some k) × (k ≡ UnitTy → ⊥)
half_is b k h = let e = half_some (half_of b) k h in (e, half_not_unit b k e)
