-- Worked rows of the walk of expressions.
use Rattle.std.specs.Prelude.{◌≡◌, refl, pos, negsuc, [], ◌∷◌, true, false}
use denote.Hole.Carrier.{hidden}
use Rattle.zir_tree.specs.declared.types.Base.TheVariants.{Unit as UnitTy, Bit as BitTy, Bool as BoolTy, Int8, Int16, Int32, Complex16, Complex32}
use Rattle.zir_tree.specs.declared.types.Base.TheVariants.{Struct as StructTy}
use Rattle.zir_tree.specs.declared.expr.Prefix.TheVariants.{Minus, Complement, Not}
use Rattle.zir_tree.specs.declared.expr.Operator.TheVariants.{And, BitXor, Equal, ShiftLeft, Add}
use Rattle.zir_tree.specs.declared.expr.Callee.TheVariants.{Function as FunctionCallee, Struct as StructCallee}
use Rattle.zir_tree.specs.declared.expr.Expr.{Bit, Bool as BoolLiteral, Int, Unary, Binary, Index, Slice, Part, Call, Array, Convert, Complex}
use Rattle.zir_tree.specs.declared.expr.Expr.TheBlock.{shape-the_row-Expr-0, hidden-the_row-Expr-0, shape-the_row-Expr-1, hidden-the_row-Expr-1}
use Rattle.zir_types.specs.declared.error.TypeError.TheVariants.{Mismatch}
use Rattle.zir_types.specs.Walk.{Fine, Broken}
use Rattle.zir_types.specs.Kinds.{scalar, arr}
use Rattle.zir_types.specs.Expressions.{expr, unasked, wanted}
use Rattle.zir_types.specs.Samples.{at, ident, name, int, x, b, t, y, c, d, a, s, f, pair, scope, type_of}

-- `-128` where an int8 is wanted is one literal, at the `-`.
minus_128_row : expr scope (wanted (scalar Int8)) (Unary Minus UnitTy (int 128 2) (at 1)) ≡ Fine (record {
  what = Int (negsuc 127) Int8 (at 1);
  ty = scalar Int8;
})
unfolding shape-the_row-Expr-0 hidden-the_row-Expr-0 hidden
minus_128_row = refl

-- `128` where an int8 is wanted does not fit, and `-129` neither, at the `-`.
int_128_row : expr scope (wanted (scalar Int8)) (int 128 1) ≡ Broken (Mismatch (at 1))
int_128_row = refl

minus_129_row : expr scope (wanted (scalar Int8)) (Unary Minus UnitTy (int 129 2) (at 1)) ≡ Broken (Mismatch (at 1))
unfolding shape-the_row-Expr-0 hidden-the_row-Expr-0 hidden
minus_129_row = refl

-- `- -5` is a prefix over the literal -5.
minus_minus_row : expr scope (wanted (scalar Int8)) (Unary Minus UnitTy (Unary Minus UnitTy (int 5 4) (at 3)) (at 1))
    ≡ Fine (record { what = Unary Minus Int8 (Int (negsuc 4) Int8 (at 3)) (at 1); ty = scalar Int8 })
unfolding shape-the_row-Expr-0 hidden-the_row-Expr-0 hidden
minus_minus_row = refl

-- `~128` where an int8 is wanted: each INT must fit by itself.
complement_row : expr scope (wanted (scalar Int8)) (Unary Complement UnitTy (int 128 2) (at 1)) ≡ Broken (Mismatch (at 2))
unfolding shape-the_row-Expr-0 hidden-the_row-Expr-0 hidden
complement_row = refl

-- `100 + 100` where an int8 is wanted is fine.
sum_row : type_of (expr scope (wanted (scalar Int8)) (Binary Add UnitTy (int 100 1) (int 100 7) (at 5))) ≡ Fine (scalar Int8)
unfolding shape-the_row-Expr-0 hidden-the_row-Expr-0 hidden
sum_row = refl

-- Without a wanted type a literal is an int32: 2147483647 is fine, and one more is not.
int32_row : type_of (expr scope unasked (int 2147483647 1)) ≡ Fine (scalar Int32)
int32_row = refl

int32_above_row : expr scope unasked (int 2147483648 1) ≡ Broken (Mismatch (at 1))
int32_above_row = refl

-- A wanted type that is no whole number asks nothing of a literal, whether it is a base type or an array.
bool_wanted_row : type_of (expr scope (wanted (scalar BoolTy)) (int 1 1)) ≡ Fine (scalar Int32)
bool_wanted_row = refl

array_wanted_row : type_of (expr scope (wanted (arr 2 (scalar Int8))) (int 200 1)) ≡ Fine (scalar Int32)
array_wanted_row = refl

-- `1 << x`: the 1 has the type of x; `x << 200`: so has the 200, which does not fit.
shift_row : expr scope unasked (Binary ShiftLeft UnitTy (int 1 1) (name x 6) (at 3))
    ≡ Fine (record { what = Binary ShiftLeft Int8 (Int (pos 1) Int8 (at 1)) (name x 6) (at 3); ty = scalar Int8 })
unfolding shape-the_row-Expr-0 hidden-the_row-Expr-0 hidden
shift_row = refl

shift_200_row : expr scope unasked (Binary ShiftLeft UnitTy (name x 1) (int 200 6) (at 3)) ≡ Broken (Mismatch (at 6))
unfolding shape-the_row-Expr-0 hidden-the_row-Expr-0 hidden
shift_200_row = refl

-- `1 << 2` is no literal expression: where an int8 is wanted it is an int32.
shifted_literals_row : type_of (expr scope (wanted (scalar Int8)) (Binary ShiftLeft UnitTy (int 1 1) (int 2 6) (at 3))) ≡ Fine (scalar Int32)
unfolding shape-the_row-Expr-0 hidden-the_row-Expr-0 hidden
shifted_literals_row = refl

-- `200 + a[true]`: the literal is typed after the side that gives it its type.
right_first_row : expr scope unasked (Binary Add UnitTy (int 200 1) (Index (name a 7) (BoolLiteral true (at 9)) (at 8)) (at 5)) ≡ Broken (Mismatch (at 8))
unfolding shape-the_row-Expr-0 hidden-the_row-Expr-0 hidden
right_first_row = refl

-- `200 + a[0]`: the literal does not fit the element's type.
lent_row : expr scope unasked (Binary Add UnitTy (int 200 1) (Index (name a 7) (int 0 9) (at 8)) (at 5)) ≡ Broken (Mismatch (at 1))
unfolding shape-the_row-Expr-0 hidden-the_row-Expr-0 hidden
lent_row = refl

-- `'1 ^ 1`, `c + 1` and `true && 1`: the type of the other side holds no number, at the literal.
bit_row : expr scope unasked (Binary BitXor UnitTy (Bit true (at 1)) (int 1 6) (at 4)) ≡ Broken (Mismatch (at 6))
unfolding shape-the_row-Expr-0 hidden-the_row-Expr-0 hidden
bit_row = refl

complex_row : expr scope unasked (Binary Add UnitTy (name c 1) (int 1 5) (at 3)) ≡ Broken (Mismatch (at 5))
unfolding shape-the_row-Expr-0 hidden-the_row-Expr-0 hidden
complex_row = refl

true_row : expr scope unasked (Binary And UnitTy (BoolLiteral true (at 1)) (int 1 9) (at 6)) ≡ Broken (Mismatch (at 9))
unfolding shape-the_row-Expr-0 hidden-the_row-Expr-0 hidden
true_row = refl

-- `'1 + '0`: bits are not added, at the operator.
bits_row : expr scope unasked (Binary Add UnitTy (Bit true (at 36)) (Bit false (at 41)) (at 39)) ≡ Broken (Mismatch (at 39))
unfolding shape-the_row-Expr-0 hidden-the_row-Expr-0 hidden
bits_row = refl

-- `x == 5` gives a truth value and carries the type of x.
equal_row : expr scope unasked (Binary Equal UnitTy (name x 1) (int 5 6) (at 3))
    ≡ Fine (record { what = Binary Equal Int8 (name x 1) (Int (pos 5) Int8 (at 6)) (at 3); ty = scalar BoolTy })
unfolding shape-the_row-Expr-0 hidden-the_row-Expr-0 hidden
equal_row = refl

-- Of two refusals the one further left comes first: `a[true] + a[false]`.
left_row : expr scope unasked (Binary Add UnitTy (Index (name a 1) (BoolLiteral true (at 3)) (at 2)) (Index (name a 11) (BoolLiteral false (at 13)) (at 12)) (at 9))
    ≡ Broken (Mismatch (at 2))
unfolding shape-the_row-Expr-0 hidden-the_row-Expr-0 hidden
left_row = refl

-- `not 1`, `-b` and `~c` are refused at the prefix.
not_row : expr scope unasked (Unary Not UnitTy (int 1 5) (at 1)) ≡ Broken (Mismatch (at 1))
unfolding shape-the_row-Expr-0 hidden-the_row-Expr-0 hidden
not_row = refl

minus_bit_row : expr scope unasked (Unary Minus UnitTy (name b 2) (at 1)) ≡ Broken (Mismatch (at 1))
unfolding shape-the_row-Expr-0 hidden-the_row-Expr-0 hidden
minus_bit_row = refl

-- `a[x]` is an element and `a[x, 2]` an array; `x[0]` is refused at the bracket.
index_row : type_of (expr scope unasked (Index (name a 1) (name x 3) (at 2))) ≡ Fine (scalar Int8)
unfolding shape-the_row-Expr-0 hidden-the_row-Expr-0 hidden
index_row = refl

slice_row : type_of (expr scope unasked (Slice (name a 1) (name x 3) 2 (at 2))) ≡ Fine (arr 2 (scalar Int8))
unfolding shape-the_row-Expr-0 hidden-the_row-Expr-0 hidden
slice_row = refl

no_array_row : expr scope unasked (Index (name x 1) (int 0 3) (at 2)) ≡ Broken (Mismatch (at 2))
unfolding shape-the_row-Expr-0 hidden-the_row-Expr-0 hidden
no_array_row = refl

-- `c.re` and `d.im` are whole numbers; `s.q` is a field, at its place; `s.r` and `x.re` are refused at the dot.
real_row : expr scope unasked (Part (name c 1) (114 ∷ 101 ∷ []) 0 (at 2)) ≡ Fine (record {
  what = Part (name c 1) (114 ∷ 101 ∷ []) 0 (at 2);
  ty = scalar Int16;
})
unfolding shape-the_row-Expr-0 hidden-the_row-Expr-0 hidden
real_row = refl

imaginary_row : expr scope unasked (Part (name d 1) (105 ∷ 109 ∷ []) 0 (at 2)) ≡ Fine (record {
  what = Part (name d 1) (105 ∷ 109 ∷ []) 1 (at 2);
  ty = scalar Int32;
})
unfolding shape-the_row-Expr-0 hidden-the_row-Expr-0 hidden
imaginary_row = refl

field_row : expr scope unasked (Part (name s 1) (113 ∷ []) 0 (at 2)) ≡ Fine (record { what = Part (name s 1) (113 ∷ []) 1 (at 2); ty = arr 2 (scalar BitTy) })
unfolding shape-the_row-Expr-0 hidden-the_row-Expr-0 hidden
field_row = refl

no_field_row : expr scope unasked (Part (name s 1) (114 ∷ []) 0 (at 2)) ≡ Broken (Mismatch (at 2))
unfolding shape-the_row-Expr-0 hidden-the_row-Expr-0 hidden
no_field_row = refl

no_part_row : expr scope unasked (Part (name x 1) (114 ∷ 101 ∷ []) 0 (at 2)) ≡ Broken (Mismatch (at 2))
unfolding shape-the_row-Expr-0 hidden-the_row-Expr-0 hidden
no_part_row = refl

-- `{1, 2}` where an array of int8 is wanted; `{x, 1}` where nothing is wanted mixes two types, at the brace.
array_row : expr scope (wanted (arr 2 (scalar Int8))) (Array (int 1 2 ∷ int 2 5 ∷ []) (at 1))
    ≡ Fine (record { what = Array (Int (pos 1) Int8 (at 2) ∷ Int (pos 2) Int8 (at 5) ∷ []) (at 1); ty = arr 2 (scalar Int8) })
unfolding shape-the_row-Expr-1 hidden-the_row-Expr-1 hidden
array_row = refl

mixed_array_row : expr scope unasked (Array (name x 2 ∷ int 1 5 ∷ []) (at 1)) ≡ Broken (Mismatch (at 1))
unfolding shape-the_row-Expr-1 hidden-the_row-Expr-1 hidden
mixed_array_row = refl

-- `-{200, 1}` where an array of int8 is wanted: nothing is wanted under a prefix, so the prefix is refused.
minus_array_row : expr scope (wanted (arr 2 (scalar Int8))) (Unary Minus UnitTy (Array (int 200 3 ∷ int 1 8 ∷ []) (at 2)) (at 1)) ≡ Broken (Mismatch (at 1))
unfolding shape-the_row-Expr-0 hidden-the_row-Expr-0 shape-the_row-Expr-1 hidden-the_row-Expr-1 hidden
minus_array_row = refl

-- `f(5)` is a call of the first function; `f(200)` is refused at the literal, `f(b)` and `f(1, 2)` at the name.
call_row : expr scope unasked (Call (ident f 1) (FunctionCallee 0) (int 5 3 ∷ []))
    ≡ Fine (record { what = Call (ident f 1) (FunctionCallee 0) (Int (pos 5) Int8 (at 3) ∷ []); ty = scalar Int32 })
unfolding shape-the_row-Expr-1 hidden-the_row-Expr-1 hidden
call_row = refl

call_200_row : expr scope unasked (Call (ident f 1) (FunctionCallee 0) (int 200 3 ∷ [])) ≡ Broken (Mismatch (at 3))
unfolding shape-the_row-Expr-1 hidden-the_row-Expr-1 hidden
call_200_row = refl

call_bit_row : expr scope unasked (Call (ident f 1) (FunctionCallee 0) (name b 3 ∷ [])) ≡ Broken (Mismatch (at 1))
unfolding shape-the_row-Expr-1 hidden-the_row-Expr-1 hidden
call_bit_row = refl

call_two_row : expr scope unasked (Call (ident f 1) (FunctionCallee 0) (int 1 3 ∷ int 2 6 ∷ [])) ≡ Broken (Mismatch (at 1))
unfolding shape-the_row-Expr-1 hidden-the_row-Expr-1 hidden
call_two_row = refl

-- A call of a struct takes its fields in order, with their types wanted.
struct_row : expr scope unasked (Call (ident pair 1) (FunctionCallee 0) (int 5 6 ∷ Array (Bit true (at 10) ∷ Bit false (at 14) ∷ []) (at 9) ∷ []))
    ≡ Fine (record {
      what = Call (ident pair 1) (StructCallee 0) (Int (pos 5) Int8 (at 6) ∷ Array (Bit true (at 10) ∷ Bit false (at 14)
          ∷ []) (at 9) ∷ []);
      ty = scalar (StructTy 0);
    })
unfolding shape-the_row-Expr-1 hidden-the_row-Expr-1 hidden
struct_row = refl

-- `int8(200)`: the conversion wants an int8; `int8(y)` and `bit(x)` are fine; `int8(t)` is refused at its word.
convert_200_row : expr scope unasked (Convert Int8 (int 200 6) (at 1)) ≡ Broken (Mismatch (at 6))
unfolding shape-the_row-Expr-0 hidden-the_row-Expr-0 hidden
convert_200_row = refl

convert_row : type_of (expr scope unasked (Convert Int8 (name y 6) (at 1))) ≡ Fine (scalar Int8)
unfolding shape-the_row-Expr-0 hidden-the_row-Expr-0 hidden
convert_row = refl

convert_bool_row : expr scope unasked (Convert Int8 (name t 6) (at 1)) ≡ Broken (Mismatch (at 1))
unfolding shape-the_row-Expr-0 hidden-the_row-Expr-0 hidden
convert_bool_row = refl

-- `complex16(1, 2)`: its literals are int32, so it is refused at its word; `complex32(1, 2)` is fine.
complex16_row : expr scope unasked (Complex Complex16 (int 1 11) (int 2 14) (at 1)) ≡ Broken (Mismatch (at 1))
unfolding shape-the_row-Expr-0 hidden-the_row-Expr-0 hidden
complex16_row = refl

complex32_row : type_of (expr scope unasked (Complex Complex32 (int 1 11) (int 2 14) (at 1))) ≡ Fine (scalar Complex32)
unfolding shape-the_row-Expr-0 hidden-the_row-Expr-0 hidden
complex32_row = refl

-- `complex16(d)` is from the other complex type.
narrowed_row : type_of (expr scope unasked (Convert Complex16 (name d 11) (at 1))) ≡ Fine (scalar Complex16)
unfolding shape-the_row-Expr-0 hidden-the_row-Expr-0 hidden
narrowed_row = refl
