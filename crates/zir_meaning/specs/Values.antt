-- Values: their parts, the numbers of a width, the value of a variable without an initial value, and which values a type has.
use Rattle.std.specs.Prelude.{ℕ, zero, suc, ℤ, pos, List, [], ◌∷◌, ◌++◌, Bool, true, false, ◌≡◌, length, map, slice_index_or, nat_eq}
use Rattle.std.specs.Int.{int_wrap}
use mir.Syntax.{w8, w16, w32, w64}
use Rattle.zir_tree.specs.declared.value.Val.{Val, Unit as UnitVal, Bit as BitVal, Bool as BoolVal, Num, Pair, List as Vals, List' as Vals', Row_of-Val, end_of-Val, more_of-Val}
use Rattle.zir_tree.specs.declared.types.Base.{Base}
use Rattle.zir_tree.specs.declared.types.Base.TheVariants.{Unit as UnitTy, Bit as BitTy, Bool as BoolTy, Int8, Int16, Int32, Int64, Complex16, Complex32, Struct as StructTy}
use Rattle.zir_tree.specs.declared.types.Ty.{Ty}
use Rattle.zir_tree.specs.declared.types.TypeExpr.{TypeExpr}
use Rattle.zir_tree.specs.declared.types.FieldDef.{FieldDef}
use Rattle.zir_tree.specs.declared.types.StructDef.{StructDef}

-- the values in a row
abbrev pub row_values : {m : _} → Row_of-Val m → List Val
row_values end_of-Val = []
row_values (more_of-Val v row) = v ∷ row_values row

-- the elements of an array or the fields of a struct, and none of any other value
abbrev pub parts : Val → List Val
parts UnitVal = []
parts (BitVal b) = []
parts (BoolVal b) = []
parts (Num n) = []
parts (Pair a b) = []
parts (Vals' _ row) = row_values row

-- whether a value is the bit 1 or true
abbrev pub is_one : Val → Bool
is_one UnitVal = false
is_one (BitVal b) = b
is_one (BoolVal b) = b
is_one (Num n) = false
is_one (Pair a b) = false
is_one (Vals' _ row) = false

-- the whole number that a value is, and 0 for any other value
abbrev pub num_of : Val → ℤ
num_of UnitVal = pos 0
num_of (BitVal b) = pos 0
num_of (BoolVal b) = pos 0
num_of (Num n) = n
num_of (Pair a b) = pos 0
num_of (Vals' _ row) = pos 0

-- the real part of a complex number, and 0 for any other value
abbrev pub real_of : Val → ℤ
real_of UnitVal = pos 0
real_of (BitVal b) = pos 0
real_of (BoolVal b) = pos 0
real_of (Num n) = pos 0
real_of (Pair a b) = a
real_of (Vals' _ row) = pos 0

-- the imaginary part of a complex number, and 0 for any other value
abbrev pub imaginary_of : Val → ℤ
imaginary_of UnitVal = pos 0
imaginary_of (BitVal b) = pos 0
imaginary_of (BoolVal b) = pos 0
imaginary_of (Num n) = pos 0
imaginary_of (Pair a b) = b
imaginary_of (Vals' _ row) = pos 0

-- a number wrapped to the width of a whole type, or of the parts of a complex type, in two's complement
abbrev pub wrap : Base → ℤ → ℤ
wrap UnitTy n = n
wrap BitTy n = n
wrap BoolTy n = n
wrap Int8 n = int_wrap w8 n
wrap Int16 n = int_wrap w16 n
wrap Int32 n = int_wrap w32 n
wrap Int64 n = int_wrap w64 n
wrap Complex16 n = int_wrap w16 n
wrap Complex32 n = int_wrap w32 n
wrap (StructTy k) n = n

-- the bits of a whole number of a type
abbrev pub width_of : Base → ℕ
width_of UnitTy = 0
width_of BitTy = 0
width_of BoolTy = 0
width_of Int8 = 8
width_of Int16 = 16
width_of Int32 = 32
width_of Int64 = 64
width_of Complex16 = 0
width_of Complex32 = 0
width_of (StructTy k) = 0

-- a list of so many copies of a value
abbrev pub copies : ℕ → Val → List Val
copies zero v = []
copies (suc n) v = v ∷ copies n v

-- a value in arrays of these lengths, the outermost first
abbrev pub filled : List ℕ → Val → Val
filled [] v = v
filled (n ∷ ns) v = Vals (copies n (filled ns v))

-- the blank value of a type that is no array, over the blank values of the structs
abbrev pub blank_base : List Val → Base → Val
blank_base blanks UnitTy = UnitVal
blank_base blanks BitTy = BitVal false
blank_base blanks BoolTy = BoolVal false
blank_base blanks Int8 = Num (pos 0)
blank_base blanks Int16 = Num (pos 0)
blank_base blanks Int32 = Num (pos 0)
blank_base blanks Int64 = Num (pos 0)
blank_base blanks Complex16 = Pair (pos 0) (pos 0)
blank_base blanks Complex32 = Pair (pos 0) (pos 0)
blank_base blanks (StructTy k) = slice_index_or blanks k UnitVal

-- the value of a variable without an initial value: 0, '0, false, or all such parts
abbrev pub blank : List Val → Ty → Val
blank blanks t = filled t.lengths (blank_base blanks t.base)

-- the blank values of these structs behind others, each over those before it
abbrev pub more_blanks : List Val → List StructDef → List Val
more_blanks blanks [] = blanks
more_blanks blanks (d ∷ ds) = more_blanks (blanks ++ Vals (map (λ f. blank blanks f.ty) d.fields) ∷ []) ds

-- the blank values of all structs, by their places
abbrev pub blanks_of : List StructDef → List Val
blanks_of ds = more_blanks [] ds

-- the type that a text writes so
abbrev pub type_of : TypeExpr → Ty
type_of t = record { lengths = map (λ d. d.length) t.dimensions; base = t.base }

-- which values a struct has, by its place
abbrev pub Kinds : Type 1
Kinds = ℕ → Val → Type 0

-- the value is unit
abbrev pub IsUnit : Val → Type 0
IsUnit v = v ≡ UnitVal

-- the value is a bit
abbrev pub IsBit : Val → Type 0
IsBit v = (b : Bool) × (v ≡ BitVal b)

-- the value is true or false
abbrev pub IsBool : Val → Type 0
IsBool v = (b : Bool) × (v ≡ BoolVal b)

-- the value is a number that wrapping to this type leaves as it is
abbrev pub IsWhole : Base → Val → Type 0
IsWhole t v = (n : ℤ) × (v ≡ Num n) × (wrap t n ≡ n)

-- the value is a complex number whose parts wrapping to this type leaves as they are
abbrev pub IsComplex : Base → Val → Type 0
IsComplex t v = (a : ℤ) × (b : ℤ) × (v ≡ Pair a b) × (wrap t a ≡ a) × (wrap t b ≡ b)

-- each of these values is so
abbrev pub Each : (Val → Type 0) → List Val → Type 0
Each P [] = Unit {0}
Each P (v ∷ vs) = P v × Each P vs

-- the value is an array of so many values that are so
abbrev pub IsArray : (Val → Type 0) → ℕ → Val → Type 0
IsArray P n v = (vs : List Val) × (v ≡ Vals vs) × (length vs ≡ n) × Each P vs

-- the value has this type, which is no array
abbrev pub HasBase : Kinds → Base → Val → Type 0
HasBase kinds UnitTy v = IsUnit v
HasBase kinds BitTy v = IsBit v
HasBase kinds BoolTy v = IsBool v
HasBase kinds Int8 v = IsWhole Int8 v
HasBase kinds Int16 v = IsWhole Int16 v
HasBase kinds Int32 v = IsWhole Int32 v
HasBase kinds Int64 v = IsWhole Int64 v
HasBase kinds Complex16 v = IsComplex Complex16 v
HasBase kinds Complex32 v = IsComplex Complex32 v
HasBase kinds (StructTy k) v = kinds k v

-- the value is an array of arrays of these lengths
abbrev pub HasLengths : Kinds → List ℕ → Base → Val → Type 0
HasLengths kinds [] b v = HasBase kinds b v
HasLengths kinds (n ∷ ns) b v = IsArray (HasLengths kinds ns b) n v

-- the values are those of these fields, one for one
abbrev pub HasFields : Kinds → List FieldDef → List Val → Type 0
HasFields kinds [] [] = Unit {0}
HasFields kinds [] (v ∷ vs) = ⊥
HasFields kinds (f ∷ fs) [] = ⊥
HasFields kinds (f ∷ fs) (v ∷ vs) = HasLengths kinds f.ty.lengths f.ty.base v × HasFields kinds fs vs

-- the value is a struct with these fields
abbrev pub IsStruct : Kinds → List FieldDef → Val → Type 0
IsStruct kinds fs v = (vs : List Val) × (v ≡ Vals vs) × HasFields kinds fs vs

-- no struct is defined
abbrev pub no_kinds : Kinds
no_kinds k v = ⊥

-- one of two statements
abbrev pub either_holds : Bool → Type 0 → Type 0 → Type 0
either_holds true P Q = P
either_holds false P Q = Q

-- these structs behind n others, each over those before it
abbrev pub more_kinds : Kinds → ℕ → List StructDef → Kinds
more_kinds kinds n [] = kinds
more_kinds kinds n (d ∷ ds) = more_kinds (λ k v. either_holds (nat_eq k n) (IsStruct kinds d.fields v) (kinds k v)) (suc n) ds

-- which values each of these structs has
abbrev pub kinds_of : List StructDef → Kinds
kinds_of ds = more_kinds no_kinds 0 ds

-- the value has this type, whose structs are among these
abbrev pub Typed : List StructDef → Ty → Val → Type 0
Typed ds t v = HasLengths (kinds_of ds) t.lengths t.base v
