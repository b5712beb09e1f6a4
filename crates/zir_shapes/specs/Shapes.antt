-- Shapes: which values a type can have, whatever the sizes of their numbers.
use Rattle.std.specs.Prelude.{ℕ, suc, ◌<◌, ℤ, List, [], ◌∷◌, ◌≡◌, nat_eq}
use Rattle.zir_tree.specs.declared.value.Val.{Val, Num, Pair, List as Vals}
use Rattle.zir_tree.specs.declared.types.Base.{Base}
use Rattle.zir_tree.specs.declared.types.Base.TheVariants.{Unit as UnitTy, Bit as BitTy, Bool as BoolTy, Int8, Int16, Int32, Int64, Complex16, Complex32, Struct as StructTy}
use Rattle.zir_tree.specs.declared.types.Ty.{Ty}
use Rattle.zir_tree.specs.declared.types.FieldDef.{FieldDef}
use Rattle.zir_tree.specs.declared.types.StructDef.{StructDef}
use Rattle.zir_meaning.specs.Values.{Kinds, IsUnit, IsBit, IsBool, IsArray, no_kinds, either_holds}

-- the value is a whole number
abbrev pub IsNumber : Val → Type 0
IsNumber v = (n : ℤ) × (v ≡ Num n)

-- the value is a complex number
abbrev pub IsPair : Val → Type 0
IsPair v = (a : ℤ) × (b : ℤ) × (v ≡ Pair a b)

-- the value has the shape of this type, which is no array
abbrev pub BaseShape : Kinds → Base → Val → Type 0
BaseShape kinds UnitTy v = IsUnit v
BaseShape kinds BitTy v = IsBit v
BaseShape kinds BoolTy v = IsBool v
BaseShape kinds Int8 v = IsNumber v
BaseShape kinds Int16 v = IsNumber v
BaseShape kinds Int32 v = IsNumber v
BaseShape kinds Int64 v = IsNumber v
BaseShape kinds Complex16 v = IsPair v
BaseShape kinds Complex32 v = IsPair v
BaseShape kinds (StructTy k) v = kinds k v

-- the value is an array of arrays of these lengths, whose innermost parts have the shape of this type
abbrev pub LengthsShape : Kinds → List ℕ → Base → Val → Type 0
LengthsShape kinds [] b v = BaseShape kinds b v
LengthsShape kinds (n ∷ ns) b v = IsArray (LengthsShape kinds ns b) n v

-- the values have the shapes of these fields, one for one
abbrev pub FieldsShape : Kinds → List FieldDef → List Val → Type 0
FieldsShape kinds [] [] = Unit {0}
FieldsShape kinds [] (v ∷ vs) = ⊥
FieldsShape kinds (f ∷ fs) [] = ⊥
FieldsShape kinds (f ∷ fs) (v ∷ vs) = LengthsShape kinds f.ty.lengths f.ty.base v × FieldsShape kinds fs vs

-- the value is a struct whose fields have these shapes
abbrev pub StructShape : Kinds → List FieldDef → Val → Type 0
StructShape kinds fs v = (vs : List Val) × (v ≡ Vals vs) × FieldsShape kinds fs vs

-- the shapes of one more struct, behind n others
abbrev pub one_more_shape : Kinds → ℕ → StructDef → Kinds
one_more_shape kinds n d k v = either_holds (nat_eq k n) (StructShape kinds d.fields v) (kinds k v)

-- the shapes of these structs behind n others, each over those before it
abbrev pub more_shapes : Kinds → ℕ → List StructDef → Kinds
more_shapes kinds n [] = kinds
more_shapes kinds n (d ∷ ds) = more_shapes (one_more_shape kinds n d) (suc n) ds

-- the shape of each of these structs
abbrev pub shapes_of : List StructDef → Kinds
shapes_of ds = more_shapes no_kinds 0 ds

-- the value has the shape of this type, whose structs are among these
abbrev pub Shaped : List StructDef → Ty → Val → Type 0
Shaped ds t v = LengthsShape (shapes_of ds) t.lengths t.base v

-- the values have the shapes of these fields, whose structs are among these
abbrev pub ShapedFields : List StructDef → List FieldDef → List Val → Type 0
ShapedFields ds fs vs = FieldsShape (shapes_of ds) fs vs

-- the type names no struct but the first n
abbrev pub StructsBefore : ℕ → Base → Type 0
StructsBefore n UnitTy = Unit {0}
StructsBefore n BitTy = Unit {0}
StructsBefore n BoolTy = Unit {0}
StructsBefore n Int8 = Unit {0}
StructsBefore n Int16 = Unit {0}
StructsBefore n Int32 = Unit {0}
StructsBefore n Int64 = Unit {0}
StructsBefore n Complex16 = Unit {0}
StructsBefore n Complex32 = Unit {0}
StructsBefore n (StructTy k) = k < n

-- each of these fields names no struct but the first n
abbrev pub FieldsBefore : ℕ → List FieldDef → Type 0
FieldsBefore n [] = Unit {0}
FieldsBefore n (f ∷ fs) = StructsBefore n f.ty.base × FieldsBefore n fs

-- the fields of each of these structs, which stand behind n others, name structs before it alone
abbrev pub OrderedFrom : ℕ → List StructDef → Type 0
OrderedFrom n [] = Unit {0}
OrderedFrom n (d ∷ ds) = FieldsBefore n d.fields × OrderedFrom (suc n) ds

-- the fields of each struct name structs before it alone
abbrev pub Ordered : List StructDef → Type 0
Ordered ds = OrderedFrom 0 ds
