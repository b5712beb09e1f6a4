-- Where the cells of parts stand, and cells with others written over them.
use Rattle.std.specs.Prelude.{ℕ, zero, suc, ◌+◌, ℤ, pos, Bool, true, false, List, [], ◌∷◌, ◌++◌, Option, Some, None, take, drop, length, slice_get, replicate, sum_by}
use Rattle.zir_tree.specs.declared.value.Val.{Val}
use Rattle.zir_tree.specs.declared.types.Base.{Base}
use Rattle.zir_tree.specs.declared.types.Base.TheVariants.{Unit as UnitTy, Bit as BitTy, Bool as BoolTy, Int8, Int16, Int32, Int64, Complex16, Complex32, Struct as StructTy}
use Rattle.zir_tree.specs.declared.types.Ty.{Ty}
use Rattle.zir_tree.specs.declared.types.FieldDef.{FieldDef}
use Rattle.zir_tree.specs.declared.types.StructDef.{StructDef}
use Rattle.zir_cells.specs.Cells.{cells_of}
use Rattle.zir_cells.specs.Layout.{layout_of}

-- the type of an array of so many of a type
abbrev pub array_type : ℕ → Ty → Ty
array_type n t = record { lengths = n ∷ t.lengths; base = t.base }

-- a type that is no array
abbrev pub plain_type : Base → Ty
plain_type b = record { lengths = []; base = b }

-- the type of the struct at this place
abbrev pub struct_type : ℕ → Ty
struct_type j = plain_type (StructTy j)

-- a type of whole numbers
abbrev pub is_whole : Base → Bool
is_whole UnitTy = false
is_whole BitTy = false
is_whole BoolTy = false
is_whole Int8 = true
is_whole Int16 = true
is_whole Int32 = true
is_whole Int64 = true
is_whole Complex16 = false
is_whole Complex32 = false
is_whole (StructTy k) = false

-- the fields of a struct that was found
abbrev pub fields_in : Option StructDef → List FieldDef
fields_in None = []
fields_in (Some d) = d.fields

-- the fields of the struct at this place, and none where there is no such struct
abbrev pub fields_of : List StructDef → ℕ → List FieldDef
fields_of ds j = fields_in (slice_get ds j)

-- the type of a field that was found
abbrev pub type_in : Option FieldDef → Option Ty
type_in None = None
type_in (Some f) = Some f.ty

-- the type of the k-th field of the j-th struct, and none where there is no such field
abbrev pub field_type : List StructDef → ℕ → ℕ → Option Ty
field_type ds j k = type_in (slice_get (fields_of ds j) k)

-- how many cells the fields before the k-th of the j-th struct have
abbrev pub field_offset : List StructDef → ℕ → ℕ → ℕ
field_offset ds j k = sum_by (λ f. layout_of ds f.ty) (take k (fields_of ds j))

-- how many cells stand before a part of a complex number
abbrev pub complex_offset : ℕ → ℕ
complex_offset zero = 0
complex_offset (suc k) = 1

-- these cells with others from a place on
abbrev pub overlaid : List ℤ → ℕ → List ℤ → List ℤ
overlaid xs o ys = take o xs ++ (ys ++ drop (o + length ys) xs)

-- so many cells of 0
abbrev pub zeros : ℕ → List ℤ
zeros n = replicate n (pos 0)

-- the cells of these values, one after the other
abbrev pub list_cells : List Val → List ℤ
list_cells [] = []
list_cells (v ∷ vs) = cells_of v ++ list_cells vs
