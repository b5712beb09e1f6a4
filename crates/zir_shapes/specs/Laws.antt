-- The laws of shapes: how many cells a value has, where those of its parts stand, and what values with other parts have.
use Rattle.std.specs.Prelude.{ℕ, ◌+◌, ◌*◌, ◌<◌, ◌≤◌, ℤ, pos, true, List, ◌++◌, Option, Some, None, ◌≡◌, length, slice_get, slice_set}
use Rattle.zir_tree.specs.declared.value.Val.{Val, List as Vals}
use Rattle.zir_tree.specs.declared.types.Base.{Base}
use Rattle.zir_tree.specs.declared.types.Ty.{Ty}
use Rattle.zir_tree.specs.declared.types.StructDef.{StructDef}
use Rattle.zir_cells.specs.Cells.{cells_of}
use Rattle.zir_cells.specs.Layout.{layout_of}
use Rattle.zir_meaning.specs.Values.{parts, blank, blanks_of, Each}
use Rattle.zir_meaning.specs.Operators.{part_of, with_part}
use Rattle.zir_meaning.specs.Evaluation.{element, range}
use Rattle.zir_meaning.specs.Statements.{overwritten}
use Rattle.zir_shapes.specs.Shapes.{Shaped, ShapedFields, IsNumber, IsPair, StructsBefore, Ordered}
use Rattle.zir_shapes.specs.Offsets.{array_type, plain_type, struct_type, is_whole, field_type, field_offset, complex_offset, overlaid, zeros, list_cells}

-- a value of this shape stands in these cells, behind so many others
pub record Stands (ds : List StructDef) (t : Ty) (v : Val) (cells : List ℤ) (offset : ℕ) : Type 0 where
  pub shape : Shaped ds t v
  pub before : List ℤ
  pub after : List ℤ
  pub split : cells ≡ before ++ (cells_of v ++ after)
  pub place : length before ≡ offset

-- a value of this shape was found, and stands in these cells, behind so many others
pub record Found (ds : List StructDef) (t : Ty) (result : Option Val) (cells : List ℤ) (offset : ℕ) : Type 0 where
  pub value : Val
  pub is : result ≡ Some value
  pub stands : Stands ds t value cells offset

-- a value has this shape, and these are its cells
pub record Has (ds : List StructDef) (t : Ty) (v : Val) (all : List ℤ) : Type 0 where
  pub shape : Shaped ds t v
  pub cells : cells_of v ≡ all

-- a value has as many cells as its type
abbrev pub SizesFit : Type 0
SizesFit = (ds : List StructDef) (t : Ty) (v : Val) → Shaped ds t v → length (cells_of v) ≡ layout_of ds t

-- an element inside an array is found, and its cells stand behind those of the elements before it
abbrev pub ElementsStand : Type 0
ElementsStand = (ds : List StructDef) (n : ℕ) (t : Ty) (v : Val) (i : ℕ) →
    Shaped ds (array_type n t) v → i < n →
    Found ds t (element (parts v) (pos i)) (cells_of v) (i * layout_of ds t)

-- from the length of an array on there is no element
abbrev pub ElementsEnd : Type 0
ElementsEnd = (ds : List StructDef) (n : ℕ) (t : Ty) (v : Val) (i : ℕ) →
    Shaped ds (array_type n t) v → n ≤ i → element (parts v) (pos i) ≡ None

-- so many elements inside an array are found, and their cells stand behind those of the elements before them
abbrev pub RangesStand : Type 0
RangesStand = (ds : List StructDef) (n : ℕ) (t : Ty) (v : Val) (i k : ℕ) →
    Shaped ds (array_type n t) v → i + k ≤ n →
    Found ds (array_type k t) (range (parts v) (pos i) k) (cells_of v) (i * layout_of ds t)

-- past the end of an array there are none
abbrev pub RangesEnd : Type 0
RangesEnd = (ds : List StructDef) (n : ℕ) (t : Ty) (v : Val) (i k : ℕ) →
    Shaped ds (array_type n t) v → n < i + k → range (parts v) (pos i) k ≡ None

-- the cells of a field stand behind those of the fields before it
abbrev pub FieldsStand : Type 0
FieldsStand = (ds : List StructDef) (j k : ℕ) (t : Ty) (v : Val) →
    Shaped ds (struct_type j) v → field_type ds j k ≡ Some t →
    Stands ds t (part_of k v) (cells_of v) (field_offset ds j k)

-- the cells of the real part of a complex number stand before those of the imaginary part
abbrev pub ComplexPartsStand : Type 0
ComplexPartsStand = (ds : List StructDef) (b : Base) (k : ℕ) (v : Val) →
    is_whole b ≡ true → IsPair v →
    Stands ds (plain_type b) (part_of k v) (cells_of v) (complex_offset k)

-- the cells of a list of values are theirs
abbrev pub ListsStand : Type 0
ListsStand = (vs : List Val) → cells_of (Vals vs) ≡ list_cells vs

-- values of one shape are an array
abbrev pub ArraysHave : Type 0
ArraysHave = (ds : List StructDef) (t : Ty) (vs : List Val) →
    Each (Shaped ds t) vs → Shaped ds (array_type (length vs) t) (Vals vs)

-- values of the shapes of a struct's fields are that struct
abbrev pub StructsHave : Type 0
StructsHave = (ds : List StructDef) (j : ℕ) (d : StructDef) (vs : List Val) →
    Ordered ds → slice_get ds j ≡ Some d → ShapedFields ds d.fields vs →
    Shaped ds (struct_type j) (Vals vs)

-- the value of a variable without an initial value has the shape of its type, in cells of 0
abbrev pub BlanksHave : Type 0
BlanksHave = (ds : List StructDef) (t : Ty) →
    Ordered ds → StructsBefore (length ds) t.base →
    Has ds t (blank (blanks_of ds) t) (zeros (layout_of ds t))

-- an array with another element keeps its shape, with the cells of the element over the old ones
abbrev pub ElementsReplaced : Type 0
ElementsReplaced = (ds : List StructDef) (n : ℕ) (t : Ty) (old new : Val) (i : ℕ) →
    Shaped ds (array_type n t) old → i < n → Shaped ds t new →
    Has ds (array_type n t) (Vals (slice_set (parts old) i new))
    (overlaid (cells_of old) (i * layout_of ds t) (cells_of new))

-- an array with other elements from one on keeps its shape, with their cells over the old ones
abbrev pub RangesReplaced : Type 0
RangesReplaced = (ds : List StructDef) (n : ℕ) (t : Ty) (old new : Val) (i k : ℕ) →
    Shaped ds (array_type n t) old → i + k ≤ n → Shaped ds (array_type k t) new →
    Has ds (array_type n t) (Vals (overwritten i (parts new) (parts old)))
    (overlaid (cells_of old) (i * layout_of ds t) (cells_of new))

-- a struct with another field keeps its shape, with the cells of the field over the old ones
abbrev pub FieldsReplaced : Type 0
FieldsReplaced = (ds : List StructDef) (j k : ℕ) (t : Ty) (old new : Val) →
    Shaped ds (struct_type j) old → field_type ds j k ≡ Some t → Shaped ds t new →
    Has ds (struct_type j) (with_part k new old) (overlaid (cells_of old) (field_offset ds j k) (cells_of new))

-- a complex number with another part is one, with the cell of the part over the old one
abbrev pub ComplexPartsReplaced : Type 0
ComplexPartsReplaced = (k : ℕ) (old new : Val) → IsPair old → IsNumber new →
    IsPair (with_part k new old)
    × (cells_of (with_part k new old) ≡ overlaid (cells_of old) (complex_offset k) (cells_of new))

-- cells over all of those between others
abbrev pub OverlaidBetween : Type 0
OverlaidBetween = (before mid after ys : List ℤ) → length ys ≡ length mid →
    overlaid (before ++ (mid ++ after)) (length before) ys ≡ before ++ (ys ++ after)

-- cells over a part of those between others
abbrev pub OverlaidInside : Type 0
OverlaidInside = (before mid after : List ℤ) (o : ℕ) (ys : List ℤ) → o + length ys ≤ length mid →
    overlaid (before ++ (mid ++ after)) (length before) (overlaid mid o ys)
    ≡ overlaid (before ++ (mid ++ after)) (length before + o) ys
