-- Worked rows of offsets: a small struct whose layout is known, and cells over others, computed from the definitions.
use Rattle.std.specs.Prelude.{◌≡◌, refl, pos, List, [], ◌∷◌, Some, None, codes}
use Rattle.zir_tree.specs.declared.types.Base.TheVariants.{Bit, Int32, Complex16}
use Rattle.zir_tree.specs.declared.types.StructDef.{StructDef}
use Rattle.zir_cells.specs.Layout.{layout_of}
use Rattle.zir_shapes.specs.Offsets.{array_type, plain_type, struct_type, field_type, field_offset, overlaid, zeros}

-- struct Pulse = { at : int32; bits : arr[4] bit }, and
-- struct Both = { size : complex16; left : arr[2] Pulse; last : bit }
abbrev structs : List StructDef
structs =
    record {
      name = codes "Pulse";
      fields = record { name = codes "at"; ty = plain_type Int32 }
          ∷ record { name = codes "bits"; ty = array_type 4 (plain_type Bit) } ∷ [];
    }
    ∷ record {
      name = codes "Both";
      fields = record { name = codes "size"; ty = plain_type Complex16 }
          ∷ record { name = codes "left"; ty = array_type 2 (struct_type 0) }
          ∷ record { name = codes "last"; ty = plain_type Bit } ∷ [];
    }
    ∷ []

-- a struct has the cells of its fields
pub layout_row : layout_of structs (struct_type 1) ≡ 13
layout_row = refl

-- the first field stands at the front
pub first_row : field_offset structs 1 0 ≡ 0
first_row = refl

-- the last field stands behind two structs of five cells each
pub last_row : field_offset structs 1 2 ≡ 12
last_row = refl

-- the type of a field
pub type_row : field_type structs 1 1 ≡ Some (array_type 2 (struct_type 0))
type_row = refl

-- a struct has no field behind its last one
pub no_field_row : field_type structs 0 2 ≡ None
no_field_row = refl

-- there is no third struct
pub no_struct_row : field_type structs 2 0 ≡ None
no_struct_row = refl

-- two cells over the second and the third
pub overlaid_row : overlaid (pos 1 ∷ pos 2 ∷ pos 3 ∷ pos 4 ∷ []) 1 (pos 8 ∷ pos 9 ∷ []) ≡
    pos 1 ∷ pos 8 ∷ pos 9 ∷ pos 4 ∷ []
overlaid_row = refl

-- three cells of 0
pub zeros_row : zeros 3 ≡ pos 0 ∷ pos 0 ∷ pos 0 ∷ []
zeros_row = refl
