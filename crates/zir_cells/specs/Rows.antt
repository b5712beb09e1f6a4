-- Worked rows of cells: small values and types whose cells are known, computed from the definitions.
use Rattle.std.specs.Prelude.{◌≡◌, refl, pos, negsuc, true, false, List, [], ◌∷◌, codes}
use denote.Hole.Carrier.{hidden}
use Rattle.zir_tree.specs.declared.types.Base.TheVariants.{Unit, Bit, Bool, Int32, Complex16, Struct}
use Rattle.zir_tree.specs.declared.types.StructDef.{StructDef}
use Rattle.zir_tree.specs.declared.value.Val.{Unit as UnitVal, Bit as BitVal, Bool as BoolVal, Num, Pair, List as ListVal}
use Rattle.zir_tree.specs.declared.value.Val.TheBlock.{shape-the_row-Val-0, hidden-the_row-Val-0}
use Rattle.zir_cells.specs.Cells.{cells_of}
use Rattle.zir_cells.specs.Layout.{layout_of}

-- each kind of value, in a list
pub cells_row : cells_of (ListVal (Num (negsuc 4) ∷ UnitVal ∷ BitVal true ∷ BoolVal false ∷ ListVal (Pair (pos 3) (negsuc 0) ∷ []) ∷ [])) ≡
    negsuc 4 ∷ pos 1 ∷ pos 0 ∷ pos 3 ∷ negsuc 0 ∷ []
unfolding shape-the_row-Val-0 hidden-the_row-Val-0 hidden
cells_row = refl

-- arrays of arrays of complex numbers
pub array_row : layout_of [] (record { lengths = 2 ∷ 3 ∷ []; base = Complex16 }) ≡ 12
array_row = refl

-- struct Pulse = { at : int32; bits : arr[4] bit }, and struct Both = { left : Pulse; on : bool; none : arr[3] of unit }
abbrev structs : List StructDef
structs =
    record {
      name = codes "Pulse";
      fields = record { name = codes "at"; ty = record { lengths = []; base = Int32 } }
          ∷ record { name = codes "bits"; ty = record { lengths = 4 ∷ []; base = Bit } } ∷ [];
    }
    ∷ record {
      name = codes "Both";
      fields = record { name = codes "left"; ty = record { lengths = []; base = Struct 0 } }
          ∷ record { name = codes "on"; ty = record { lengths = []; base = Bool } }
          ∷ record { name = codes "none"; ty = record { lengths = 3 ∷ []; base = Unit } } ∷ [];
    }
    ∷ []

-- a struct is the sum of its fields, and an array so many times that
pub struct_row : layout_of structs (record { lengths = 10 ∷ []; base = Struct 1 }) ≡ 60
struct_row = refl
