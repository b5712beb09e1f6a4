-- How many cells a type has.
use Rattle.std.specs.Prelude.{ℕ, ◌-◌, ◌*◌, ◌^◌, min, List, [], ◌∷◌, ◌++◌, slice_index, sum_by}
use Rattle.zir_tree.specs.declared.types.Base.{Base}
use Rattle.zir_tree.specs.declared.types.Base.TheVariants.{Unit, Bit, Bool, Int8, Int16, Int32, Int64, Complex16, Complex32, Struct}
use Rattle.zir_tree.specs.declared.types.Ty.{Ty}
use Rattle.zir_tree.specs.declared.types.StructDef.{StructDef}

-- how many innermost parts arrays of these lengths have
abbrev pub parts_in : List ℕ → ℕ
parts_in [] = 1
parts_in (n ∷ lengths) = n * parts_in lengths

-- the cells of a type that is no array, by the cells of the structs
abbrev pub base_cells : List ℕ → Base → ℕ
base_cells structs Unit = 0
base_cells structs Bit = 1
base_cells structs Bool = 1
base_cells structs Int8 = 1
base_cells structs Int16 = 1
base_cells structs Int32 = 1
base_cells structs Int64 = 1
base_cells structs Complex16 = 2
base_cells structs Complex32 = 2
base_cells structs (Struct k) = slice_index structs k

-- the cells of a type, by the cells of the structs
abbrev pub cells_in : List ℕ → Ty → ℕ
cells_in structs ty = parts_in ty.lengths * base_cells structs ty.base

-- the cells of each struct, after those of the structs before it
abbrev pub struct_cells : List ℕ → List StructDef → List ℕ
struct_cells before [] = before
struct_cells before (def ∷ defs) = struct_cells (before ++ sum_by (λ field. cells_in before field.ty) def.fields ∷ []) defs

-- the cells of a type whose structs are these
abbrev pub layout_of : List StructDef → Ty → ℕ
layout_of structs ty = cells_in (struct_cells [] structs) ty

-- a count of cells as 64 bits hold it: 2^64 - 1 where it is more
abbrev pub capped : ℕ → ℕ
capped n = min n (2 ^ 64 - 1)
