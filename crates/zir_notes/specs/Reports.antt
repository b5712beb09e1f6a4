-- What the report on an accepted program says, byte for byte.
use Rattle.std.specs.Prelude.{ℕ, List, [], ◌∷◌, ◌++◌, codes, decimal, slice_index_or, Option, Some, None}
use Rattle.zir_tree.specs.declared.types.Base.{Base}
use Rattle.zir_tree.specs.declared.types.Base.TheVariants.{Unit as UnitTy, Bit, Bool, Int8, Int16, Int32, Int64, Complex16, Complex32, Struct}
use Rattle.zir_tree.specs.declared.types.StructDef.{StructDef}
use Rattle.zir_tree.specs.declared.types.Ty.{Ty}
use Rattle.zir_tree.specs.declared.program.Core.{Core}

-- the name of the struct of this number, and no bytes where there is none
abbrev pub struct_words : List StructDef → ℕ → List ℕ
struct_words structs k = (slice_index_or structs k (record { name = []; fields = [] })).name

-- a type that is no array, as a program spells it; unit is `()`
abbrev pub base_words : List StructDef → Base → List ℕ
base_words structs UnitTy = codes "()"
base_words structs Bit = codes "bit"
base_words structs Bool = codes "bool"
base_words structs Int8 = codes "int8"
base_words structs Int16 = codes "int16"
base_words structs Int32 = codes "int32"
base_words structs Int64 = codes "int64"
base_words structs Complex16 = codes "complex16"
base_words structs Complex32 = codes "complex32"
base_words structs (Struct k) = struct_words structs k

-- a type: its arrays, the outermost first, and what the innermost holds
abbrev pub type_words : List StructDef → List ℕ → Base → List ℕ
type_words structs [] base = base_words structs base
type_words structs (n ∷ lengths) base = codes "arr[" ++ (decimal n ++ (codes "] " ++ type_words structs lengths base))

-- what a component is: it goes on for ever, or ends with a value of a type
abbrev pub kind_words : List StructDef → Option Ty → List ℕ
kind_words structs None = codes "transformer"
kind_words structs (Some t) = codes "computer " ++ type_words structs t.lengths t.base

-- the report: what is read, what is written, and what the component is
abbrev pub report_text : Core → List ℕ
report_text core =
    codes "in " ++ (type_words core.structs core.input.lengths core.input.base
    ++ (codes "\nout " ++ (type_words core.structs core.output.lengths core.output.base ++ (codes "\n" ++ (kind_words core.structs core.value ++ codes "\n")))))
