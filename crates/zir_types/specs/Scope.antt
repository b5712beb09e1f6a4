-- What is in scope, and what a name means there.
use Rattle.std.specs.Prelude.{ℕ, suc, ◌+◌, ◌*◌, min, List, [], ◌∷◌, ◌++◌, map, Bool, not, Option, Some, None, nat_eq, slice_get, if◌then◌else◌}
use Rattle.std.specs.Str.{bytes_eq}
use Rattle.zir_tree.specs.declared.ident.Ident.{Ident}
use Rattle.zir_tree.specs.declared.types.Base.{Base}
use Rattle.zir_tree.specs.declared.types.Base.TheVariants.{Unit as UnitTy, Bit as BitTy, Bool as BoolTy, Int8, Int16, Int32, Int64, Complex16}
use Rattle.zir_tree.specs.declared.types.Base.TheVariants.{Complex32, Struct as StructTy}
use Rattle.zir_tree.specs.declared.types.Ty.{Ty}
use Rattle.zir_tree.specs.declared.types.Dimension.{Dimension}
use Rattle.zir_tree.specs.declared.types.TypeExpr.{TypeExpr}
use Rattle.zir_tree.specs.declared.types.FieldDef.{FieldDef}
use Rattle.zir_tree.specs.declared.expr.Callee.TheVariants.{Function as FunctionCallee, Struct as StructCallee}
use Rattle.zir_types.specs.declared.scope.Seen.{Seen}
use Rattle.zir_types.specs.declared.scope.Shape.{Shape}
use Rattle.zir_types.specs.declared.scope.Signature.{Signature}
use Rattle.zir_types.specs.declared.typed.Called.{Called}
use Rattle.zir_types.specs.declared.typed.Selected.{Selected}
use Rattle.zir_types.specs.declared.typed.Written.{Written}
use Rattle.zir_types.specs.declared.error.TypeError.TheVariants.{Mismatch}
use Rattle.zir_types.specs.Walk.{Walk, Fine, Broken}
use Rattle.zir_types.specs.Kinds.{scalar, half_of}

-- What a part of a program sees, each in the order of the text.
pub record Visible : Type 0 where
  pub shapes : List Shape
  pub functions : List Signature
  pub variables : List Seen

-- Before a program nothing is in scope.
abbrev pub nothing : Visible
nothing = record { shapes = []; functions = []; variables = [] }

-- More variables come into scope.
abbrev pub declare : List Seen → Visible → Visible
declare vs g = record { shapes = g.shapes; functions = g.functions; variables = g.variables ++ vs }

-- A variable of this number and type.
abbrev pub variable : ℕ → Ty → Seen
variable id t = record { id = id; ty = t }

-- The type of the variable of this number.
abbrev pub type_in : List Seen → ℕ → Option Ty
type_in [] id = None
type_in (v ∷ vs) id = if nat_eq v.id id then Some v.ty else type_in vs id

-- A function or a struct with its place among those of its kind.
pub record Placed (A : Type 0) : Type 0 where
  pub place : ℕ
  pub item : A

-- The function of this number, where so many stand before these.
abbrev pub function_from : ℕ → List Signature → ℕ → Option (Placed Signature)
function_from n [] id = None
function_from n (s ∷ ss) id = if nat_eq s.id id then Some (record { place = n; item = s }) else function_from (suc n) ss id

-- The struct of this number, where so many stand before these.
abbrev pub shape_from : ℕ → List Shape → ℕ → Option (Placed Shape)
shape_from n [] id = None
shape_from n (s ∷ ss) id = if nat_eq s.id id then Some (record { place = n; item = s }) else shape_from (suc n) ss id

-- The types of the fields of a struct.
abbrev pub field_types : List FieldDef → List Ty
field_types fs = map (λ f. f.ty) fs

-- A call of a function.
abbrev pub function_called : Placed Signature → Called
function_called f = record { callee = FunctionCallee f.place; params = f.item.params; result = f.item.result }

-- A call of a struct, whose parameters are its fields.
abbrev pub struct_called : Placed Shape → Called
struct_called s = record { callee = StructCallee s.place; params = field_types s.item.def.fields; result = scalar (StructTy s.place) }

-- A struct, where it is there.
abbrev pub struct_or_none : Option (Placed Shape) → Option Called
struct_or_none None = None
struct_or_none (Some s) = Some (struct_called s)

-- A function, and else a struct.
abbrev pub function_or_struct : Option (Placed Signature) → Option (Placed Shape) → Option Called
function_or_struct (Some f) s = Some (function_called f)
function_or_struct None s = struct_or_none s

-- What a call in an expression calls.
abbrev pub called_in : Visible → ℕ → Option Called
called_in g id = function_or_struct (function_from 0 g.functions id) (shape_from 0 g.shapes id)

-- The field of this name, where so many stand before these.
abbrev pub field_from : ℕ → List FieldDef → List ℕ → Option Selected
field_from n [] name = None
field_from n (f ∷ fs) name = if bytes_eq f.name name then Some (record { place = n; ty = f.ty }) else field_from (suc n) fs name

-- The fields of a struct of this name.
abbrev pub field_of : Option Shape → List ℕ → Option Selected
field_of None name = None
field_of (Some s) name = field_from 0 s.def.fields name

-- The real part of a complex number, `re`, or the imaginary part, `im`.
abbrev pub half_part : Option Base → List ℕ → Option Selected
half_part None name = None
half_part (Some half) name =
    if bytes_eq name (114 ∷ 101 ∷ []) then Some (record { place = 0; ty = scalar half })
    else if bytes_eq name (105 ∷ 109 ∷ []) then Some (record { place = 1; ty = scalar half })
    else None

-- The part of this name of a value of a base type.
abbrev pub part_of_base : List Shape → Base → List ℕ → Option Selected
part_of_base ss UnitTy name = None
part_of_base ss BitTy name = None
part_of_base ss BoolTy name = None
part_of_base ss Int8 name = None
part_of_base ss Int16 name = None
part_of_base ss Int32 name = None
part_of_base ss Int64 name = None
part_of_base ss Complex16 name = half_part (half_of Complex16) name
part_of_base ss Complex32 name = half_part (half_of Complex32) name
part_of_base ss (StructTy k) name = field_of (slice_get ss k) name

-- The part of this name of a value of a type; an array has none.
abbrev pub part_if : List Shape → List ℕ → Base → List ℕ → Option Selected
part_if ss [] b name = part_of_base ss b name
part_if ss (n ∷ ns) b name = None

-- The part of this name of a value of a type.
abbrev pub part_in : List Shape → Ty → List ℕ → Option Selected
part_in ss t name = part_if ss t.lengths t.base name

-- The base that a written type without a name has; a struct is written by its name alone.
abbrev pub plain : Base → Option Base
plain UnitTy = Some UnitTy
plain BitTy = Some BitTy
plain BoolTy = Some BoolTy
plain Int8 = Some Int8
plain Int16 = Some Int16
plain Int32 = Some Int32
plain Int64 = Some Int64
plain Complex16 = Some Complex16
plain Complex32 = Some Complex32
plain (StructTy k) = None

-- The base of a struct, where it is there.
abbrev pub struct_base : Option (Placed Shape) → Option Base
struct_base None = None
struct_base (Some s) = Some (StructTy s.place)

-- The base of a written type: that of its word, or the struct that its name means.
abbrev pub base_in : List Shape → Option Ident → Base → Option Base
base_in ss None b = plain b
base_in ss (Some name) b = struct_base (shape_from 0 ss name.id)

-- The lengths of written arrays.
abbrev pub lengths_of : List Dimension → List ℕ
lengths_of ds = map (λ d. d.length) ds

-- A written type with its base.
abbrev pub written_if : Option Base → TypeExpr → Walk Written
written_if None t = Broken (Mismatch t.at)
written_if (Some b) t = Fine (record {
  what = record { dimensions = t.dimensions; base = b; name = t.name; at = t.at };
  ty = record { lengths = lengths_of t.dimensions; base = b };
})

-- A written type, and the type that it is.
abbrev pub written : List Shape → TypeExpr → Walk Written
written ss t = written_if (base_in ss t.name t.base) t

-- Cells are counted up to one more than a type may have.
abbrev pub capped : ℕ → ℕ
capped n = min n 65537

-- The cells of a struct of these, and none where there is none.
abbrev pub shape_cells : Option Shape → ℕ
shape_cells None = 0
shape_cells (Some s) = s.cells

-- The cells of a base type: one for a bit, a truth value and a whole number, two for a complex one.
abbrev pub base_cells : List Shape → Base → ℕ
base_cells ss UnitTy = 0
base_cells ss BitTy = 1
base_cells ss BoolTy = 1
base_cells ss Int8 = 1
base_cells ss Int16 = 1
base_cells ss Int32 = 1
base_cells ss Int64 = 1
base_cells ss Complex16 = 2
base_cells ss Complex32 = 2
base_cells ss (StructTy k) = shape_cells (slice_get ss k)

-- The cells of arrays of these lengths over elements of so many cells.
abbrev pub array_cells : List ℕ → ℕ → ℕ
array_cells [] n = n
array_cells (m ∷ ms) n = capped (m * array_cells ms n)

-- The cells of a type, with 65,537 for every greater number.
abbrev pub cells_in : List Shape → Ty → ℕ
cells_in ss t = array_cells t.lengths (base_cells ss t.base)

-- The cells of some types together.
abbrev pub all_cells : List Shape → List Ty → ℕ
all_cells ss [] = 0
all_cells ss (t ∷ ts) = capped (cells_in ss t + all_cells ss ts)

-- Whether a type has cells.
abbrev pub has_cells : List Shape → Ty → Bool
has_cells ss t = not (nat_eq (cells_in ss t) 0)
