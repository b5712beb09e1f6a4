-- What it is for the code of expressions to be made.
use Rattle.std.specs.Prelude.{ℕ, pos, ◌+◌, ◌-◌, ◌<◌, ◌^◌, List, [], ◌∷◌, ◌++◌, Bool, true, false, Option, Some, None, Result, Ok, Err, max, ◌≡◌}
use Rattle.zir_tree.specs.declared.place.Place.{Place}
use Rattle.zir_tree.specs.declared.types.Base.{Base}
use Rattle.zir_tree.specs.declared.types.Base.TheVariants.{Unit as UnitTy}
use Rattle.zir_tree.specs.declared.types.Ty.{Ty}
use Rattle.zir_tree.specs.declared.expr.Operator.{Operator}
use Rattle.zir_tree.specs.declared.expr.Expr.{Expr}
use Rattle.zir_meaning.specs.Functions.{pick}
use Rattle.zir_cells.specs.Layout.{capped}
use Rattle.zir_shapes.specs.Offsets.{plain_type as plain, array_type as array_of}
use Rattle.zir_expr.specs.declared.frame.Spot.{Spot}
use Rattle.zir_expr.specs.declared.frame.Spot.TheVariants.{Local}
use Rattle.zir_expr.specs.declared.steps.Elements.{Elements}
use Rattle.zir_expr.specs.declared.steps.Step.{Step, Number}
use Rattle.zir_code.specs.declared.scope.Holder.{Holder}
use Rattle.zir_code.specs.Scopes.{Scope, shifted}
use Rattle.zir_code.specs.Types.{type_in, holder_type, part_type, part_offset, size_in}
use Rattle.zir_code.specs.Coding.{stands, code_of, is_rooted, width_if, root_if, copying, path_width, path_root, path_code, base_width, base_root, based, fixed, code_of_all, to_element, to_slice, operator_code}
use Rattle.zir_code.specs.Peaks.{peak_of, path_peak, peak_of_all, is_coded, is_path_coded, all_coded, counts_elements}
use Rattle.zir_compile.specs.declared.numbers.Unmade.{Unmade}
use Rattle.zir_compile.specs.declared.numbers.Unmade.TheVariants.{Memory, Large}
use Rattle.zir_compile.specs.declared.extent.Extent.{Extent}
use Rattle.zir_compile.specs.declared.made.Placed.{Placed}
use Rattle.zir_compile.specs.declared.made.Arguments.{Arguments}
use Rattle.zir_compile.specs.declared.made.Path.{Path}
use Rattle.zir_compile.specs.declared.made.Standing.{Standing}
use Rattle.zir_compile.specs.Extents.{type_at}
use Rattle.zir_compile.specs.Sides.{counts_seconds}

-- 32 bits hold all numbers of the code of an expression
pub record Fits (g : Scope) (e : Expr) (d : ℕ) : Type 0 where
  pub cells : peak_of g e d < 2 ^ 32
  pub numbers : is_coded g e d ≡ true

-- steps have grown by these, and a value stands at this spot
pub record Stands (added : List Step) (spot : Spot) (t : Ty) (size most : ℕ) (old new : List Step)
    (placed : Placed) : Type 0 where
  pub code : new ≡ old ++ added
  pub at : placed.at ≡ spot
  pub ty : type_at placed.ty ≡ t
  pub cells : placed.cells ≡ capped size
  pub peak : placed.peak ≡ most

-- steps have grown by the code of an expression, whose value stands where it should
abbrev pub Coded : Scope → Expr → ℕ → List Step → List Step → Placed → Type 0
Coded g e d old new placed =
    Stands (code_of g e d) (stands g e d) (type_in g e) (size_in g e) (peak_of g e d) old new placed

-- steps have grown by these, which leave the offset of a place in a cell
pub record Leads (added : List Step) (start : Spot) (cell : ℕ) (t : Ty) (most : ℕ) (old new : List Step)
    (path : Path) : Type 0 where
  pub code : new ≡ old ++ added
  pub root : path.root ≡ start
  pub offset : path.offset ≡ cell
  pub ty : type_at path.ty ≡ t
  pub peak : path.peak ≡ most

-- 32 bits hold all numbers of the code of a path
pub record PathFits (still : Bool) (g : Scope) (e : Expr) (d : ℕ) : Type 0 where
  pub cells : path_peak still g e d < 2 ^ 32
  pub numbers : is_path_coded still g e d ≡ true

-- steps have grown by the code of a path
abbrev pub Walked : Bool → Scope → Expr → ℕ → List Step → List Step → Path → Type 0
Walked still g e d old new path =
    Leads (path_code still g e d) (path_root still g e d) (d + path_width still g e) (type_in g e) (path_peak still g e d)
    old new path

-- the first cell behind all that the code of what is indexed or has parts uses
abbrev pub base_peak : Bool → Scope → Expr → ℕ → ℕ
base_peak still g a d = pick (is_rooted a) (path_peak still g a d) (max (peak_of g a d) (d + base_width still g a + 1))

-- 32 bits hold all its numbers
pub record BaseFits (still : Bool) (g : Scope) (a : Expr) (d : ℕ) : Type 0 where
  pub cells : base_peak still g a d < 2 ^ 32
  pub numbers : pick (is_rooted a) (is_path_coded still g a d) (is_coded g a d) ≡ true

-- 32 bits hold all numbers of the code of a value, and of a cell behind it
pub record ValueFits (g : Scope) (a : Expr) (d : ℕ) : Type 0 where
  pub value : Fits g a d
  pub offset : d + size_in g a + 1 < 2 ^ 32

-- steps have grown by it
abbrev pub Based : Bool → Scope → Expr → ℕ → List Step → List Step → Path → Type 0
Based still g a d old new path =
    Leads (based (is_rooted a) (path_code still g a d) (code_of g a d) (d + base_width still g a))
    (base_root still g a d) (d + base_width still g a) (type_in g a) (base_peak still g a d) old new path

-- an index, or a slice of so many, as steps take it
abbrev pub to_part : Scope → Ty → Option ℕ → ℕ → Spot → Place → Step
to_part g ty None o x p = to_element g ty o x p
to_part g ty (Some k) o x p = to_slice g ty k o x p

-- where its elements are looked for
abbrev pub elements_in : Option ℕ → ℕ → ℕ → Place → Elements
elements_in None n size p = record { room = n; size = size; code = 2; at = p }
elements_in (Some k) n size p = record { room = n + 1 - k; size = size; code = 3; at = p }

-- its type, by that of an element
abbrev pub type_of_part : Option ℕ → Ty → Ty
type_of_part None ty = ty
type_of_part (Some k) ty = array_of k ty

-- 32 bits hold all numbers of the code of an index into a value of this type, whose offset is in the cell o
pub record IndexFits (g : Scope) (i : Expr) (o : ℕ) (ty : Ty) : Type 0 where
  pub cells : peak_of g i (o + 1) < 2 ^ 32
  pub numbers : is_coded g i (o + 1) ≡ true
  pub elements : counts_elements g ty ≡ true

-- a value stands without code, at the root of the path to it, or has code
abbrev pub IsFixed : Scope → Expr → Option Standing → Type 0
IsFixed g e None = fixed g e ≡ None
IsFixed g e (Some value) =
    (fixed g e ≡ Some value.at) × (type_at value.ty ≡ type_in g e) × (is_rooted e ≡ true) ×
    ((d : ℕ) → (is_path_coded true g e d ≡ true) × (path_root true g e d ≡ value.at))

-- 32 bits do not hold the spot of a value, or memory ran out
abbrev pub IsBeyond : Scope → Expr → Unmade → Type 0
IsBeyond g e (Memory error) = Unit {0}
IsBeyond g e Large = (d : ℕ) → (is_rooted e ≡ true) × (is_path_coded true g e d ≡ false)

-- a value is found without code or has code, or 32 bits do not hold its spot, or memory ran out
abbrev pub Finds : Scope → Expr → Result (Option Standing) Unmade → Type 0
Finds g e (Ok found) = IsFixed g e found
Finds g e (Err why) = IsBeyond g e why

-- a variable stands where its holder says, or there is none
abbrev pub IsVariable : Option Holder → Option Standing → Type 0
IsVariable None None = Unit {0}
IsVariable None (Some value) = ⊥
IsVariable (Some holder) None = ⊥
IsVariable (Some holder) (Some value) = (value.at ≡ holder.spot) × (type_at value.ty ≡ holder.ty)

-- steps have grown by the code of the path to a variable
abbrev pub VariablePath : Bool → Option Holder → ℕ → List Step → List Step → Path → Type 0
VariablePath still found d old new path =
    let o = d + width_if still found in
    Leads (copying still found d ++ Number (Local o) (pos 0) ∷ []) (root_if still found d) o (holder_type found) (o + 1)
    old new path

-- a part of a value: where it stands, and its type
pub record IsPartOf (g : Scope) (root : Spot) (t : Ty) (k : ℕ) (part : Standing) : Type 0 where
  pub at : part.at ≡ shifted root (part_offset g.structs t k)
  pub ty : type_at part.ty ≡ part_type g.structs t k

-- the type of the first of these expressions, or one that is known already
abbrev pub first_from : Scope → Option Extent → List Expr → Ty
first_from g (Some extent) es = type_at extent
first_from g None [] = plain UnitTy
first_from g None (e ∷ es) = type_in g e

-- 32 bits hold all numbers of the code of arguments
pub record AllFit (g : Scope) (es : List Expr) (d : ℕ) : Type 0 where
  pub cells : peak_of_all g es d < 2 ^ 32
  pub numbers : all_coded g es d ≡ true

-- steps have grown by the code of arguments
pub record Arranged (g : Scope) (es : List Expr) (d : ℕ) (old new : List Step) (row : Arguments) : Type 0 where
  pub code : new ≡ old ++ code_of_all g es d
  pub first : type_at row.first ≡ first_from g None es
  pub peak : row.peak ≡ peak_of_all g es d

-- 32 bits hold all numbers of the code of the right side of an operator, whose left side stands in x
pub record SidesFit (g : Scope) (b : Expr) (free : ℕ) (x : Spot) (d : ℕ) : Type 0 where
  pub right : Fits g b free
  pub seconds : counts_seconds x (stands g b free) d

-- steps that had grown by the code of the left side have grown by that of the operator
abbrev pub Operated : Operator → Base → Place → Spot → Scope → Expr → ℕ → ℕ → List Step → List Step → ℕ → Type 0
Operated o t p x g b free d old new peak =
    (peak ≡ peak_of g b free) ×
    ((before first : List Step) → old ≡ before ++ first →
    new ≡ before ++ operator_code o t p x (stands g b free) d first (code_of g b free))

-- steps have grown by these, and this is the first cell behind all that they use
pub record Grows (added : List Step) (most : ℕ) (old new : List Step) (peak : ℕ) : Type 0 where
  pub code : new ≡ old ++ added
  pub end : peak ≡ most
