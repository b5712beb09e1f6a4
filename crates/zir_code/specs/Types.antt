-- The types of expressions, as code finds them in scope.
use Rattle.std.specs.Prelude.{ℕ, suc, List, [], ◌∷◌, Option, Some, None}
use Rattle.zir_tree.specs.declared.types.Base.{Base}
use Rattle.zir_tree.specs.declared.types.Base.TheVariants.{Unit as UnitTy, Bit as BitTy, Bool as BoolTy, Int8, Int16, Int32, Int64, Complex16, Complex32, Struct as StructTy}
use Rattle.zir_tree.specs.declared.types.Ty.{Ty}
use Rattle.zir_tree.specs.declared.types.StructDef.{StructDef}
use Rattle.zir_tree.specs.declared.expr.Operator.{Operator}
use Rattle.zir_tree.specs.declared.expr.Operator.TheVariants.{Or, And, BitOr, BitXor, BitAnd, Equal, NotEqual, Less, LessEqual, Greater, GreaterEqual, ShiftLeft, ShiftRight, Add, Subtract, Multiply, Divide, Remainder}
use Rattle.zir_tree.specs.declared.expr.Callee.{Callee}
use Rattle.zir_tree.specs.declared.expr.Callee.TheVariants.{Function, Struct}
use Rattle.zir_tree.specs.declared.expr.Expr.{Expr, Unit, Bit, Bool as BoolLiteral, Int, Variable, Unary', Binary', Index', Slice', Part', Call', Array', Convert', Complex', Row_of-Expr, end_of-Expr, more_of-Expr}
use Rattle.zir_cells.specs.Layout.{layout_of}
use Rattle.zir_shapes.specs.Offsets.{plain_type as plain, array_type as array_of, complex_offset, field_type, field_offset}
use Rattle.zir_code.specs.declared.scope.Holder.{Holder}
use Rattle.zir_code.specs.declared.scope.Signature.{Signature}
use Rattle.zir_code.specs.Scopes.{Scope, variable}

-- the type of what an operator answers whose left side has this type
abbrev pub operator_type : Operator → Base → Base
operator_type Or t = BoolTy
operator_type And t = BoolTy
operator_type BitOr t = t
operator_type BitXor t = t
operator_type BitAnd t = t
operator_type Equal t = BoolTy
operator_type NotEqual t = BoolTy
operator_type Less t = BoolTy
operator_type LessEqual t = BoolTy
operator_type Greater t = BoolTy
operator_type GreaterEqual t = BoolTy
operator_type ShiftLeft t = t
operator_type ShiftRight t = t
operator_type Add t = t
operator_type Subtract t = t
operator_type Multiply t = t
operator_type Divide t = t
operator_type Remainder t = t

-- how many elements an array has; none where it is no array
abbrev pub first_length : List ℕ → ℕ
first_length [] = 0
first_length (n ∷ ns) = n

-- the lengths inside an array
abbrev pub inner_lengths : List ℕ → List ℕ
inner_lengths [] = []
inner_lengths (n ∷ ns) = ns

-- the type of an element of an array
abbrev pub element_type : Ty → Ty
element_type ty = record { lengths = inner_lengths ty.lengths; base = ty.base }

-- the type of a field, and unit where there is none
abbrev pub type_or_unit : Option Ty → Ty
type_or_unit None = plain UnitTy
type_or_unit (Some ty) = ty

-- the type of a part of what is no array: a field of a struct, or a part of a complex number
abbrev pub base_part_type : List StructDef → Base → ℕ → Ty
base_part_type structs UnitTy k = plain UnitTy
base_part_type structs BitTy k = plain UnitTy
base_part_type structs BoolTy k = plain UnitTy
base_part_type structs Int8 k = plain UnitTy
base_part_type structs Int16 k = plain UnitTy
base_part_type structs Int32 k = plain UnitTy
base_part_type structs Int64 k = plain UnitTy
base_part_type structs Complex16 k = plain Int16
base_part_type structs Complex32 k = plain Int32
base_part_type structs (StructTy j) k = type_or_unit (field_type structs j k)

-- how many cells stand before a part of what is no array
abbrev pub base_part_offset : List StructDef → Base → ℕ → ℕ
base_part_offset structs UnitTy k = 0
base_part_offset structs BitTy k = 0
base_part_offset structs BoolTy k = 0
base_part_offset structs Int8 k = 0
base_part_offset structs Int16 k = 0
base_part_offset structs Int32 k = 0
base_part_offset structs Int64 k = 0
base_part_offset structs Complex16 k = complex_offset k
base_part_offset structs Complex32 k = complex_offset k
base_part_offset structs (StructTy j) k = field_offset structs j k

-- the type of a part, and unit where there is none
abbrev pub part_type : List StructDef → Ty → ℕ → Ty
part_type structs ty k = base_part_type structs ty.base k

-- how many cells stand before a part
abbrev pub part_offset : List StructDef → Ty → ℕ → ℕ
part_offset structs ty k = base_part_offset structs ty.base k

-- the type of a variable's value
abbrev pub holder_type : Option Holder → Ty
holder_type None = plain UnitTy
holder_type (Some v) = v.ty

-- the type of what a function answers
abbrev pub result_type : Option Signature → Ty
result_type None = plain UnitTy
result_type (Some f) = f.result

-- the type of what a call answers
abbrev pub callee_type : Scope → Callee → Ty
callee_type g (Function k) = result_type (g.funs k)
callee_type g (Struct k) = plain (StructTy k)

-- how many expressions there are
abbrev pub count_of : {k : _} → Row_of-Expr k → ℕ
count_of end_of-Expr = 0
count_of (more_of-Expr e es) = suc (count_of es)

abbrev mutual
  -- the type of an expression; of a typed one its own
  pub type_in : Scope → Expr → Ty
  type_in g (Unit p) = plain UnitTy
  type_in g (Bit b p) = plain BitTy
  type_in g (BoolLiteral b p) = plain BoolTy
  type_in g (Int n t p) = plain t
  type_in g (Variable x) = holder_type (variable g x.id)
  type_in g (Unary' o t _ a p) = plain t
  type_in g (Binary' o t _ a _ b p) = plain (operator_type o t)
  type_in g (Index' _ (more_of-Expr a end_of-Expr) _ i p) = element_type (type_in g a)
  type_in g (Slice' _ (more_of-Expr a end_of-Expr) _ i k p) = array_of k (element_type (type_in g a))
  type_in g (Part' _ (more_of-Expr a end_of-Expr) name k p) = part_type g.structs (type_in g a) k
  type_in g (Call' name callee _ es) = callee_type g callee
  type_in g (Array' _ es p) = array_of (count_of es) (first_type g es)
  type_in g (Convert' t _ a p) = plain t
  type_in g (Complex' t _ a _ b p) = plain t

  -- the type of the first of these expressions, and unit where there is none
  pub first_type : {k : _} → Scope → Row_of-Expr k → Ty
  first_type g end_of-Expr = plain UnitTy
  first_type g (more_of-Expr e es) = type_in g e

-- how many cells a type has in scope
abbrev pub cells_for : Scope → Ty → ℕ
cells_for g ty = layout_of g.structs ty

-- how many cells the value of an expression has
abbrev pub size_in : Scope → Expr → ℕ
size_in g e = cells_for g (type_in g e)
