-- Which expressions are well typed, and with which type.
use Rattle.std.specs.Prelude.{ℕ, ◌+◌, ◌≤◌, List, [], ◌∷◌, Some, ◌≡◌, ◌⊎◌, map, length, slice_get}
use Rattle.zir_tree.specs.declared.types.Base.{Base}
use Rattle.zir_tree.specs.declared.types.Base.TheVariants.{Unit as UnitTy, Bit as BitTy, Bool as BoolTy, Int8, Int16, Int32, Int64, Complex16, Complex32, Struct as StructTy}
use Rattle.zir_tree.specs.declared.expr.Operator.{Operator}
use Rattle.zir_tree.specs.declared.expr.Operator.TheVariants.{Or, And, BitOr, BitXor, BitAnd, Equal, NotEqual, Less, LessEqual, Greater, GreaterEqual, ShiftLeft, ShiftRight, Add, Subtract, Multiply, Divide, Remainder}
use Rattle.zir_tree.specs.declared.expr.Prefix.{Prefix}
use Rattle.zir_tree.specs.declared.expr.Prefix.TheVariants.{Minus, Complement, Not}
use Rattle.zir_tree.specs.declared.expr.Expr.{Expr, Unit as UnitLiteral, Bit, Bool as BoolLiteral, Int, Variable, Unary', Binary', Index', Slice', Part', Call', Array', Convert', Complex', Row_of-Expr, end_of-Expr, more_of-Expr}
use Rattle.zir_tree.specs.declared.types.Ty.{Ty}
use Rattle.zir_tree.specs.declared.types.StructDef.{StructDef}
use Rattle.zir_shapes.specs.Shapes.{StructsBefore}
use Rattle.zir_shapes.specs.Offsets.{plain_type as plain, array_type as array_of, field_type}
use Rattle.zir_expr.specs.declared.frame.Spot.{Spot}
use Rattle.zir_expr.specs.declared.frame.Spot.TheVariants.{Top, Local}
use Rattle.zir_tree.specs.declared.expr.Callee.TheVariants.{Function, Struct}
use Rattle.zir_code.specs.declared.scope.Holder.{Holder}
use Rattle.zir_code.specs.declared.scope.Signature.{Signature}
use Rattle.zir_code.specs.Scopes.{Scope, variable}
use Rattle.zir_code.specs.Types.{count_of, cells_for}

-- a whole type
abbrev pub IsWholeType : Base → Type 0
IsWholeType UnitTy = ⊥
IsWholeType BitTy = ⊥
IsWholeType BoolTy = ⊥
IsWholeType Int8 = Unit {0}
IsWholeType Int16 = Unit {0}
IsWholeType Int32 = Unit {0}
IsWholeType Int64 = Unit {0}
IsWholeType Complex16 = ⊥
IsWholeType Complex32 = ⊥
IsWholeType (StructTy k) = ⊥

-- a complex type
abbrev pub IsComplexType : Base → Type 0
IsComplexType UnitTy = ⊥
IsComplexType BitTy = ⊥
IsComplexType BoolTy = ⊥
IsComplexType Int8 = ⊥
IsComplexType Int16 = ⊥
IsComplexType Int32 = ⊥
IsComplexType Int64 = ⊥
IsComplexType Complex16 = Unit {0}
IsComplexType Complex32 = Unit {0}
IsComplexType (StructTy k) = ⊥

-- the type of the parts of a complex type, and unit of any other
abbrev pub half_type : Base → Base
half_type UnitTy = UnitTy
half_type BitTy = UnitTy
half_type BoolTy = UnitTy
half_type Int8 = UnitTy
half_type Int16 = UnitTy
half_type Int32 = UnitTy
half_type Int64 = UnitTy
half_type Complex16 = Int16
half_type Complex32 = Int32
half_type (StructTy k) = UnitTy

-- bit, bool or a whole type
abbrev pub IsScalar : Base → Type 0
IsScalar t = (t ≡ BitTy) ⊎ (t ≡ BoolTy) ⊎ IsWholeType t

-- both sides of one whole type, which is the answer's
abbrev pub AtWholes : Base → Base → Base → Type 0
AtWholes left right t = IsWholeType left × (right ≡ left) × (t ≡ left)

-- both sides of one whole or complex type, which is the answer's
abbrev pub AtNumbers : Base → Base → Base → Type 0
AtNumbers left right t = (IsWholeType left ⊎ IsComplexType left) × (right ≡ left) × (t ≡ left)

-- both sides bits, or of one whole type, which is the answer's
abbrev pub AtBits : Base → Base → Base → Type 0
AtBits left right t = ((left ≡ BitTy) ⊎ IsWholeType left) × (right ≡ left) × (t ≡ left)

-- both sides of one type that is compared for being the same
abbrev pub AtSame : Base → Base → Base → Type 0
AtSame left right t = (IsScalar left ⊎ IsComplexType left) × (right ≡ left) × (t ≡ BoolTy)

-- both sides of one whole type, whose order is asked
abbrev pub AtOrder : Base → Base → Base → Type 0
AtOrder left right t = IsWholeType left × (right ≡ left) × (t ≡ BoolTy)

-- a whole number and an amount of any whole type
abbrev pub AtShift : Base → Base → Base → Type 0
AtShift left right t = IsWholeType left × IsWholeType right × (t ≡ left)

-- two truth values
abbrev pub AtTruths : Base → Base → Base → Type 0
AtTruths left right t = (left ≡ BoolTy) × (right ≡ BoolTy) × (t ≡ BoolTy)

-- an operator takes sides of these two types and answers with the third
abbrev pub OperatorFits : Operator → Base → Base → Base → Type 0
OperatorFits Or left right t = AtTruths left right t
OperatorFits And left right t = AtTruths left right t
OperatorFits BitOr left right t = AtBits left right t
OperatorFits BitXor left right t = AtBits left right t
OperatorFits BitAnd left right t = AtBits left right t
OperatorFits Equal left right t = AtSame left right t
OperatorFits NotEqual left right t = AtSame left right t
OperatorFits Less left right t = AtOrder left right t
OperatorFits LessEqual left right t = AtOrder left right t
OperatorFits Greater left right t = AtOrder left right t
OperatorFits GreaterEqual left right t = AtOrder left right t
OperatorFits ShiftLeft left right t = AtShift left right t
OperatorFits ShiftRight left right t = AtShift left right t
OperatorFits Add left right t = AtNumbers left right t
OperatorFits Subtract left right t = AtNumbers left right t
OperatorFits Multiply left right t = AtNumbers left right t
OperatorFits Divide left right t = AtWholes left right t
OperatorFits Remainder left right t = AtWholes left right t

-- a prefix takes an operand of this type, which is the answer's
abbrev pub PrefixFits : Prefix → Base → Type 0
PrefixFits Minus t = IsWholeType t ⊎ IsComplexType t
PrefixFits Complement t = (t ≡ BitTy) ⊎ IsWholeType t
PrefixFits Not t = t ≡ BoolTy

-- a conversion to this type takes an operand of the other
abbrev pub ConversionFits : Base → Base → Type 0
ConversionFits to from = (((to ≡ BitTy) ⊎ IsWholeType to) × ((from ≡ BitTy) ⊎ IsWholeType from)) ⊎ (IsComplexType to × IsComplexType from)

-- so many cells from a spot on are among the n cells of the body that runs, or a top variable's
abbrev pub SpotFits : ℕ → Spot → ℕ → Type 0
SpotFits n (Top o) k = Unit {0}
SpotFits n (Local o) k = o + k ≤ n

-- a part of a type that is no array: a field of a struct, or a part of a complex number
abbrev pub BasePartFits : List StructDef → Base → ℕ → Ty → Type 0
BasePartFits structs UnitTy k t = ⊥
BasePartFits structs BitTy k t = ⊥
BasePartFits structs BoolTy k t = ⊥
BasePartFits structs Int8 k t = ⊥
BasePartFits structs Int16 k t = ⊥
BasePartFits structs Int32 k t = ⊥
BasePartFits structs Int64 k t = ⊥
BasePartFits structs Complex16 k t = t ≡ plain Int16
BasePartFits structs Complex32 k t = t ≡ plain Int32
BasePartFits structs (StructTy j) k t = field_type structs j k ≡ Some t

-- a value of this type has a part at this place, of that type
abbrev pub PartFits : List StructDef → Ty → ℕ → Ty → Type 0
PartFits structs ty k t = (ty.lengths ≡ []) × BasePartFits structs ty.base k t

-- a variable of this type, whose cells have spots
pub record HolderFits (g : Scope) (n : ℕ) (v : Holder) : Type 0 where
  pub cells : v.cells ≡ cells_for g v.ty
  pub known : StructsBefore (length g.structs) v.ty.base
  pub spot : SpotFits n v.spot v.cells

abbrev mutual
  -- an expression has this type over these variables, in n cells
  pub Has : Scope → ℕ → Ty → Expr → Type 0
  Has g n t (UnitLiteral p) = t ≡ plain UnitTy
  Has g n t (Bit b p) = t ≡ plain BitTy
  Has g n t (BoolLiteral b p) = t ≡ plain BoolTy
  Has g n t (Int k u p) = (t ≡ plain u) × IsWholeType u
  Has g n t (Variable x) = (v : Holder) × (variable g x.id ≡ Some v) × (t ≡ v.ty) × HolderFits g n v
  Has g n t (Unary' o u _ (more_of-Expr a end_of-Expr) p) = PrefixFits o u × (t ≡ plain u) × Has g n (plain u) a
  Has g n t (Binary' o u _ (more_of-Expr a end_of-Expr) _ (more_of-Expr b end_of-Expr) p) =
      (w : Base) × (r : Base) × OperatorFits o u w r × (t ≡ plain r) × Has g n (plain u) a × Has g n (plain w) b
  Has g n t (Index' _ (more_of-Expr a end_of-Expr) _ (more_of-Expr i end_of-Expr) p) =
      (m : ℕ) × (w : Base) × IsWholeType w × Has g n (array_of m t) a × Has g n (plain w) i
  Has g n t (Slice' _ (more_of-Expr a end_of-Expr) _ (more_of-Expr i end_of-Expr) k p) =
      (m : ℕ) × (u : Ty) × (w : Base) × IsWholeType w × (t ≡ array_of k u) × Has g n (array_of m u) a × Has g n (plain w) i
  Has g n t (Part' _ (more_of-Expr a end_of-Expr) name k p) = (u : Ty) × PartFits g.structs u k t × Has g n u a
  Has g n t (Call' name (Function k) _ es) = (f : Signature) × (g.funs k ≡ Some f) × (t ≡ f.result) × ArgumentsFit g n f.params es
  Has g n t (Call' name (Struct k) _ es) =
      (def : StructDef) × (slice_get g.structs k ≡ Some def) × (t ≡ plain (StructTy k)) × ArgumentsFit g n (map (λ f. f.ty) def.fields) es
  Has g n t (Array' _ es p) = (u : Ty) × (1 ≤ count_of es) × (t ≡ array_of (count_of es) u) × ElementsFit g n u es
  Has g n t (Convert' u _ (more_of-Expr a end_of-Expr) p) = (w : Base) × ConversionFits u w × (t ≡ plain u) × Has g n (plain w) a
  Has g n t (Complex' u _ (more_of-Expr a end_of-Expr) _ (more_of-Expr b end_of-Expr) p) =
      IsComplexType u × (t ≡ plain u) × Has g n (plain (half_type u)) a × Has g n (plain (half_type u)) b

  -- arguments or fields have these types, one for one
  pub ArgumentsFit : {k : _} → Scope → ℕ → List Ty → Row_of-Expr k → Type 0
  ArgumentsFit g n [] end_of-Expr = Unit {0}
  ArgumentsFit g n [] (more_of-Expr e es) = ⊥
  ArgumentsFit g n (t ∷ ts) end_of-Expr = ⊥
  ArgumentsFit g n (t ∷ ts) (more_of-Expr e es) = Has g n t e × ArgumentsFit g n ts es

  -- all of these elements have this type
  pub ElementsFit : {k : _} → Scope → ℕ → Ty → Row_of-Expr k → Type 0
  ElementsFit g n t end_of-Expr = Unit {0}
  ElementsFit g n t (more_of-Expr e es) = Has g n t e × ElementsFit g n t es

-- the same for a list of arguments
abbrev pub AllFit : Scope → ℕ → List Ty → List Expr → Type 0
AllFit g n [] [] = Unit {0}
AllFit g n [] (e ∷ es) = ⊥
AllFit g n (t ∷ ts) [] = ⊥
AllFit g n (t ∷ ts) (e ∷ es) = Has g n t e × AllFit g n ts es
