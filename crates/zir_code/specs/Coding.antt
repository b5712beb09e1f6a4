-- The code of an expression, and where its value then stands.
use Rattle.std.specs.Prelude.{ℕ, zero, suc, pos, ◌+◌, ◌-◌, List, [], ◌∷◌, ◌++◌, Bool, true, false, ◌&&◌, Option, Some, None, nat_eq}
use Rattle.zir_tree.specs.declared.place.Place.{Place}
use Rattle.zir_tree.specs.declared.types.Base.{Base}
use Rattle.zir_tree.specs.declared.types.Ty.{Ty}
use Rattle.zir_tree.specs.declared.types.Base.TheVariants.{Unit as UnitTy, Bit as BitTy, Bool as BoolTy, Int8, Int16, Int32, Int64, Complex16, Complex32, Struct as StructTy}
use Rattle.zir_tree.specs.declared.expr.Operator.{Operator}
use Rattle.zir_tree.specs.declared.expr.Operator.TheVariants.{Or, And, BitOr, BitXor, BitAnd, Equal, NotEqual, Less, LessEqual, Greater, GreaterEqual, ShiftLeft, ShiftRight, Add, Subtract, Multiply, Divide, Remainder}
use Rattle.zir_tree.specs.declared.expr.Prefix.{Prefix}
use Rattle.zir_tree.specs.declared.expr.Prefix.TheVariants.{Minus, Complement, Not}
use Rattle.zir_tree.specs.declared.expr.Expr.{Expr, Unit, Bit, Bool as BoolLiteral, Int, Variable, Unary', Binary', Index', Slice', Part', Call', Array', Convert', Complex', Row_of-Expr, end_of-Expr, more_of-Expr}
use Rattle.zir_meaning.specs.Values.{wrap}
use Rattle.zir_meaning.specs.Functions.{pick}
use Rattle.zir_cells.specs.Cells.{cell_of}
use Rattle.zir_shapes.specs.Offsets.{array_type as array_of}
use Rattle.zir_expr.specs.declared.frame.Spot.{Spot}
use Rattle.zir_expr.specs.declared.frame.Spot.TheVariants.{Top, Local}
use Rattle.zir_expr.specs.declared.truth.Bitwise.{Bitwise}
use Rattle.zir_expr.specs.declared.truth.Bitwise.TheVariants.{Or as OrBits, Xor as XorBits, And as AndBits, Equal as SameBits, NotEqual as OtherBits}
use Rattle.zir_expr.specs.declared.whole.Whole.{Whole}
use Rattle.zir_expr.specs.declared.whole.Whole.TheVariants.{Eight, Sixteen, ThirtyTwo, SixtyFour}
use Rattle.zir_expr.specs.declared.scalar.Change.{Change}
use Rattle.zir_expr.specs.declared.scalar.Change.TheVariants.{Negate, Complement as ComplementBits, Not as NotBit, Wrap, LowestBit}
use Rattle.zir_expr.specs.declared.scalar.Operation.{Operation}
use Rattle.zir_expr.specs.declared.scalar.Operation.TheVariants.{Whole as AtWhole, Truth as AtTruth}
use Rattle.zir_expr.specs.declared.complex.ComplexOperation.TheVariants.{Add as AddPairs, Subtract as SubtractPairs, Multiply as MultiplyPairs, Negate as NegateBoth, Convert as ConvertPair}
use Rattle.zir_expr.specs.declared.steps.Step.{Step, Number, Copy, Move, Change as ChangeStep, Operate, Complex, Locate, Load, Branch, Call}
use Rattle.zir_tree.specs.declared.expr.Callee.{Callee}
use Rattle.zir_tree.specs.declared.expr.Callee.TheVariants.{Function, Struct}
use Rattle.zir_code.specs.declared.scope.Holder.{Holder}
use Rattle.zir_code.specs.declared.scope.Signature.{Signature}
use Rattle.zir_code.specs.Scopes.{Scope, variable, shifted}
use Rattle.zir_code.specs.Types.{type_in, element_type, first_length, part_type, part_offset, cells_for, size_in}

-- the width of a whole type; 64 bits for any other, which no typed tree asks for
abbrev pub whole_of : Base → Whole
whole_of UnitTy = SixtyFour
whole_of BitTy = SixtyFour
whole_of BoolTy = SixtyFour
whole_of Int8 = Eight
whole_of Int16 = Sixteen
whole_of Int32 = ThirtyTwo
whole_of Int64 = SixtyFour
whole_of Complex16 = SixtyFour
whole_of Complex32 = SixtyFour
whole_of (StructTy k) = SixtyFour

-- an operator on bits and truth values
abbrev pub bitwise_of : Operator → Bitwise
bitwise_of BitOr = OrBits
bitwise_of BitXor = XorBits
bitwise_of BitAnd = AndBits
bitwise_of Equal = SameBits
bitwise_of NotEqual = OtherBits
bitwise_of _ = SameBits

-- an operator as steps take it
abbrev pub operation_of : Operator → Base → Operation
operation_of o BitTy = AtTruth (bitwise_of o)
operation_of o BoolTy = AtTruth (bitwise_of o)
operation_of o t = AtWhole o (whole_of t)

-- a prefix at a whole type, and `~` of a bit
abbrev pub complement_of : Base → Change
complement_of BitTy = NotBit
complement_of t = ComplementBits

-- a prefix as steps take it
abbrev pub change_of : Prefix → Base → Change
change_of Minus t = Negate (whole_of t)
change_of Complement t = complement_of t
change_of Not t = NotBit

-- a conversion as steps take it
abbrev pub conversion_of : Base → Change
conversion_of BitTy = LowestBit
conversion_of t = Wrap (whole_of t)

-- the width of the parts of a complex type; 64 bits for any other, which no typed tree asks for
abbrev pub half_of : Base → Whole
half_of UnitTy = SixtyFour
half_of BitTy = SixtyFour
half_of BoolTy = SixtyFour
half_of Int8 = SixtyFour
half_of Int16 = SixtyFour
half_of Int32 = SixtyFour
half_of Int64 = SixtyFour
half_of Complex16 = Sixteen
half_of Complex32 = ThirtyTwo
half_of (StructTy k) = SixtyFour

-- so many cells from a spot go to another one on
abbrev pub moving : Spot → Spot → ℕ → List Step
moving to from zero = []
moving to from (suc zero) = Copy to from ∷ []
moving to from (suc (suc n)) = Move to from (suc (suc n)) ∷ []

-- a value of so many cells goes to the cells from one on, where it does not stand there
abbrev pub settling : Spot → ℕ → ℕ → List Step
settling (Top o) d n = moving (Local d) (Top o) n
settling (Local o) d n = pick (nat_eq o d) [] (moving (Local d) (Local o) n)

-- whether no function is called, so that no variable changes
abbrev pub calls_none : Callee → Bool
calls_none (Function k) = false
calls_none (Struct k) = true

abbrev mutual
  -- whether an expression calls no function, so that it changes no variable
  pub is_calm : Expr → Bool
  is_calm (Unit p) = true
  is_calm (Bit b p) = true
  is_calm (BoolLiteral b p) = true
  is_calm (Int n t p) = true
  is_calm (Variable x) = true
  is_calm (Unary' o t _ (more_of-Expr a end_of-Expr) p) = is_calm a
  is_calm (Binary' o t _ (more_of-Expr a end_of-Expr) _ (more_of-Expr b end_of-Expr) p) = is_calm a && is_calm b
  is_calm (Index' _ (more_of-Expr a end_of-Expr) _ (more_of-Expr i end_of-Expr) p) = is_calm a && is_calm i
  is_calm (Slice' _ (more_of-Expr a end_of-Expr) _ (more_of-Expr i end_of-Expr) k p) = is_calm a && is_calm i
  is_calm (Part' _ (more_of-Expr a end_of-Expr) name k p) = is_calm a
  is_calm (Call' name callee _ es) = calls_none callee && are_calm es
  is_calm (Array' _ es p) = are_calm es
  is_calm (Convert' t _ (more_of-Expr a end_of-Expr) p) = is_calm a
  is_calm (Complex' t _ (more_of-Expr a end_of-Expr) _ (more_of-Expr b end_of-Expr) p) = is_calm a && is_calm b

  -- the same of each of these expressions
  pub are_calm : {k : _} → Row_of-Expr k → Bool
  are_calm end_of-Expr = true
  are_calm (more_of-Expr e es) = is_calm e && are_calm es

-- whether an expression is a variable, or an element, a slice or a part of one
abbrev pub is_rooted : Expr → Bool
is_rooted (Unit p) = false
is_rooted (Bit b p) = false
is_rooted (BoolLiteral b p) = false
is_rooted (Int n t p) = false
is_rooted (Variable x) = true
is_rooted (Unary' o t _ a p) = false
is_rooted (Binary' o t _ a _ b p) = false
is_rooted (Index' _ (more_of-Expr a end_of-Expr) _ i p) = is_rooted a
is_rooted (Slice' _ (more_of-Expr a end_of-Expr) _ i k p) = is_rooted a
is_rooted (Part' _ (more_of-Expr a end_of-Expr) name k p) = is_rooted a
is_rooted (Call' name callee _ es) = false
is_rooted (Array' _ es p) = false
is_rooted (Convert' t _ a p) = false
is_rooted (Complex' t _ a _ b p) = false

-- the first cell of a variable
abbrev pub spot_of : Option Holder → Option Spot
spot_of None = None
spot_of (Some v) = Some v.spot

-- so many cells behind, if it is anywhere
abbrev pub shift_if : Option Spot → ℕ → Option Spot
shift_if None k = None
shift_if (Some x) k = Some (shifted x k)

-- where a variable, or a part of one that no index leads to, stands without code
abbrev pub fixed : Scope → Expr → Option Spot
fixed g (Unit p) = None
fixed g (Bit b p) = None
fixed g (BoolLiteral b p) = None
fixed g (Int n t p) = None
fixed g (Variable x) = spot_of (variable g x.id)
fixed g (Unary' o t _ a p) = None
fixed g (Binary' o t _ a _ b p) = None
fixed g (Index' _ a _ i p) = None
fixed g (Slice' _ a _ i k p) = None
fixed g (Part' _ (more_of-Expr a end_of-Expr) name k p) = shift_if (fixed g a) (part_offset g.structs (type_in g a) k)
fixed g (Call' name callee _ es) = None
fixed g (Array' _ es p) = None
fixed g (Convert' t _ a p) = None
fixed g (Complex' t _ a _ b p) = None

-- the spot where a value is read: its own inside the body that runs, and else the first free cell
abbrev pub read_at : Option Spot → ℕ → Spot
read_at None d = Local d
read_at (Some (Top o)) d = Local d
read_at (Some (Local o)) d = Local o

-- a value of so many cells is read where it stands; in a top variable it is copied, since a call further right may assign it; what stands nowhere has
-- other code
abbrev pub reading : Option Spot → ℕ → ℕ → List Step → List Step
reading None n d other = other
reading (Some (Top o)) n d other = moving (Local d) (Top o) n
reading (Some (Local o)) n d other = []

-- the spot where the value of an expression stands after its code, whose cells from d on are free
abbrev pub stands : Scope → Expr → ℕ → Spot
stands g e d = read_at (fixed g e) d

-- whether a variable is read where it stands: one of the body that runs, and a top variable that nothing changes meanwhile
abbrev pub is_in_place : Bool → Spot → Bool
is_in_place still (Top o) = still
is_in_place still (Local o) = true

-- the cells that a variable is copied to, if it is
abbrev pub width_if : Bool → Option Holder → ℕ
width_if still None = 0
width_if still (Some v) = pick (is_in_place still v.spot) 0 v.cells

-- where a variable stands, or its copy
abbrev pub root_if : Bool → Option Holder → ℕ → Spot
root_if still None d = Local d
root_if still (Some v) d = pick (is_in_place still v.spot) v.spot (Local d)

-- the copy of a variable, if one is made
abbrev pub copying : Bool → Option Holder → ℕ → List Step
copying still None d = []
copying still (Some v) d = pick (is_in_place still v.spot) [] (moving (Local d) v.spot v.cells)

-- the cells that the variable of a path is copied to; still says that nothing further out changes a variable
abbrev pub path_width : Bool → Scope → Expr → ℕ
path_width still g (Unit p) = 0
path_width still g (Bit b p) = 0
path_width still g (BoolLiteral b p) = 0
path_width still g (Int n t p) = 0
path_width still g (Variable x) = width_if still (variable g x.id)
path_width still g (Unary' o t _ a p) = 0
path_width still g (Binary' o t _ a _ b p) = 0
path_width still g (Index' _ (more_of-Expr a end_of-Expr) _ (more_of-Expr i end_of-Expr) p) = path_width (still && is_calm i) g a
path_width still g (Slice' _ (more_of-Expr a end_of-Expr) _ (more_of-Expr i end_of-Expr) k p) = path_width (still && is_calm i) g a
path_width still g (Part' _ (more_of-Expr a end_of-Expr) name k p) = path_width still g a
path_width still g (Call' name callee _ es) = 0
path_width still g (Array' _ es p) = 0
path_width still g (Convert' t _ a p) = 0
path_width still g (Complex' t _ a _ b p) = 0

-- the spot that the offset of a path counts from
abbrev pub path_root : Bool → Scope → Expr → ℕ → Spot
path_root still g (Unit p) d = Local d
path_root still g (Bit b p) d = Local d
path_root still g (BoolLiteral b p) d = Local d
path_root still g (Int n t p) d = Local d
path_root still g (Variable x) d = root_if still (variable g x.id) d
path_root still g (Unary' o t _ a p) d = Local d
path_root still g (Binary' o t _ a _ b p) d = Local d
path_root still g (Index' _ (more_of-Expr a end_of-Expr) _ (more_of-Expr i end_of-Expr) p) d = path_root (still && is_calm i) g a d
path_root still g (Slice' _ (more_of-Expr a end_of-Expr) _ (more_of-Expr i end_of-Expr) k p) d = path_root (still && is_calm i) g a d
path_root still g (Part' _ (more_of-Expr a end_of-Expr) name k p) d = shifted (path_root still g a d) (part_offset g.structs (type_in g a) k)
path_root still g (Call' name callee _ es) d = Local d
path_root still g (Array' _ es p) d = Local d
path_root still g (Convert' t _ a p) d = Local d
path_root still g (Complex' t _ a _ b p) d = Local d

-- the same of what is indexed or has parts: a path, or a value that stands in the first free cells
abbrev pub base_width : Bool → Scope → Expr → ℕ
base_width still g a = pick (is_rooted a) (path_width still g a) (size_in g a)

abbrev pub base_root : Bool → Scope → Expr → ℕ → Spot
base_root still g a d = pick (is_rooted a) (path_root still g a d) (Local d)

-- the offset in the cell o goes on to the element at the index in a cell
abbrev pub to_element : Scope → Ty → ℕ → Spot → Place → Step
to_element g ty o x p = Locate (Local o) (Local o) x (record { room = first_length ty.lengths; size = cells_for g (element_type ty); code = 2; at = p })

-- the same for the first of k elements
abbrev pub to_slice : Scope → Ty → ℕ → ℕ → Spot → Place → Step
to_slice g ty k o x p =
    Locate (Local o) (Local o) x (record { room = first_length ty.lengths + 1 - k; size = cells_for g (element_type ty); code = 3; at = p })

-- two complex numbers are the same in both parts
abbrev pub same_pairs : Spot → Spot → Place → ℕ → List Step
same_pairs x y p d =
    Operate (AtWhole Equal SixtyFour) (Local d) x y p
    ∷ Operate (AtWhole Equal SixtyFour) (Local (d + 1)) (shifted x 1) (shifted y 1) p
    ∷ Operate (AtTruth AndBits) (Local d) (Local d) (Local (d + 1)) p ∷ []

-- an operator at two complex numbers
abbrev pub operating_pairs : Operator → Whole → Place → Spot → Spot → ℕ → List Step
operating_pairs Or w p x y d = []
operating_pairs And w p x y d = []
operating_pairs BitOr w p x y d = []
operating_pairs BitXor w p x y d = []
operating_pairs BitAnd w p x y d = []
operating_pairs Equal w p x y d = same_pairs x y p d
operating_pairs NotEqual w p x y d = same_pairs x y p d ++ ChangeStep NotBit (Local d) (Local d) ∷ []
operating_pairs Less w p x y d = []
operating_pairs LessEqual w p x y d = []
operating_pairs Greater w p x y d = []
operating_pairs GreaterEqual w p x y d = []
operating_pairs ShiftLeft w p x y d = []
operating_pairs ShiftRight w p x y d = []
operating_pairs Add w p x y d = Complex (AddPairs w) (Local d) x y ∷ []
operating_pairs Subtract w p x y d = Complex (SubtractPairs w) (Local d) x y ∷ []
operating_pairs Multiply w p x y d = Complex (MultiplyPairs w) (Local d) x y ∷ []
operating_pairs Divide w p x y d = []
operating_pairs Remainder w p x y d = []

-- an operator at two values
abbrev pub operating : Operator → Base → Place → Spot → Spot → ℕ → List Step
operating o UnitTy p x y d = Operate (operation_of o UnitTy) (Local d) x y p ∷ []
operating o BitTy p x y d = Operate (operation_of o BitTy) (Local d) x y p ∷ []
operating o BoolTy p x y d = Operate (operation_of o BoolTy) (Local d) x y p ∷ []
operating o Int8 p x y d = Operate (operation_of o Int8) (Local d) x y p ∷ []
operating o Int16 p x y d = Operate (operation_of o Int16) (Local d) x y p ∷ []
operating o Int32 p x y d = Operate (operation_of o Int32) (Local d) x y p ∷ []
operating o Int64 p x y d = Operate (operation_of o Int64) (Local d) x y p ∷ []
operating o Complex16 p x y d = operating_pairs o Sixteen p x y d
operating o Complex32 p x y d = operating_pairs o ThirtyTwo p x y d
operating o (StructTy k) p x y d = Operate (operation_of o (StructTy k)) (Local d) x y p ∷ []

-- the code of an operator, from the spots and the code of its sides; `&&` and `||` leave the right side out where the left one decides
abbrev pub operator_code : Operator → Base → Place → Spot → Spot → ℕ → List Step → List Step → List Step
operator_code Or t p x y d left right = left ++ Copy (Local d) x ∷ Branch (record { test = Local d; first = []; second = right ++ Copy (Local d) y ∷ [] }) ∷ []
operator_code And t p x y d left right = left ++ Copy (Local d) x ∷ Branch (record { test = Local d; first = right ++ Copy (Local d) y ∷ []; second = [] }) ∷ []
operator_code BitOr t p x y d left right = left ++ (right ++ operating BitOr t p x y d)
operator_code BitXor t p x y d left right = left ++ (right ++ operating BitXor t p x y d)
operator_code BitAnd t p x y d left right = left ++ (right ++ operating BitAnd t p x y d)
operator_code Equal t p x y d left right = left ++ (right ++ operating Equal t p x y d)
operator_code NotEqual t p x y d left right = left ++ (right ++ operating NotEqual t p x y d)
operator_code Less t p x y d left right = left ++ (right ++ operating Less t p x y d)
operator_code LessEqual t p x y d left right = left ++ (right ++ operating LessEqual t p x y d)
operator_code Greater t p x y d left right = left ++ (right ++ operating Greater t p x y d)
operator_code GreaterEqual t p x y d left right = left ++ (right ++ operating GreaterEqual t p x y d)
operator_code ShiftLeft t p x y d left right = left ++ (right ++ operating ShiftLeft t p x y d)
operator_code ShiftRight t p x y d left right = left ++ (right ++ operating ShiftRight t p x y d)
operator_code Add t p x y d left right = left ++ (right ++ operating Add t p x y d)
operator_code Subtract t p x y d left right = left ++ (right ++ operating Subtract t p x y d)
operator_code Multiply t p x y d left right = left ++ (right ++ operating Multiply t p x y d)
operator_code Divide t p x y d left right = left ++ (right ++ operating Divide t p x y d)
operator_code Remainder t p x y d left right = left ++ (right ++ operating Remainder t p x y d)

-- the code of a prefix at a value
abbrev pub prefix_code : Prefix → Base → Spot → ℕ → Step
prefix_code o UnitTy x d = ChangeStep (change_of o UnitTy) (Local d) x
prefix_code o BitTy x d = ChangeStep (change_of o BitTy) (Local d) x
prefix_code o BoolTy x d = ChangeStep (change_of o BoolTy) (Local d) x
prefix_code o Int8 x d = ChangeStep (change_of o Int8) (Local d) x
prefix_code o Int16 x d = ChangeStep (change_of o Int16) (Local d) x
prefix_code o Int32 x d = ChangeStep (change_of o Int32) (Local d) x
prefix_code o Int64 x d = ChangeStep (change_of o Int64) (Local d) x
prefix_code o Complex16 x d = Complex (NegateBoth Sixteen) (Local d) x x
prefix_code o Complex32 x d = Complex (NegateBoth ThirtyTwo) (Local d) x x
prefix_code o (StructTy k) x d = ChangeStep (change_of o (StructTy k)) (Local d) x

-- the code of a conversion of a value
abbrev pub conversion_code : Base → Spot → ℕ → Step
conversion_code UnitTy x d = ChangeStep (conversion_of UnitTy) (Local d) x
conversion_code BitTy x d = ChangeStep (conversion_of BitTy) (Local d) x
conversion_code BoolTy x d = ChangeStep (conversion_of BoolTy) (Local d) x
conversion_code Int8 x d = ChangeStep (conversion_of Int8) (Local d) x
conversion_code Int16 x d = ChangeStep (conversion_of Int16) (Local d) x
conversion_code Int32 x d = ChangeStep (conversion_of Int32) (Local d) x
conversion_code Int64 x d = ChangeStep (conversion_of Int64) (Local d) x
conversion_code Complex16 x d = Complex (ConvertPair Sixteen) (Local d) x x
conversion_code Complex32 x d = Complex (ConvertPair ThirtyTwo) (Local d) x x
conversion_code (StructTy k) x d = ChangeStep (conversion_of (StructTy k)) (Local d) x

-- a call of a function, whose arguments stand from a cell on
abbrev pub call_code : Option Signature → ℕ → List Step
call_code None d = []
call_code (Some f) d = Call f.code d ∷ []

-- what a call calls, as code; a struct is its fields one after the other
abbrev pub callee_code : Scope → Callee → ℕ → List Step
callee_code g (Function k) d = call_code (g.funs k) d
callee_code g (Struct k) d = []

-- the first offset of a value that stands in the first free cells, behind its cells
abbrev pub based : Bool → List Step → List Step → ℕ → List Step
based true path value o = path
based false path value o = value ++ Number (Local o) (pos 0) ∷ []

abbrev mutual
  -- the code of an expression
  pub code_of : Scope → Expr → ℕ → List Step
  code_of g (Unit p) d = []
  code_of g (Bit b p) d = Number (Local d) (cell_of b) ∷ []
  code_of g (BoolLiteral b p) d = Number (Local d) (cell_of b) ∷ []
  code_of g (Int n t p) d = Number (Local d) (wrap t n) ∷ []
  code_of g (Variable x) d = reading (fixed g (Variable x)) (size_in g (Variable x)) d []
  code_of g (Unary' o t _ (more_of-Expr a end_of-Expr) p) d = code_of g a d ++ prefix_code o t (stands g a d) d ∷ []
  code_of g (Binary' o t _ (more_of-Expr a end_of-Expr) _ (more_of-Expr b end_of-Expr) p) d =
      operator_code o t p (stands g a d) (stands g b (d + size_in g a)) d (code_of g a d) (code_of g b (d + size_in g a))
  code_of g (Index' _ (more_of-Expr a end_of-Expr) _ (more_of-Expr i end_of-Expr) p) d =
      let still = is_calm i in
      let o = d + base_width still g a in
      based (is_rooted a) (path_code still g a d) (code_of g a d) o ++ (code_of g i (o + 1)
      ++ (to_element g (type_in g a) o (stands g i (o + 1)) p ∷ Load (Local d) (base_root still g a d) (Local o) (cells_for g (element_type (type_in g a))) ∷ []))
  code_of g (Slice' _ (more_of-Expr a end_of-Expr) _ (more_of-Expr i end_of-Expr) k p) d =
      let still = is_calm i in
      let o = d + base_width still g a in
      based (is_rooted a) (path_code still g a d) (code_of g a d) o ++ (code_of g i (o + 1)
      ++ (to_slice g (type_in g a) k o (stands g i (o + 1)) p ∷ Load (Local d) (base_root still g a d) (Local o) (cells_for g (array_of k (element_type (type_in g a)))) ∷ []))
  code_of g (Part' _ (more_of-Expr a end_of-Expr) name k p) d =
      let o = d + base_width true g a in
      let offset = part_offset g.structs (type_in g a) k in
      let n = cells_for g (part_type g.structs (type_in g a) k) in
      reading (shift_if (fixed g a) offset) n d
      (based (is_rooted a) (path_code true g a d) (code_of g a d) o ++ Load (Local d) (shifted (base_root true g a d) offset) (Local o) n ∷ [])
  code_of g (Call' name callee _ es) d = arguments_code g es d ++ callee_code g callee d
  code_of g (Array' _ es p) d = arguments_code g es d
  code_of g (Convert' t _ (more_of-Expr a end_of-Expr) p) d = code_of g a d ++ conversion_code t (stands g a d) d ∷ []
  code_of g (Complex' t _ (more_of-Expr a end_of-Expr) _ (more_of-Expr b end_of-Expr) p) d =
      code_of g a d ++ (settling (stands g a d) d 1 ++ (code_of g b (d + 1) ++ settling (stands g b (d + 1)) (d + 1) 1))

  -- the code of a path, which leaves in the first cell behind the copy of its variable how many cells behind its root the value stands
  pub path_code : Bool → Scope → Expr → ℕ → List Step
  path_code still g (Unit p) d = []
  path_code still g (Bit b p) d = []
  path_code still g (BoolLiteral b p) d = []
  path_code still g (Int n t p) d = []
  path_code still g (Variable x) d = copying still (variable g x.id) d ++ Number (Local (d + width_if still (variable g x.id))) (pos 0) ∷ []
  path_code still g (Unary' o t _ a p) d = []
  path_code still g (Binary' o t _ a _ b p) d = []
  path_code still g (Index' _ (more_of-Expr a end_of-Expr) _ (more_of-Expr i end_of-Expr) p) d =
      let o = d + path_width (still && is_calm i) g a in
      path_code (still && is_calm i) g a d ++ (code_of g i (o + 1) ++ to_element g (type_in g a) o (stands g i (o + 1)) p ∷ [])
  path_code still g (Slice' _ (more_of-Expr a end_of-Expr) _ (more_of-Expr i end_of-Expr) k p) d =
      let o = d + path_width (still && is_calm i) g a in
      path_code (still && is_calm i) g a d ++ (code_of g i (o + 1) ++ to_slice g (type_in g a) k o (stands g i (o + 1)) p ∷ [])
  path_code still g (Part' _ (more_of-Expr a end_of-Expr) name k p) d = path_code still g a d
  path_code still g (Call' name callee _ es) d = []
  path_code still g (Array' _ es p) d = []
  path_code still g (Convert' t _ a p) d = []
  path_code still g (Complex' t _ a _ b p) d = []

  -- the code of arguments, elements or fields, each into cells of its own behind those before it
  pub arguments_code : {k : _} → Scope → Row_of-Expr k → ℕ → List Step
  arguments_code g end_of-Expr d = []
  arguments_code g (more_of-Expr e es) d = code_of g e d ++ (settling (stands g e d) d (size_in g e) ++ arguments_code g es (d + size_in g e))

-- the same for a list
abbrev pub code_of_all : Scope → List Expr → ℕ → List Step
code_of_all g [] d = []
code_of_all g (e ∷ es) d = code_of g e d ++ (settling (stands g e d) d (size_in g e) ++ code_of_all g es (d + size_in g e))
