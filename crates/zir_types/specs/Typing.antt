-- The rules of types without an order: which typed expressions have which type.
use Rattle.std.specs.Prelude.{◌≡◌, ℕ, suc, List, [], ◌∷◌, true, Option, Some, None, slice_get}
use Rattle.zir_tree.specs.declared.types.Base.{Base}
use Rattle.zir_tree.specs.declared.types.Base.TheVariants.{Unit as UnitTy, Bit as BitTy, Bool as BoolTy, Struct as StructTy}
use Rattle.zir_tree.specs.declared.types.Ty.{Ty}
use Rattle.zir_tree.specs.declared.expr.Callee.{Callee}
use Rattle.zir_tree.specs.declared.expr.Callee.TheVariants.{Function as FunctionCallee, Struct as StructCallee}
use Rattle.zir_tree.specs.declared.expr.Expr.{Expr, Unit as UnitLiteral, Bit, Bool as BoolLiteral, Int, Variable, Unary', Binary', Index', Slice'}
use Rattle.zir_tree.specs.declared.expr.Expr.{Part', Call', Array', Convert', Complex', Row_of-Expr, end_of-Expr, more_of-Expr}
use Rattle.zir_types.specs.declared.scope.Shape.{Shape}
use Rattle.zir_types.specs.declared.scope.Signature.{Signature}
use Rattle.zir_types.specs.declared.typed.Typed.{Typed}
use Rattle.zir_types.specs.declared.typed.Called.{Called}
use Rattle.zir_types.specs.Walk.{Fine}
use Rattle.zir_types.specs.Kinds.{scalar, arr, is_whole, half_of, ruled, prefixes, converts, within}
use Rattle.zir_types.specs.Scope.{Visible, type_in, field_types, part_in}
use Rattle.zir_types.specs.Expressions.{expr}

-- A function at a place, where it is there.
abbrev pub function_at : ℕ → Option Signature → Option Called
function_at k None = None
function_at k (Some s) = Some (record { callee = FunctionCallee k; params = s.params; result = s.result })

-- A struct at a place, where it is there.
abbrev pub struct_at : ℕ → Option Shape → Option Called
struct_at k None = None
struct_at k (Some s) = Some (record { callee = StructCallee k; params = field_types s.def.fields; result = scalar (StructTy k) })

-- What is called, by its place.
abbrev pub called_at : Visible → Callee → Option Called
called_at g (FunctionCallee k) = function_at k (slice_get g.functions k)
called_at g (StructCallee k) = struct_at k (slice_get g.shapes k)

-- How many expressions stand in a row.
abbrev pub row_length : {m : _} → Row_of-Expr m → ℕ
row_length end_of-Expr = 0
row_length (more_of-Expr e es) = suc (row_length es)

abbrev mutual
  -- A typed expression has this type: every literal fits the type that it carries, every operator carries the type of its left side,
  -- every part and every call its place, and each rule holds.
  pub Has : Visible → Ty → Expr → Type 0
  Has g t (UnitLiteral p) = t ≡ scalar UnitTy
  Has g t (Bit b p) = t ≡ scalar BitTy
  Has g t (BoolLiteral b p) = t ≡ scalar BoolTy
  Has g t (Int n b p) = (t ≡ scalar b) × (within b n ≡ true)
  Has g t (Variable x) = type_in g.variables x.id ≡ Some t
  Has g t (Unary' o b _ (more_of-Expr e end_of-Expr) p) = (t ≡ scalar b) × (prefixes o b ≡ true) × Has g (scalar b) e
  Has g t (Binary' o k _ (more_of-Expr a end_of-Expr) _ (more_of-Expr b end_of-Expr) p) =
      (r : Base) × (m : Base) × (t ≡ scalar r) × (ruled o k m ≡ Some r) × Has g (scalar k) a × Has g (scalar m) b
  Has g t (Index' _ (more_of-Expr a end_of-Expr) _ (more_of-Expr i end_of-Expr) p) =
      (n : ℕ) × (w : Base) × (is_whole w ≡ true) × Has g (arr n t) a × Has g (scalar w) i
  Has g t (Slice' _ (more_of-Expr a end_of-Expr) _ (more_of-Expr i end_of-Expr) k p) =
      (u : Ty) × (n : ℕ) × (w : Base) × (t ≡ arr k u) × (is_whole w ≡ true) × Has g (arr n u) a × Has g (scalar w) i
  Has g t (Part' _ (more_of-Expr a end_of-Expr) x k p) = (u : Ty) × (part_in g.shapes u x ≡ Some (record { place = k; ty = t })) × Has g u a
  Has g t (Call' f callee _ es) = (c : Called) × (called_at g callee ≡ Some c) × (t ≡ c.result) × Have g c.params es
  Has g t (Array' _ es p) = (u : Ty) × (t ≡ arr (row_length es) u) × Alike g u es
  Has g t (Convert' b _ (more_of-Expr e end_of-Expr) p) = (w : Base) × (t ≡ scalar b) × (converts b w ≡ true) × Has g (scalar w) e
  Has g t (Complex' b _ (more_of-Expr x end_of-Expr) _ (more_of-Expr y end_of-Expr) p) =
      (h : Base) × (t ≡ scalar b) × (half_of b ≡ Some h) × Has g (scalar h) x × Has g (scalar h) y

  -- Expressions in a row have these types, as many as there are.
  pub Have : Visible → List Ty → {m : _} → Row_of-Expr m → Type 0
  Have g [] end_of-Expr = Unit {0}
  Have g [] (more_of-Expr e es) = ⊥
  Have g (t ∷ ts) end_of-Expr = ⊥
  Have g (t ∷ ts) (more_of-Expr e es) = Has g t e × Have g ts es

  -- All expressions in a row have this type.
  pub Alike : Visible → Ty → {m : _} → Row_of-Expr m → Type 0
  Alike g u end_of-Expr = Unit {0}
  Alike g u (more_of-Expr e es) = Has g u e × Alike g u es

-- What the walk of expressions accepts has its type by the rules, whatever is asked.
abbrev pub ExpressionsAreSound : Type 0
ExpressionsAreSound = (g : Visible) (w : Ty) (e : Expr) (x : Typed) → expr g w e ≡ Fine x → Has g x.ty x.what
