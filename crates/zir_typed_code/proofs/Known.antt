-- Types of typed expressions name structs that are there.
use Rattle.std.specs.Prelude.{◌≡◌, refl, ◌≤◌, ◌<◌, ◌+◌, ◌⊎◌, ℕ, zero, suc, List, [], ◌∷◌, Option, Some, None, slice_get, length}
use Rattle.std.proofs.Common.{ap, ◌∙◌, sym, subst, arith, inl, inr}
use Rattle.zir_tree.specs.declared.types.Base.{Base}
use Rattle.zir_tree.specs.declared.types.Base.TheVariants.{Unit as UnitTy, Bit as BitTy, Bool as BoolTy, Int8, Int16, Int32, Int64, Complex16}
use Rattle.zir_tree.specs.declared.types.Base.TheVariants.{Complex32, Struct as StructTy}
use Rattle.zir_tree.specs.declared.types.Ty.{Ty}
use Rattle.zir_tree.specs.declared.types.FieldDef.{FieldDef}
use Rattle.zir_tree.specs.declared.types.StructDef.{StructDef}
use Rattle.zir_tree.specs.declared.expr.Callee.TheVariants.{Function, Struct}
use Rattle.zir_tree.specs.declared.expr.Prefix.{Prefix}
use Rattle.zir_tree.specs.declared.expr.Prefix.TheVariants.{Minus, Complement, Not}
use Rattle.zir_tree.specs.declared.expr.Operator.{Operator}
use Rattle.zir_tree.specs.declared.expr.Operator.TheVariants.{Or, And, BitOr, BitXor, BitAnd, Equal, NotEqual, Less, LessEqual, Greater, GreaterEqual}
use Rattle.zir_tree.specs.declared.expr.Operator.TheVariants.{ShiftLeft, ShiftRight, Add, Subtract, Multiply, Divide, Remainder}
use Rattle.zir_tree.specs.declared.expr.Expr.{Expr, Unit as UnitLiteral, Bit, Bool as BoolLiteral, Int, Variable, Unary', Binary', Index', Slice'}
use Rattle.zir_tree.specs.declared.expr.Expr.{Part', Call', Array', Convert', Complex', Row_of-Expr, end_of-Expr, more_of-Expr}
use Rattle.zir_types.specs.Kinds.{scalar, arr}
use Rattle.zir_types.specs.declared.scope.Signature.{Signature}
use Rattle.zir_types.specs.Scope.{Visible}
use Rattle.zir_types.specs.Scope.{type_in as seen_type}
use Rattle.zir_types.specs.Programs.{defs_of}
use Rattle.zir_sound.specs.Cores.{Begins}
use Rattle.zir_types.specs.Typing.{row_length}
use Rattle.zir_types.specs.Typing as types
use Rattle.zir_shapes.specs.Shapes.{StructsBefore, FieldsBefore, Ordered}
use Rattle.zir_shapes.specs.Offsets.{fields_in, type_in}
use Rattle.zir_shapes.proofs.Growing.{ordered-at}
use Rattle.zir_code.specs.Scopes.{Scope}
use Rattle.zir_code.specs.Types.{cells_for, size_in}
use Rattle.zir_code.specs.Typing.{IsWholeType, IsComplexType, OperatorFits, PrefixFits, ConversionFits, BasePartFits, PartFits}
use Rattle.zir_code.proofs.TypesFound.{types_found}
use Rattle.zir_typed_code.specs.Forming.{IsFilled, AreFilled}
use Rattle.zir_typed_code.specs.Scopes.{Finds, MayCall, SameScope}
use Rattle.zir_typed_code.proofs.Rules.{holds_number, half_types, operator_fits, prefix_fits, conversion_fits}
use Rattle.zir_typed_code.proofs.Places.{struct_here, part_fits}
use Rattle.zir_typed_code.proofs.Expressions.{called_function, called_struct, expression_fits}

-- A type that names one of the first structs names one of more.
pub before_more : (b : Base) (k m : ℕ) → k ≤ m → StructsBefore k b → StructsBefore m b
before_more UnitTy k m le h = tt
before_more BitTy k m le h = tt
before_more BoolTy k m le h = tt
before_more Int8 k m le h = tt
before_more Int16 k m le h = tt
before_more Int32 k m le h = tt
before_more Int64 k m le h = tt
before_more Complex16 k m le h = tt
before_more Complex32 k m le h = tt
before_more (StructTy j) k m le h = let lt : j < k = h in omega arith

pub got_before : {A : Type 0} (ds : List A) (k : ℕ) (d : A) → slice_get ds k ≡ Some d → k < length ds
got_before {A} [] k d h = absurd cc
got_before {A} (c ∷ ds) zero d h = omega arith
got_before {A} (c ∷ ds) (suc k) d h = let lt = got_before ds k d h in omega arith

-- Numbers, truth values and bits name no struct.
whole_known : (m : ℕ) (b : Base) → IsWholeType b → StructsBefore m b
whole_known m UnitTy h = tt
whole_known m BitTy h = tt
whole_known m BoolTy h = tt
whole_known m Int8 h = tt
whole_known m Int16 h = tt
whole_known m Int32 h = tt
whole_known m Int64 h = tt
whole_known m Complex16 h = tt
whole_known m Complex32 h = tt
whole_known m (StructTy j) h = absurd h

complex_known : (m : ℕ) (b : Base) → IsComplexType b → StructsBefore m b
complex_known m UnitTy h = tt
complex_known m BitTy h = tt
complex_known m BoolTy h = tt
complex_known m Int8 h = tt
complex_known m Int16 h = tt
complex_known m Int32 h = tt
complex_known m Int64 h = tt
complex_known m Complex16 h = tt
complex_known m Complex32 h = tt
complex_known m (StructTy j) h = absurd h

same_known : (m : ℕ) (b c : Base) → b ≡ c → StructsBefore m c → StructsBefore m b
same_known m b c e h = subst (StructsBefore m) (sym e) h

number_known : (m : ℕ) (b : Base) → IsWholeType b ⊎ IsComplexType b → StructsBefore m b
number_known m b (inl h) = whole_known m b h
number_known m b (inr h) = complex_known m b h

bits_known : (m : ℕ) (b : Base) → (b ≡ BitTy) ⊎ IsWholeType b → StructsBefore m b
bits_known m b (inl h) = same_known m b BitTy h tt
bits_known m b (inr h) = whole_known m b h

operator_known : (o : Operator) (m : ℕ) (k w r : Base) → OperatorFits o k w r → StructsBefore m r
operator_known Or m k w r h = same_known m r BoolTy h.2 tt
operator_known And m k w r h = same_known m r BoolTy h.2 tt
operator_known BitOr m k w r h = same_known m r k h.2 (bits_known m k h.0)
operator_known BitXor m k w r h = same_known m r k h.2 (bits_known m k h.0)
operator_known BitAnd m k w r h = same_known m r k h.2 (bits_known m k h.0)
operator_known Equal m k w r h = same_known m r BoolTy h.2 tt
operator_known NotEqual m k w r h = same_known m r BoolTy h.2 tt
operator_known Less m k w r h = same_known m r BoolTy h.2 tt
operator_known LessEqual m k w r h = same_known m r BoolTy h.2 tt
operator_known Greater m k w r h = same_known m r BoolTy h.2 tt
operator_known GreaterEqual m k w r h = same_known m r BoolTy h.2 tt
operator_known ShiftLeft m k w r h = same_known m r k h.2 (whole_known m k h.0)
operator_known ShiftRight m k w r h = same_known m r k h.2 (whole_known m k h.0)
operator_known Add m k w r h = same_known m r k h.2 (number_known m k h.0)
operator_known Subtract m k w r h = same_known m r k h.2 (number_known m k h.0)
operator_known Multiply m k w r h = same_known m r k h.2 (number_known m k h.0)
operator_known Divide m k w r h = same_known m r k h.2 (whole_known m k h.0)
operator_known Remainder m k w r h = same_known m r k h.2 (whole_known m k h.0)

prefix_known : (o : Prefix) (m : ℕ) (b : Base) → PrefixFits o b → StructsBefore m b
prefix_known Minus m b h = number_known m b h
prefix_known Complement m b h = bits_known m b h
prefix_known Not m b h = same_known m b BoolTy h tt

conversion_known : (m : ℕ) (to from : Base) → ConversionFits to from → StructsBefore m to
conversion_known m to from (inl h) = bits_known m to h.0
conversion_known m to from (inr h) = complex_known m to h.0

-- A field of a struct that names those before it alone.
field_known : (m : ℕ) (fs : List FieldDef) (k : ℕ) (t : Ty) → FieldsBefore m fs → type_in (slice_get fs k) ≡ Some t → StructsBefore m t.base
field_known m [] k t h e = absurd cc
field_known m (f ∷ fs) zero t h e = let q : f.ty ≡ t = cc in subst (λ (u : Ty). StructsBefore m u.base) q h.0
field_known m (f ∷ fs) (suc k) t h e = field_known m fs k t h.1 e

struct_field_known : (structs : List StructDef) (j k : ℕ) (t : Ty) (o : Option StructDef) → Ordered structs → slice_get structs j ≡ o →
    type_in (slice_get (fields_in o) k) ≡ Some t → StructsBefore (length structs) t.base
struct_field_known structs j k t None o e h = absurd cc
struct_field_known structs j k t (Some d) o e h =
    let lt = got_before structs j d e in
    before_more t.base (0 + j) (length structs) (omega arith) (field_known (0 + j) d.fields k t (ordered-at 0 structs o j d e) h)

base_part_known : (structs : List StructDef) (b : Base) (k : ℕ) (t : Ty) → Ordered structs → BasePartFits structs b k t → StructsBefore (length structs) t.base
base_part_known structs UnitTy k t o h = absurd h
base_part_known structs BitTy k t o h = absurd h
base_part_known structs BoolTy k t o h = absurd h
base_part_known structs Int8 k t o h = absurd h
base_part_known structs Int16 k t o h = absurd h
base_part_known structs Int32 k t o h = absurd h
base_part_known structs Int64 k t o h = absurd h
base_part_known structs Complex16 k t o h = subst (λ (u : Ty). StructsBefore (length structs) u.base) (sym h) tt
base_part_known structs Complex32 k t o h = subst (λ (u : Ty). StructsBefore (length structs) u.base) (sym h) tt
base_part_known structs (StructTy j) k t o h = struct_field_known structs j k t (slice_get structs j) o refl h

-- A type known by what it is.
pub type_known : (m : ℕ) (t u : Ty) → t ≡ u → StructsBefore m u.base → StructsBefore m t.base
type_known m t u e h = subst (λ (u : Ty). StructsBefore m u.base) (sym e) h

-- What is seen is of types that name the first m structs alone.
pub record Knows (m : ℕ) (v : Visible) : Type 0 where
  pub structs : List StructDef
  pub begin : Begins (defs_of v.shapes) structs
  pub ordered : Ordered structs
  pub fit : length structs ≤ m
  pub variables : (id : ℕ) (t : Ty) → seen_type v.variables id ≡ Some t → StructsBefore m t.base
  pub functions : (k : ℕ) (s : Signature) → slice_get v.functions k ≡ Some s → StructsBefore m s.result.base

mutual
  -- The type of a typed expression names them alone too.
  pub has_known : (m : ℕ) (v : Visible) → Knows m v → (t : Ty) (e : Expr) → IsFilled e → types.Has v t e → StructsBefore m t.base
  has_known m v w t (UnitLiteral p) f h = type_known m t (scalar UnitTy) h tt
  has_known m v w t (Bit b p) f h = type_known m t (scalar BitTy) h tt
  has_known m v w t (BoolLiteral b p) f h = type_known m t (scalar BoolTy) h tt
  has_known m v w t (Int k b p) f h = type_known m t (scalar b) h.0 (whole_known m b (holds_number b k h.1))
  has_known m v w t (Variable x) f h = w.variables x.id t h
  has_known m v w t (Unary' o b _ (more_of-Expr e end_of-Expr) p) f h =
      type_known m t (scalar b) h.0 (prefix_known o m b (prefix_fits o b h.1))
  has_known m v w t (Binary' o k _ (more_of-Expr a end_of-Expr) _ (more_of-Expr b end_of-Expr) p) f (r, c, is, rule, ha, hb) =
      type_known m t (scalar r) is (operator_known o m k c r (operator_fits o k c r rule))
  has_known m v w t (Index' _ (more_of-Expr a end_of-Expr) _ (more_of-Expr i end_of-Expr) p) f (k, b, whole, ha, hi) =
      has_known m v w (arr k t) a f.0 ha
  has_known m v w t (Slice' _ (more_of-Expr a end_of-Expr) _ (more_of-Expr i end_of-Expr) c p) f (u, k, b, is, whole, ha, hi) =
      type_known m t (arr c u) is (has_known m v w (arr k u) a f.0 ha)
  has_known m v w t (Part' _ (more_of-Expr a end_of-Expr) x k p) f (u, part, ha) =
      let r : PartFits w.structs u k t = part_fits v.shapes w.structs u x k t w.begin part in
      before_more t.base (length w.structs) m w.fit (base_part_known w.structs u.base k t w.ordered r.1)
  has_known m v w t (Call' x (Function k) _ es) f (c, called, is, have) =
      let r = called_function v k (slice_get v.functions k) c refl called in type_known m t r.0.result (is ∙ r.3) (w.functions k r.0 r.1)
  has_known m v w t (Call' x (Struct k) _ es) f (c, called, is, have) =
      let r = called_struct v k (slice_get v.shapes k) c refl called in
      let lt = got_before w.structs k r.0.def (struct_here v.shapes w.structs k r.0 w.begin r.1) in
      let le : length w.structs ≤ m = w.fit in
      let here : k < m = omega arith in
      type_known m t (scalar (StructTy k)) (is ∙ r.3) here
  has_known m v w t (Array' _ es p) f (u, is, alike) = type_known m t (arr (row_length es) u) is (alike_known m v w u es f.0 f.1 alike)
  has_known m v w t (Convert' b _ (more_of-Expr e end_of-Expr) p) f (c, is, rule, he) =
      type_known m t (scalar b) is (conversion_known m b c (conversion_fits b c rule))
  has_known m v w t (Complex' b _ (more_of-Expr x end_of-Expr) _ (more_of-Expr y end_of-Expr) p) f (h, is, half, hx, hy) =
      let r = half_types b h half in type_known m t (scalar b) is (complex_known m b r.0)

  alike_known : (m : ℕ) (v : Visible) → Knows m v → (u : Ty) {k : _} (es : Row_of-Expr k) → 1 ≤ row_length es → AreFilled es → types.Alike v u es →
      StructsBefore m u.base
  alike_known m v w u end_of-Expr le f h = absurd (omega arith)
  alike_known m v w u (more_of-Expr e es) le f h = has_known m v w u e f.0 h.0

-- What code has in scope is known.
pub scope_known : (xs : List ℕ) (v : Visible) (g : Scope) (n : ℕ) → SameScope xs v g n → Knows (length g.structs) v
scope_known xs v g n w = record {
  structs = g.structs;
  begin = w.structs;
  ordered = w.ordered;
  fit = omega arith;
  variables = λ id t h. (let r : Finds g n id t = w.variables id t h in type_known (length g.structs) t r.holder.ty (sym r.type_is) r.fits.known);
  functions = λ k s h. (let m : MayCall g k s = w.functions k s h in m.known);
}

pub values_known : (xs : List ℕ) (v : Visible) (g : Scope) (n : ℕ) → SameScope xs v g n → (t : Ty) (e : Expr) → IsFilled e → types.Has v t e →
    (size_in g e ≡ cells_for g t) × StructsBefore (length g.structs) t.base
values_known xs v g n w t e f h = (
  ap (cells_for g) (types_found g n t e (expression_fits xs v g n w t e f h)),
  has_known (length g.structs) v (scope_known xs v g n w) t e f h,
)
