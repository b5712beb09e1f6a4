-- Typed expressions have their types in code.
use Rattle.std.specs.Prelude.{◌≡◌, refl, ◌≤◌, ℕ, suc, List, [], ◌∷◌, Option, Some, None, slice_get}
use Rattle.std.proofs.Common.{ap, ◌∙◌, sym, subst}
use Rattle.zir_tree.specs.declared.types.Base.TheVariants.{Struct as StructTy}
use Rattle.zir_tree.specs.declared.types.Ty.{Ty}
use Rattle.zir_tree.specs.declared.expr.Callee.TheVariants.{Function, Struct}
use Rattle.zir_tree.specs.declared.expr.Expr.{Expr, Unit as UnitLiteral, Bit, Bool as BoolLiteral, Int, Variable, Unary', Binary', Index', Slice'}
use Rattle.zir_tree.specs.declared.expr.Expr.{Part', Call', Array', Convert', Complex', Row_of-Expr, end_of-Expr, more_of-Expr}
use Rattle.zir_types.specs.declared.scope.Shape.{Shape}
use Rattle.zir_types.specs.declared.scope.Signature.{Signature}
use Rattle.zir_types.specs.declared.typed.Called.{Called}
use Rattle.zir_types.specs.Kinds.{scalar, arr}
use Rattle.zir_types.specs.Scope.{Visible, field_types}
use Rattle.zir_types.specs.Typing.{function_at, struct_at, row_length}
use Rattle.zir_types.specs.Typing as types
use Rattle.zir_code.specs.Scopes.{Scope}
use Rattle.zir_code.specs.Types.{count_of}
use Rattle.zir_code.specs.Typing.{Has, ArgumentsFit, ElementsFit, AllFit}
use Rattle.zir_sound.specs.Statements.{Each}
use Rattle.zir_typed_code.specs.Forming.{IsFilled, AreFilled, AllFilled}
use Rattle.zir_typed_code.specs.Scopes.{Finds, MayCall, SameScope}
use Rattle.zir_typed_code.proofs.Rules.{whole_type, holds_number, half_types, operator_fits, prefix_fits, conversion_fits}
use Rattle.zir_typed_code.proofs.Places.{struct_here, part_fits}

-- What is called, as a function or a struct that is seen.
pub called_function : (v : Visible) (k : ℕ) (o : Option Signature) (c : Called) → slice_get v.functions k ≡ o → function_at k o ≡ Some c →
    (s : Signature) × (slice_get v.functions k ≡ Some s) × (c.params ≡ s.params) × (c.result ≡ s.result)
called_function v k None c e h = absurd cc
called_function v k (Some s) c e h =
    let q : (let d : Called = record { callee = Function k; params = s.params; result = s.result } in d) ≡ c = cc in
    (s, e, ap (λ (d : Called). d.params) (sym q), ap (λ (d : Called). d.result) (sym q))

pub called_struct : (v : Visible) (k : ℕ) (o : Option Shape) (c : Called) → slice_get v.shapes k ≡ o → struct_at k o ≡ Some c →
    (s : Shape) × (slice_get v.shapes k ≡ Some s) × (c.params ≡ field_types s.def.fields) × (c.result ≡ scalar (StructTy k))
called_struct v k None c e h = absurd cc
called_struct v k (Some s) c e h =
    let q : (let d : Called = record { callee = Struct k; params = field_types s.def.fields; result = scalar (StructTy k) } in d) ≡ c = cc in
    (s, e, ap (λ (d : Called). d.params) (sym q), ap (λ (d : Called). d.result) (sym q))

count_same : {m : _} (es : Row_of-Expr m) → row_length es ≡ count_of es
count_same end_of-Expr = refl
count_same (more_of-Expr e es) = ap suc (count_same es)

mutual
  pub expression_fits : (xs : List ℕ) (v : Visible) (g : Scope) (n : ℕ) → SameScope xs v g n → (t : Ty) (e : Expr) → IsFilled e → types.Has v t e → Has g n t e
  expression_fits xs v g n w t (UnitLiteral p) f h = h
  expression_fits xs v g n w t (Bit b p) f h = h
  expression_fits xs v g n w t (BoolLiteral b p) f h = h
  expression_fits xs v g n w t (Int k b p) f h = (h.0, holds_number b k h.1)
  expression_fits xs v g n w t (Variable x) f h =
      let r : Finds g n x.id t = w.variables x.id t h in (r.holder, r.found, sym r.type_is, r.fits)
  expression_fits xs v g n w t (Unary' o b _ (more_of-Expr e end_of-Expr) p) f h =
      (prefix_fits o b h.1, h.0, expression_fits xs v g n w (scalar b) e f h.2)
  expression_fits xs v g n w t (Binary' o k _ (more_of-Expr a end_of-Expr) _ (more_of-Expr b end_of-Expr) p) f (r, m, is, rule, ha, hb) =
      (m, r, operator_fits o k m r rule, is, expression_fits xs v g n w (scalar k) a f.0 ha, expression_fits xs v g n w (scalar m) b f.1 hb)
  expression_fits xs v g n w t (Index' _ (more_of-Expr a end_of-Expr) _ (more_of-Expr i end_of-Expr) p) f (k, b, whole, ha, hi) =
      (k, b, whole_type b whole, expression_fits xs v g n w (arr k t) a f.0 ha, expression_fits xs v g n w (scalar b) i f.1 hi)
  expression_fits xs v g n w t (Slice' _ (more_of-Expr a end_of-Expr) _ (more_of-Expr i end_of-Expr) c p) f (u, k, b, is, whole, ha, hi) =
      (k, u, b, whole_type b whole, is, expression_fits xs v g n w (arr k u) a f.0 ha, expression_fits xs v g n w (scalar b) i f.1 hi)
  expression_fits xs v g n w t (Part' _ (more_of-Expr a end_of-Expr) x k p) f (u, part, ha) =
      (u, part_fits v.shapes g.structs u x k t w.structs part, expression_fits xs v g n w u a f ha)
  expression_fits xs v g n w t (Call' x (Function k) _ es) f (c, called, is, have) =
      let r = called_function v k (slice_get v.functions k) c refl called in
      let m : MayCall g k r.0 = w.functions k r.0 r.1 in
      (m.made, m.found, is ∙ (r.3 ∙ sym m.result), subst (λ ts. ArgumentsFit g n ts es) (r.2 ∙ sym m.params) (arguments_fit xs v g n w c.params es f have))
  expression_fits xs v g n w t (Call' x (Struct k) _ es) f (c, called, is, have) =
      let r = called_struct v k (slice_get v.shapes k) c refl called in (
        r.0.def,
        struct_here v.shapes g.structs k r.0 w.structs r.1,
        is ∙ r.3,
        subst (λ ts. ArgumentsFit g n ts es) r.2 (arguments_fit xs v g n w c.params es f have),
      )
  expression_fits xs v g n w t (Array' _ es p) f (u, is, alike) =
      let e = count_same es in
      let le : 1 ≤ row_length es = f.0 in
      (u, subst (λ k. 1 ≤ k) e le, is ∙ ap (λ k. arr k u) e, elements_fit xs v g n w u es f.1 alike)
  expression_fits xs v g n w t (Convert' b _ (more_of-Expr e end_of-Expr) p) f (c, is, rule, he) =
      (c, conversion_fits b c rule, is, expression_fits xs v g n w (scalar c) e f he)
  expression_fits xs v g n w t (Complex' b _ (more_of-Expr x end_of-Expr) _ (more_of-Expr y end_of-Expr) p) f (h, is, half, hx, hy) =
      let r = half_types b h half in
      let part = λ (e : Expr) (k : Has g n (scalar h) e). subst (λ c. Has g n (scalar c) e) r.1 k in
      (r.0, is, part x (expression_fits xs v g n w (scalar h) x f.0 hx), part y (expression_fits xs v g n w (scalar h) y f.1 hy))

  arguments_fit : (xs : List ℕ) (v : Visible) (g : Scope) (n : ℕ) → SameScope xs v g n → (ts : List Ty) {m : _} (es : Row_of-Expr m) → AreFilled es →
      types.Have v ts es → ArgumentsFit g n ts es
  arguments_fit xs v g n w [] end_of-Expr f h = tt
  arguments_fit xs v g n w [] (more_of-Expr e es) f h = absurd h
  arguments_fit xs v g n w (t ∷ ts) end_of-Expr f h = absurd h
  arguments_fit xs v g n w (t ∷ ts) (more_of-Expr e es) f h = (expression_fits xs v g n w t e f.0 h.0, arguments_fit xs v g n w ts es f.1 h.1)

  elements_fit : (xs : List ℕ) (v : Visible) (g : Scope) (n : ℕ) → SameScope xs v g n → (u : Ty) {m : _} (es : Row_of-Expr m) → AreFilled es →
      types.Alike v u es → ElementsFit g n u es
  elements_fit xs v g n w u end_of-Expr f h = tt
  elements_fit xs v g n w u (more_of-Expr e es) f h = (expression_fits xs v g n w u e f.0 h.0, elements_fit xs v g n w u es f.1 h.1)

-- The same of plain lists.
pub lists_fit : (xs : List ℕ) (v : Visible) (g : Scope) (n : ℕ) → SameScope xs v g n → (ts : List Ty) (es : List Expr) → AllFilled es → Each v ts es →
    AllFit g n ts es
lists_fit xs v g n w [] [] f h = tt
lists_fit xs v g n w [] (e ∷ es) f h = absurd h
lists_fit xs v g n w (t ∷ ts) [] f h = absurd h
lists_fit xs v g n w (t ∷ ts) (e ∷ es) f h = (expression_fits xs v g n w t e f.0 h.0, lists_fit xs v g n w ts es f.1 h.1)
