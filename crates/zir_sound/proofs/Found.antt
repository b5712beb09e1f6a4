-- Variables, functions and arguments that a walk found.
use Rattle.std.specs.Prelude.{◌≡◌, refl, ℕ, suc, ◌+◌, List, [], ◌∷◌, ◌++◌, Bool, true, false, nat_eq, Option, Some, None, slice_get, if◌then◌else◌}
use Rattle.std.proofs.Common.{ap, ◌∙◌, sym, subst, arith}
use Rattle.zir_tree.specs.declared.types.Base.{Base}
use Rattle.zir_tree.specs.declared.types.Ty.{Ty}
use Rattle.zir_tree.specs.declared.types.TypeExpr.{TypeExpr}
use Rattle.zir_tree.specs.declared.place.Place.{Place}
use Rattle.zir_tree.specs.declared.expr.Expr.{Expr}
use Rattle.zir_tree.specs.declared.stmt.Var.{Var}
use Rattle.zir_types.specs.declared.scope.Shape.{Shape}
use Rattle.zir_types.specs.declared.scope.Signature.{Signature}
use Rattle.zir_types.specs.declared.typed.Args.{Args}
use Rattle.zir_types.specs.declared.typed.TypedVar.{TypedVar}
use Rattle.zir_types.specs.declared.typed.Written.{Written}
use Rattle.zir_types.specs.declared.error.TypeError.TheVariants.{Mismatch}
use Rattle.zir_types.specs.Walk.{Fine, and_then}
use Rattle.zir_types.specs.Kinds.{same_ty}
use Rattle.zir_types.specs.Scope.{Visible, Placed, base_in, function_from, lengths_of, written, written_if}
use Rattle.zir_types.specs.Expressions.{expr, wanted, Asks, args_of, asks_after, next_asks, one_more}
use Rattle.zir_types.specs.Statements.{initial, of_type, var, var_of}
use Rattle.zir_types.specs.Typing.{Has}
use Rattle.zir_types.proofs.Fine.{first_fine, held, same_fine}
use Rattle.zir_types.proofs.Agreement.{same_ty_is}
use Rattle.zir_types.proofs.Sound.{sound}
use Rattle.zir_sound.specs.Statements.{Each, HasIfAny, IsVar, type_of}

-- A written type is the type that its filled-in form is.
written_if_is : (b : Option Base) (t : TypeExpr) (w : Written) → written_if b t ≡ Fine w → type_of w.what ≡ w.ty
written_if_is None t w h = absurd cc
written_if_is (Some b) t w h =
    let made : Written = record {
      what = record { dimensions = t.dimensions; base = b; name = t.name; at = t.at };
      ty = record {
        lengths =
            lengths_of t.dimensions;
        base = b;
      };
    } in
    subst (λ v. type_of v.what ≡ v.ty) (same_fine made w h) refl

pub written_is : (ss : List Shape) (t : TypeExpr) (w : Written) → written ss t ≡ Fine w → type_of w.what ≡ w.ty
written_is ss t w h = written_if_is (base_in ss t.name t.base) t w h

-- What has one type has another that the tests call the same.
pub has_same : (g : Visible) (t u : Ty) (e : Expr) → same_ty t u ≡ true → Has g u e → Has g t e
has_same g t u e same h = subst (λ v. Has g v e) (sym (same_ty_is t u same)) h

-- An initial value has the type of its variable.
initial_sound : (g : Visible) (t : Ty) (p : Place) (i : Option Expr) (e : Option Expr) → initial g t p i ≡ Fine e → HasIfAny g t e
initial_sound g t p None e h = subst (HasIfAny g t) (same_fine None e h) tt
initial_sound g t p (Some i) e h =
    let x = first_fine (expr g (wanted t) i) (of_type t p) e h in
    let r = held (same_ty t x.0.ty) (Mismatch p) (Some x.0.what) e x.2 in
    subst (HasIfAny g t) r.1 (has_same g t x.0.ty x.0.what r.0 (sound g (wanted t) i x.0 x.1))

-- A variable that was typed keeps its rule, and is of its written type.
pub var_sound : (g : Visible) (v : Var) (x : TypedVar) → var g v ≡ Fine x → IsVar g x.what × (type_of x.what.ty ≡ x.ty)
var_sound g v x h =
    let w = first_fine (written g.shapes v.ty) (λ t. and_then (initial g t.ty v.at v.initial) (var_of v t)) x h in
    let i = first_fine (initial g w.0.ty v.at v.initial) (var_of v w.0) x w.2 in
    let is : type_of w.0.what ≡ w.0.ty = written_is g.shapes v.ty w.0 w.1 in
    let made : TypedVar = record { what = record { name = v.name; ty = w.0.what; initial = i.0; at = v.at }; ty = w.0.ty } in
    subst (λ y. IsVar g y.what × (type_of y.what.ty ≡ y.ty)) (same_fine made x i.2)
    (subst (λ t. HasIfAny g t i.0) (sym is) (initial_sound g w.0.ty v.at v.initial i.0 i.1), is)

-- A function by its number stands at its place.
place_from : (n : ℕ) (ss : List Signature) (id : ℕ) (f : Placed Signature) → function_from n ss id ≡ Some f →
    (k : ℕ) × (f.place ≡ n + k) × (slice_get ss k ≡ Some f.item)
place_from n [] id f h = absurd cc
place_from n (s ∷ ss) id f h = place_here n s ss id f (nat_eq s.id id) h (place_from (suc n) ss id f)
  where
    place_here : (n : ℕ) (s : Signature) (ss : List Signature) (id : ℕ) (f : Placed Signature) (b : Bool) →
        (if b then Some (record { place = n; item = s }) else function_from (suc n) ss id) ≡ Some f →
        (function_from (suc n) ss id ≡ Some f → (k : ℕ) × (f.place ≡ suc n + k) × (slice_get ss k ≡ Some f.item)) →
        (k : ℕ) × (f.place ≡ n + k) × (slice_get (s ∷ ss) k ≡ Some f.item)
    place_here n s ss id f true h next =
        let e : record { place = n; item = s } ≡ f = cc in (0, ap (λ z. z.place) (sym e) ∙ omega arith, ap (λ z. Some z.item) e)
    place_here n s ss id f false h next = let r = next h in (suc r.0, r.1 ∙ omega arith, r.2)

pub function_place : (ss : List Signature) (id : ℕ) (f : Placed Signature) → function_from 0 ss id ≡ Some f → slice_get ss f.place ≡ Some f.item
function_place ss id f h = let r = place_from 0 ss id f h in let k : f.place ≡ r.0 = r.1 ∙ omega arith in ap (slice_get ss) k ∙ r.2

-- Expressions so far have their types, and one more has its own.
each_more : (g : Visible) (ts : List Ty) (es : List Expr) (t : Ty) (e : Expr) → Each g ts es → Has g t e → Each g (ts ++ t ∷ []) (es ++ e ∷ [])
each_more g [] [] t e h k = (k, tt)
each_more g [] (f ∷ es) t e h k = absurd h
each_more g (u ∷ ts) [] t e h k = absurd h
each_more g (u ∷ ts) (f ∷ es) t e h k = (h.0, each_more g ts es t e h.1 k)

pub args_sound : (g : Visible) (asks : Asks) (done : Args) (es : List Expr) (z : Args) → Each g done.types done.whats → args_of g asks done es ≡ Fine z →
    Each g z.types z.whats
args_sound g asks done [] z k h = subst (λ (y : Args). Each g y.types y.whats) (same_fine done z h) k
args_sound g asks done (e ∷ es) z k h =
    let f = first_fine (expr g (next_asks asks) e) (λ t. args_of g (asks_after asks) (one_more done t) es) z h in
    args_sound g (asks_after asks) (one_more done f.0) es z (each_more g done.types done.whats f.0.ty f.0.what k (sound g (next_asks asks) e f.0 f.1)) f.2
