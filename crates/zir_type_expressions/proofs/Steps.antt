-- What the code has shown of a part, at the part that the tree has.
use Rattle.std.specs.Prelude.{◌≡◌, refl, Bool, true, false, ◌&&◌, not, Result, List}
use Rattle.std.proofs.Common.{ap, ◌∙◌, sym, subst, IsErrAnd}
use Rattle.zir_tree.specs.declared.place.Place.{Place}
use Rattle.zir_tree.specs.declared.types.Base.{Base}
use Rattle.zir_tree.specs.declared.types.Ty.{Ty}
use Rattle.zir_tree.specs.declared.expr.Operator.{Operator}
use Rattle.zir_tree.specs.declared.expr.Expr.{Expr, Binary}
use Rattle.zir_types.specs.declared.typed.Typed.{Typed}
use Rattle.zir_types.specs.declared.typed.Args.{Args}
use Rattle.zir_types.specs.declared.error.TypeError.{TypeError}
use Rattle.zir_types.specs.Walk.{Walk, Fine, and_then, Refuses, Told}
use Rattle.zir_types.specs.Scope.{Visible}
use Rattle.zir_types.specs.Expressions.{expr, args_of, Asks, no_args, unasked, kept, lent, asked, joins, is_literal, sided, sides, joined}
use Rattle.zir_types.proofs.Told.{told_err}
use Rattle.zir_types.proofs.Equations.{expr-Binary}

-- A part that was typed.
pub part_fine : (g : Visible) (w1 w : Ty) (e1 e : Expr) (x : Typed) → w1 ≡ w → e1 ≡ e → expr g w1 e1 ≡ Fine x → expr g w e ≡ Fine x
part_fine g w1 w e1 e x hw he h = ap (λ v. expr g v e) (sym hw) ∙ ap (expr g w1) (sym he) ∙ h

-- A part that was refused.
pub part_refuses : (g : Visible) (w1 w : Ty) (e1 e : Expr) (x : TypeError) → w1 ≡ w → e1 ≡ e → Refuses (expr g w1 e1) x → Refuses (expr g w e) x
part_refuses g w1 w e1 e x hw he h = subst (λ v. Refuses (expr g v e) x) hw (subst (λ f. Refuses (expr g w1 f) x) he h)

-- A form with one part that was refused.
pub one_err : (g : Visible) (whole : Walk Typed) (v1 v : Ty) (e1 e : Expr) (rule : Typed → Walk Typed) (x : TypeError) (r : Result Typed TypeError) →
    whole ≡ and_then (expr g v e) rule → v1 ≡ v → e1 ≡ e → IsErrAnd r (λ y. y ≡ x) → Refuses (expr g v1 e1) x → Told whole r
one_err g whole v1 v e1 e rule x r h hv he is rf =
    subst (λ u. Told u r) (sym h) (told_err (expr g v e) rule x r is (part_refuses g v1 v e1 e x hv he rf))

-- A form with one part that was typed, and its rule.
pub one_ok : (g : Visible) (whole : Walk Typed) (v1 v : Ty) (e1 e : Expr) (rule : Typed → Walk Typed) (t : Typed) (r : Result Typed TypeError) →
    whole ≡ and_then (expr g v e) rule → v1 ≡ v → e1 ≡ e → expr g v1 e1 ≡ Fine t → Told (rule t) r → Told whole r
one_ok g whole v1 v e1 e rule t r h hv he q told =
    subst (λ u. Told u r) (sym (h ∙ ap (λ u. and_then u rule) (part_fine g v1 v e1 e t hv he q))) told

-- The sides of an operator, by what the code has found of them.
sides_walk : (g : Visible) (w : Ty) (o : Operator) (k : Base) (a b a1 b1 : Expr) (p : Place) (l m f : Bool) → a1 ≡ a → b1 ≡ b → l ≡ is_literal a1 → m ≡ is_literal b1 → f ≡ (l && not m) →
    expr g w (Binary o k a b p) ≡ sided f l m o p w (λ v. expr g v a) (λ v. expr g v b)
sides_walk g w o k a b a1 b1 p l m f ha hb hl hm hf =
    expr-Binary g w o k a b p
    ∙ ap (λ x. sides x (is_literal b) o p w (λ v. expr g v a) (λ v. expr g v b)) (ap is_literal (sym ha) ∙ sym hl)
    ∙ ap (λ y. sides l y o p w (λ v. expr g v a) (λ v. expr g v b)) (ap is_literal (sym hb) ∙ sym hm)
    ∙ ap (λ z. sided z l m o p w (λ v. expr g v a) (λ v. expr g v b)) (sym hf)

-- A literal on the left comes after the right side.
pub right_walk : (g : Visible) (w : Ty) (o : Operator) (k : Base) (a b a1 b1 : Expr) (p : Place) (l m f : Bool) → a1 ≡ a → b1 ≡ b → l ≡ is_literal a1 → m ≡ is_literal b1 → f ≡ (l && not m) → f ≡ true →
    expr g w (Binary o k a b p) ≡ and_then (expr g unasked b) (λ t. and_then (expr g (lent t) a) (λ s. joined o p s t))
right_walk g w o k a b a1 b1 p l m f ha hb hl hm hf t = sides_walk g w o k a b a1 b1 p l m true ha hb hl hm (sym t ∙ hf)

-- Else the left side comes first.
pub left_walk : (g : Visible) (w : Ty) (o : Operator) (k : Base) (a b a1 b1 : Expr) (p : Place) (l m f : Bool) → a1 ≡ a → b1 ≡ b → l ≡ is_literal a1 → m ≡ is_literal b1 → f ≡ (l && not m) → f ≡ false →
    expr g w (Binary o k a b p) ≡ and_then (expr g (kept (l && joins o) w) a) (λ s. and_then (expr g (asked l m o w s) b) (joined o p s))
left_walk g w o k a b a1 b1 p l m f ha hb hl hm hf t = sides_walk g w o k a b a1 b1 p l m false ha hb hl hm (sym t ∙ hf)

-- A part that was refused, and whatever comes behind it.
pub expr_err : {B : Type 0} (g : Visible) (v1 v : Ty) (e : Expr) (rule : Typed → Walk B) (x : TypeError) (r : Result B TypeError) →
    v1 ≡ v → IsErrAnd r (λ y. y ≡ x) → Refuses (expr g v1 e) x → Told (and_then (expr g v e) rule) r
expr_err g v1 v e rule x r hv is rf = told_err (expr g v e) rule x r is (part_refuses g v1 v e e x hv refl rf)

-- A part that was typed, and what comes behind it.
pub expr_ok : {B : Type 0} (g : Visible) (v1 v : Ty) (e : Expr) (rule : Typed → Walk B) (t : Typed) (r : Result B TypeError) →
    v1 ≡ v → expr g v1 e ≡ Fine t → Told (rule t) r → Told (and_then (expr g v e) rule) r
expr_ok g v1 v e rule t r hv q told = subst (λ u. Told (and_then u rule) r) (sym (part_fine g v1 v e e t hv refl q)) told

-- A walk that went on, and what comes behind it.
pub told_ok : {A B : Type 0} (walk : Walk A) (next : A → Walk B) (made : A) (r : Result B TypeError) → walk ≡ Fine made → Told (next made) r → Told (and_then walk next) r
told_ok walk next made r q told = subst (λ u. Told (and_then u next) r) (sym q) told

-- A walk by another name.
pub told_as : {A : Type 0} (whole walk : Walk A) (r : Result A TypeError) → whole ≡ walk → Told walk r → Told whole r
told_as whole walk r h told = subst (λ u. Told u r) (sym h) told

-- A part and what is asked of it, by other names.
pub shifted : {B : Type 0} (g : Visible) (v1 v : Ty) (e1 e : Expr) (rule : Typed → Walk B) (r : Result B TypeError) → v1 ≡ v → e1 ≡ e →
    Told (and_then (expr g v1 e1) rule) r → Told (and_then (expr g v e) rule) r
shifted g v1 v e1 e rule r hv he told =
    subst (λ w. Told (and_then (expr g w e) rule) r) hv (subst (λ f. Told (and_then (expr g v1 f) rule) r) he told)

-- A list of parts and what is asked of them, by other names.
pub shifted_args : {B : Type 0} (g : Visible) (a1 a : Asks) (l1 l : List Expr) (rule : Args → Walk B) (r : Result B TypeError) → a1 ≡ a → l1 ≡ l →
    Told (and_then (args_of g a1 no_args l1) rule) r → Told (and_then (args_of g a no_args l) rule) r
shifted_args g a1 a l1 l rule r ha hl told =
    subst (λ b. Told (and_then (args_of g b no_args l) rule) r) ha (subst (λ k. Told (and_then (args_of g a1 no_args k) rule) r) hl told)
