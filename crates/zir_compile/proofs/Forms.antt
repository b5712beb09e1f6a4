-- What the definitions say of the forms of expressions, as the code sees them.
use Rattle.std.specs.Prelude.{ℕ, List, [], ◌∷◌, Bool, ◌&&◌, ◌≡◌, refl}
use Rattle.std.specs.List.{list_all}
use Rattle.std.proofs.Common.{ap, ◌∙◌}
use denote.Hole.Carrier.{hidden}
use Rattle.zir_tree.specs.declared.ident.Ident.{Ident}
use Rattle.zir_tree.specs.declared.place.Place.{Place}
use Rattle.zir_tree.specs.declared.types.Base.{Base}
use Rattle.zir_tree.specs.declared.expr.Prefix.{Prefix}
use Rattle.zir_tree.specs.declared.expr.Operator.{Operator}
use Rattle.zir_tree.specs.declared.expr.Callee.{Callee}
use Rattle.zir_tree.specs.declared.expr.Expr.{Expr, Unary, Binary, Index, Slice, Part, Call, Array, Convert, Complex}
use Rattle.zir_tree.specs.declared.expr.Expr.TheBlock.{shape-the_row-Expr-0, hidden-the_row-Expr-0, shape-the_row-Expr-1, hidden-the_row-Expr-1}
use Rattle.zir_code.specs.Coding.{is_rooted, is_calm, are_calm, calls_none}

-- which expressions are rooted
pub rooted-Index : (a i : Expr) (p : Place) → is_rooted (Index a i p) ≡ is_rooted a
unfolding shape-the_row-Expr-0 hidden-the_row-Expr-0 hidden
rooted-Index a i p = refl

pub rooted-Slice : (a i : Expr) (k : ℕ) (p : Place) → is_rooted (Slice a i k p) ≡ is_rooted a
unfolding shape-the_row-Expr-0 hidden-the_row-Expr-0 hidden
rooted-Slice a i k p = refl

pub rooted-Part : (a : Expr) (name : List ℕ) (k : ℕ) (p : Place) → is_rooted (Part a name k p) ≡ is_rooted a
unfolding shape-the_row-Expr-0 hidden-the_row-Expr-0 hidden
rooted-Part a name k p = refl

-- which expressions are calm
calm-list : (es : List Expr) → are_calm (hidden-the_row-Expr-1 es) ≡ list_all is_calm es
unfolding shape-the_row-Expr-1 hidden-the_row-Expr-1 hidden
calm-list [] = refl
calm-list (e ∷ es) = ap (λ b. is_calm e && b) (calm-list es)

pub calm-Unary : (o : Prefix) (t : Base) (a : Expr) (p : Place) → is_calm (Unary o t a p) ≡ is_calm a
unfolding shape-the_row-Expr-0 hidden-the_row-Expr-0 hidden
calm-Unary o t a p = refl

pub calm-Binary : (o : Operator) (t : Base) (a b : Expr) (p : Place) → is_calm (Binary o t a b p) ≡ (is_calm a && is_calm b)
unfolding shape-the_row-Expr-0 hidden-the_row-Expr-0 hidden
calm-Binary o t a b p = refl

pub calm-Index : (a i : Expr) (p : Place) → is_calm (Index a i p) ≡ (is_calm a && is_calm i)
unfolding shape-the_row-Expr-0 hidden-the_row-Expr-0 hidden
calm-Index a i p = refl

pub calm-Slice : (a i : Expr) (k : ℕ) (p : Place) → is_calm (Slice a i k p) ≡ (is_calm a && is_calm i)
unfolding shape-the_row-Expr-0 hidden-the_row-Expr-0 hidden
calm-Slice a i k p = refl

pub calm-Part : (a : Expr) (name : List ℕ) (k : ℕ) (p : Place) → is_calm (Part a name k p) ≡ is_calm a
unfolding shape-the_row-Expr-0 hidden-the_row-Expr-0 hidden
calm-Part a name k p = refl

pub calm-Call : (f : Ident) (callee : Callee) (es : List Expr) → is_calm (Call f callee es) ≡ (calls_none callee && list_all is_calm es)
calm-Call f callee es = ap (λ b. calls_none callee && b) (calm-list es)

pub calm-Array : (es : List Expr) (p : Place) → is_calm (Array es p) ≡ list_all is_calm es
calm-Array es p = calm-list es

pub calm-Convert : (t : Base) (a : Expr) (p : Place) → is_calm (Convert t a p) ≡ is_calm a
unfolding shape-the_row-Expr-0 hidden-the_row-Expr-0 hidden
calm-Convert t a p = refl

pub calm-Complex : (t : Base) (a b : Expr) (p : Place) → is_calm (Complex t a b p) ≡ (is_calm a && is_calm b)
unfolding shape-the_row-Expr-0 hidden-the_row-Expr-0 hidden
calm-Complex t a b p = refl

-- two that hold both
pub both-are : (r x y a b : Bool) → r ≡ (x && y) → x ≡ a → y ≡ b → r ≡ (a && b)
both-are r x y a b e f g = e ∙ ap (λ z. z && y) f ∙ ap (λ z. a && z) g
