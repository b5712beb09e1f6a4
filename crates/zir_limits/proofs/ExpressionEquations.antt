-- The equations of expressions at the trees that code has.
use Rattle.std.specs.Prelude.{◌≡◌, ℕ, suc, ◌+◌, ◌*◌, max, List, [], ◌∷◌, ◌++◌, length, refl}
use Rattle.std.proofs.Common.{ap, ◌∙◌}
use denote.Hole.Carrier.{hidden}
use Rattle.zir_tree.specs.declared.ident.Ident.{Ident}
use Rattle.zir_tree.specs.declared.place.Place.{Place}
use Rattle.zir_tree.specs.declared.types.Base.{Base}
use Rattle.zir_tree.specs.declared.expr.Prefix.{Prefix}
use Rattle.zir_tree.specs.declared.expr.Operator.{Operator}
use Rattle.zir_tree.specs.declared.expr.Callee.{Callee}
use Rattle.zir_tree.specs.declared.expr.Expr.{Expr, Unary, Binary, Index, Slice, Part, Call, Array, Convert, Complex}
use Rattle.zir_tree.specs.declared.expr.Expr.TheBlock.{shape-the_row-Expr-0, hidden-the_row-Expr-0, shape-the_row-Expr-1, hidden-the_row-Expr-1}
use Rattle.zir_types.specs.Kinds.{arr}
use Rattle.zir_types.specs.Scope.{Visible, part_in, capped, cells_in}
use Rattle.zir_types.specs.Typing.{row_length}
use Rattle.zir_types.specs.Known.{type_of, head_type, element_of, part_ty}
use Rattle.zir_types.specs.Needs.{Needs, expr_need, row_need, exprs_need, call_need, counted}
use Rattle.zir_types.specs.Measures.{Spans, Holds, in_expr, in_row, in_exprs, in_callee}
use Rattle.zir_limits.specs.Lists.{first_ty, array_ty}

pub need-Unary : (n : Needs) (op : Prefix) (base : Base) (e : Expr) (at : Place) → expr_need n (Unary op base e at) ≡ expr_need n e
unfolding shape-the_row-Expr-0 hidden-the_row-Expr-0 hidden
need-Unary n op base e at = refl

pub need-Binary : (n : Needs) (op : Operator) (base : Base) (a b : Expr) (at : Place) →
    expr_need n (Binary op base a b at) ≡ max (expr_need n a) (expr_need n b)
unfolding shape-the_row-Expr-0 hidden-the_row-Expr-0 hidden
need-Binary n op base a b at = refl

pub need-Index : (n : Needs) (a i : Expr) (at : Place) → expr_need n (Index a i at) ≡ max (expr_need n a) (expr_need n i)
unfolding shape-the_row-Expr-0 hidden-the_row-Expr-0 hidden
need-Index n a i at = refl

pub need-Slice : (n : Needs) (a i : Expr) (k : ℕ) (at : Place) → expr_need n (Slice a i k at) ≡ max (expr_need n a) (expr_need n i)
unfolding shape-the_row-Expr-0 hidden-the_row-Expr-0 hidden
need-Slice n a i k at = refl

pub need-Part : (n : Needs) (a : Expr) (name : List ℕ) (k : ℕ) (at : Place) → expr_need n (Part a name k at) ≡ expr_need n a
unfolding shape-the_row-Expr-0 hidden-the_row-Expr-0 hidden
need-Part n a name k at = refl

pub need-Convert : (n : Needs) (base : Base) (e : Expr) (at : Place) → expr_need n (Convert base e at) ≡ expr_need n e
unfolding shape-the_row-Expr-0 hidden-the_row-Expr-0 hidden
need-Convert n base e at = refl

pub need-Complex : (n : Needs) (base : Base) (a b : Expr) (at : Place) →
    expr_need n (Complex base a b at) ≡ max (expr_need n a) (expr_need n b)
unfolding shape-the_row-Expr-0 hidden-the_row-Expr-0 hidden
need-Complex n base a b at = refl

-- the needs of a row are those of the list
pub need-row : (n : Needs) (es : List Expr) → row_need n (hidden-the_row-Expr-1 es) ≡ exprs_need n es
unfolding shape-the_row-Expr-1 hidden-the_row-Expr-1 hidden
need-row n [] = refl
need-row n (e ∷ es) = ap (λ r. max (expr_need n e) r) (need-row n es)

pub need-Call : (n : Needs) (f : Ident) (c : Callee) (es : List Expr) → expr_need n (Call f c es) ≡ counted (exprs_need n es + call_need n c)
need-Call n f c es = ap (λ r. counted (r + call_need n c)) (need-row n es)

pub need-Array : (n : Needs) (es : List Expr) (at : Place) → expr_need n (Array es at) ≡ exprs_need n es
need-Array n es at = need-row n es

pub type-Index : (g : Visible) (a i : Expr) (at : Place) → type_of g (Index a i at) ≡ element_of (type_of g a)
unfolding shape-the_row-Expr-0 hidden-the_row-Expr-0 hidden
type-Index g a i at = refl

pub type-Slice : (g : Visible) (a i : Expr) (k : ℕ) (at : Place) → type_of g (Slice a i k at) ≡ arr k (element_of (type_of g a))
unfolding shape-the_row-Expr-0 hidden-the_row-Expr-0 hidden
type-Slice g a i k at = refl

pub type-Part : (g : Visible) (a : Expr) (name : List ℕ) (k : ℕ) (at : Place) → type_of g (Part a name k at) ≡ part_ty (part_in g.shapes (type_of g a) name)
unfolding shape-the_row-Expr-0 hidden-the_row-Expr-0 hidden
type-Part g a name k at = refl

-- a row has as many expressions as the list
pub row_length-list : (es : List Expr) → row_length (hidden-the_row-Expr-1 es) ≡ length es
unfolding shape-the_row-Expr-1 hidden-the_row-Expr-1 hidden
row_length-list [] = refl
row_length-list (e ∷ es) = ap suc (row_length-list es)

-- and the same first type
pub head_type-list : (g : Visible) (es : List Expr) → head_type g (hidden-the_row-Expr-1 es) ≡ first_ty g es
unfolding shape-the_row-Expr-1 hidden-the_row-Expr-1 hidden
head_type-list g [] = refl
head_type-list g (e ∷ es) = refl

pub type-Array : (g : Visible) (es : List Expr) (at : Place) → type_of g (Array es at) ≡ array_ty g es
type-Array g es at = ap (λ k. arr k (head_type g (hidden-the_row-Expr-1 es))) (row_length-list es) ∙ ap (arr (length es)) (head_type-list g es)

pub in-Unary : (g : Visible) (op : Prefix) (base : Base) (e : Expr) (at : Place) → in_expr g (Unary op base e at) ≡ in_expr g e
unfolding shape-the_row-Expr-0 hidden-the_row-Expr-0 hidden
in-Unary g op base e at = refl

pub in-Binary : (g : Visible) (op : Operator) (base : Base) (a b : Expr) (at : Place) →
    in_expr g (Binary op base a b at) ≡ in_expr g a ++ in_expr g b
unfolding shape-the_row-Expr-0 hidden-the_row-Expr-0 hidden
in-Binary g op base a b at = refl

pub in-Index : (g : Visible) (a i : Expr) (at : Place) → in_expr g (Index a i at) ≡ in_expr g a ++ in_expr g i
unfolding shape-the_row-Expr-0 hidden-the_row-Expr-0 hidden
in-Index g a i at = refl

pub in-Slice : (g : Visible) (a i : Expr) (k : ℕ) (at : Place) →
    in_expr g (Slice a i k at) ≡ (Spans k at ∷ []) ++ in_expr g a ++ in_expr g i
unfolding shape-the_row-Expr-0 hidden-the_row-Expr-0 hidden
in-Slice g a i k at = refl

pub in-Part : (g : Visible) (a : Expr) (name : List ℕ) (k : ℕ) (at : Place) → in_expr g (Part a name k at) ≡ in_expr g a
unfolding shape-the_row-Expr-0 hidden-the_row-Expr-0 hidden
in-Part g a name k at = refl

pub in-Convert : (g : Visible) (base : Base) (e : Expr) (at : Place) → in_expr g (Convert base e at) ≡ in_expr g e
unfolding shape-the_row-Expr-0 hidden-the_row-Expr-0 hidden
in-Convert g base e at = refl

pub in-Complex : (g : Visible) (base : Base) (a b : Expr) (at : Place) →
    in_expr g (Complex base a b at) ≡ in_expr g a ++ in_expr g b
unfolding shape-the_row-Expr-0 hidden-the_row-Expr-0 hidden
in-Complex g base a b at = refl

-- the measures of a row are those of the list
pub in_row-list : (g : Visible) (es : List Expr) → in_row g (hidden-the_row-Expr-1 es) ≡ in_exprs g es
unfolding shape-the_row-Expr-1 hidden-the_row-Expr-1 hidden
in_row-list g [] = refl
in_row-list g (e ∷ es) = ap (λ r. in_expr g e ++ r) (in_row-list g es)

pub in-Call : (g : Visible) (f : Ident) (c : Callee) (es : List Expr) → in_expr g (Call f c es) ≡ in_callee c f.at ++ in_exprs g es
in-Call g f c es = ap (λ r. in_callee c f.at ++ r) (in_row-list g es)

pub in-Array : (g : Visible) (es : List Expr) (at : Place) →
    in_expr g (Array es at) ≡ (Spans (length es) at ∷ []) ++ (Holds (cells_in g.shapes (type_of g (Array es at))) at ∷ []) ++ in_exprs g es
in-Array g es at =
    ap (λ k. Spans k at ∷ Holds (cells_in g.shapes (type_of g (Array es at))) at ∷ in_row g (hidden-the_row-Expr-1 es)) (row_length-list es)
    ∙ ap (λ r. Spans (length es) at ∷ Holds (cells_in g.shapes (type_of g (Array es at))) at ∷ r) (in_row-list g es)

-- the cells of an array are those of its first element so many times
pub in-Literal : (g : Visible) (es : List Expr) (at : Place) →
    in_expr g (Array es at) ≡ Spans (length es) at ∷ Holds (capped (length es * cells_in g.shapes (first_ty g es))) at ∷ in_exprs g es
in-Literal g es at = in-Array g es at ∙ ap (λ t. Spans (length es) at ∷ Holds (cells_in g.shapes t) at ∷ in_exprs g es) (type-Array g es at)
