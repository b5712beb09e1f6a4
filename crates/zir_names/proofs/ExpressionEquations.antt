-- The equations of expressions at the trees that code has.
use Rattle.std.specs.Prelude.{◌≡◌, ℕ, List, [], ◌∷◌, refl}
use Rattle.std.proofs.Common.{ap}
use denote.Hole.Carrier.{hidden}
use Rattle.zir_tree.specs.declared.ident.Ident.{Ident}
use Rattle.zir_tree.specs.declared.place.Place.{Place}
use Rattle.zir_tree.specs.declared.types.Base.{Base}
use Rattle.zir_tree.specs.declared.expr.Prefix.{Prefix}
use Rattle.zir_tree.specs.declared.expr.Operator.{Operator}
use Rattle.zir_tree.specs.declared.expr.Callee.{Callee}
use Rattle.zir_tree.specs.declared.expr.Expr.{Expr, Unary, Binary, Index, Slice, Part, Call, Array, Convert, Complex}
use Rattle.zir_tree.specs.declared.expr.Expr.TheBlock.{shape-the_row-Expr-0, hidden-the_row-Expr-0, shape-the_row-Expr-1, hidden-the_row-Expr-1}
use Rattle.zir_names.specs.declared.scope.Need.TheVariants as need
use Rattle.zir_names.specs.Walk.{Fine, and_then}
use Rattle.zir_names.specs.Scope.{Seen, resolved}
use Rattle.zir_names.specs.Expressions.{each, expr, exprs}

pub expr-Unary : (seen : Seen) (op : Prefix) (base : Base) (e : Expr) (at : Place) →
    expr seen (Unary op base e at) ≡ and_then (expr seen e) (λ e'. Fine (Unary op base e' at))
unfolding shape-the_row-Expr-0 hidden-the_row-Expr-0 hidden
expr-Unary seen op base e at = refl

pub expr-Binary : (seen : Seen) (op : Operator) (base : Base) (a b : Expr) (at : Place) →
    expr seen (Binary op base a b at) ≡ and_then (expr seen a) (λ a'. and_then (expr seen b) (λ b'. Fine (Binary op base a' b' at)))
unfolding shape-the_row-Expr-0 hidden-the_row-Expr-0 hidden
expr-Binary seen op base a b at = refl

pub expr-Index : (seen : Seen) (a i : Expr) (at : Place) →
    expr seen (Index a i at) ≡ and_then (expr seen a) (λ a'. and_then (expr seen i) (λ i'. Fine (Index a' i' at)))
unfolding shape-the_row-Expr-0 hidden-the_row-Expr-0 hidden
expr-Index seen a i at = refl

pub expr-Slice : (seen : Seen) (a i : Expr) (n : ℕ) (at : Place) →
    expr seen (Slice a i n at) ≡ and_then (expr seen a) (λ a'. and_then (expr seen i) (λ i'. Fine (Slice a' i' n at)))
unfolding shape-the_row-Expr-0 hidden-the_row-Expr-0 hidden
expr-Slice seen a i n at = refl

pub expr-Part : (seen : Seen) (e : Expr) (name : List ℕ) (n : ℕ) (at : Place) →
    expr seen (Part e name n at) ≡ and_then (expr seen e) (λ e'. Fine (Part e' name n at))
unfolding shape-the_row-Expr-0 hidden-the_row-Expr-0 hidden
expr-Part seen e name n at = refl

pub expr-Convert : (seen : Seen) (base : Base) (e : Expr) (at : Place) →
    expr seen (Convert base e at) ≡ and_then (expr seen e) (λ e'. Fine (Convert base e' at))
unfolding shape-the_row-Expr-0 hidden-the_row-Expr-0 hidden
expr-Convert seen base e at = refl

pub expr-Complex : (seen : Seen) (base : Base) (a b : Expr) (at : Place) →
    expr seen (Complex base a b at) ≡ and_then (expr seen a) (λ a'. and_then (expr seen b) (λ b'. Fine (Complex base a' b' at)))
unfolding shape-the_row-Expr-0 hidden-the_row-Expr-0 hidden
expr-Complex seen base a b at = refl

-- the parts of a call are a list
pub exprs-list : (seen : Seen) (es : List Expr) → exprs seen (hidden-the_row-Expr-1 es) ≡ each (expr seen) es
unfolding shape-the_row-Expr-1 hidden-the_row-Expr-1 hidden
exprs-list seen [] = refl
exprs-list seen (e ∷ es) = ap (λ w. and_then (expr seen e) (λ e'. and_then w (λ es'. Fine (e' ∷ es')))) (exprs-list seen es)

pub expr-Call : (seen : Seen) (f : Ident) (callee : Callee) (es : List Expr) →
    expr seen (Call f callee es) ≡ and_then (resolved need.Call seen f) (λ f'. and_then (each (expr seen) es) (λ es'. Fine (Call f' callee es')))
expr-Call seen f callee es = ap (λ w. and_then (resolved need.Call seen f) (λ f'. and_then w (λ es'. Fine (Call f' callee es')))) (exprs-list seen es)

pub expr-Array : (seen : Seen) (es : List Expr) (at : Place) → expr seen (Array es at) ≡ and_then (each (expr seen) es) (λ es'. Fine (Array es' at))
expr-Array seen es at = ap (λ w. and_then w (λ es'. Fine (Array es' at))) (exprs-list seen es)
