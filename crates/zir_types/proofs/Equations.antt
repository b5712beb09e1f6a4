-- The equations of expressions at the trees that code has.
use Rattle.std.specs.Prelude.{◌≡◌, ℕ, ◌&&◌, List, [], ◌∷◌, refl}
use Rattle.std.proofs.Common.{ap}
use denote.Hole.Carrier.{hidden}
use Rattle.zir_tree.specs.declared.ident.Ident.{Ident}
use Rattle.zir_tree.specs.declared.place.Place.{Place}
use Rattle.zir_tree.specs.declared.types.Base.{Base}
use Rattle.zir_tree.specs.declared.types.Ty.{Ty}
use Rattle.zir_tree.specs.declared.expr.Prefix.{Prefix}
use Rattle.zir_tree.specs.declared.expr.Operator.{Operator}
use Rattle.zir_tree.specs.declared.expr.Callee.{Callee}
use Rattle.zir_tree.specs.declared.expr.Expr.{Expr, Unary, Binary, Index, Slice, Part, Call, Array, Convert, Complex}
use Rattle.zir_tree.specs.declared.expr.Expr.TheBlock.{shape-the_row-Expr-0, hidden-the_row-Expr-0, shape-the_row-Expr-1, hidden-the_row-Expr-1}
use Rattle.zir_types.specs.declared.typed.Args.{Args}
use Rattle.zir_types.specs.Walk.{and_then}
use Rattle.zir_types.specs.Kinds.{scalar}
use Rattle.zir_types.specs.Scope.{Visible, called_in}
use Rattle.zir_types.specs.Expressions.{expr, args, args_of, Asks, Alike, no_args, one_more, next_asks, asks_after, is_literal, joins, signs}
use Rattle.zir_types.specs.Expressions.{number_of, negates, unary, kept, sides, unasked, indexed, sliced, selected, call, element_asked, gathered}
use Rattle.zir_types.specs.Expressions.{wanted, converted, paired}

pub funext : {A : Type 0} {B : Type 0} (f g : A → B) → ((x : A) → f x ≡ g x) → f ≡ g
funext f g h = λ i x. h x i

pub literal-Unary : (o : Prefix) (k : Base) (e : Expr) (p : Place) → is_literal (Unary o k e p) ≡ (signs o && is_literal e)
unfolding shape-the_row-Expr-0 hidden-the_row-Expr-0 hidden
literal-Unary o k e p = refl

pub literal-Binary : (o : Operator) (k : Base) (a b : Expr) (p : Place) → is_literal (Binary o k a b p) ≡ (joins o && (is_literal a && is_literal b))
unfolding shape-the_row-Expr-0 hidden-the_row-Expr-0 hidden
literal-Binary o k a b p = refl

pub expr-Unary : (g : Visible) (w : Ty) (o : Prefix) (k : Base) (e : Expr) (p : Place) →
    expr g w (Unary o k e p) ≡ unary (negates o (number_of e)) o w p (expr g (kept (signs o && is_literal e) w) e)
unfolding shape-the_row-Expr-0 hidden-the_row-Expr-0 hidden
expr-Unary g w o k e p = refl

pub expr-Binary : (g : Visible) (w : Ty) (o : Operator) (k : Base) (a b : Expr) (p : Place) →
    expr g w (Binary o k a b p) ≡ sides (is_literal a) (is_literal b) o p w (λ v. expr g v a) (λ v. expr g v b)
unfolding shape-the_row-Expr-0 hidden-the_row-Expr-0 hidden
expr-Binary g w o k a b p = refl

pub expr-Index : (g : Visible) (w : Ty) (a i : Expr) (p : Place) →
    expr g w (Index a i p) ≡ and_then (expr g unasked a) (λ s. and_then (expr g unasked i) (indexed p s))
unfolding shape-the_row-Expr-0 hidden-the_row-Expr-0 hidden
expr-Index g w a i p = refl

pub expr-Slice : (g : Visible) (w : Ty) (a i : Expr) (k : ℕ) (p : Place) →
    expr g w (Slice a i k p) ≡ and_then (expr g unasked a) (λ s. and_then (expr g unasked i) (sliced k p s))
unfolding shape-the_row-Expr-0 hidden-the_row-Expr-0 hidden
expr-Slice g w a i k p = refl

pub expr-Part : (g : Visible) (w : Ty) (a : Expr) (x : List ℕ) (k : ℕ) (p : Place) → expr g w (Part a x k p) ≡ and_then (expr g unasked a) (selected g x p)
unfolding shape-the_row-Expr-0 hidden-the_row-Expr-0 hidden
expr-Part g w a x k p = refl

pub expr-Convert : (g : Visible) (w : Ty) (b : Base) (e : Expr) (p : Place) → expr g w (Convert b e p) ≡ and_then (expr g (wanted (scalar b)) e) (converted b p)
unfolding shape-the_row-Expr-0 hidden-the_row-Expr-0 hidden
expr-Convert g w b e p = refl

pub expr-Complex : (g : Visible) (w : Ty) (b : Base) (x y : Expr) (p : Place) →
    expr g w (Complex b x y p) ≡ and_then (expr g unasked x) (λ s. and_then (expr g unasked y) (paired b p s))
unfolding shape-the_row-Expr-0 hidden-the_row-Expr-0 hidden
expr-Complex g w b x y p = refl

-- The walk of a row is that of its list.
pub args-list : (g : Visible) (asks : Asks) (done : Args) (es : List Expr) → args g asks done (hidden-the_row-Expr-1 es) ≡ args_of g asks done es
unfolding shape-the_row-Expr-1 hidden-the_row-Expr-1 hidden
args-list g asks done [] = refl
args-list g asks done (e ∷ es) = ap (and_then (expr g (next_asks asks) e)) (funext _ _ (λ t. args-list g (asks_after asks) (one_more done t) es))

pub expr-Call : (g : Visible) (w : Ty) (f : Ident) (c : Callee) (es : List Expr) →
    expr g w (Call f c es) ≡ call (called_in g f.id) f (λ asks. args_of g asks no_args es)
expr-Call g w f c es = ap (call (called_in g f.id) f) (funext _ _ (λ asks. args-list g asks no_args es))

pub expr-Array : (g : Visible) (w : Ty) (es : List Expr) (p : Place) →
    expr g w (Array es p) ≡ and_then (args_of g (Alike (element_asked w)) no_args es) (gathered p)
expr-Array g w es p = ap (λ u. and_then u (gathered p)) (args-list g (Alike (element_asked w)) no_args es)
