-- The equations of expressions at the trees that code has.
use Rattle.std.specs.Prelude.{ℕ, ◌≡◌, ◌⊎◌, List, refl}
use Rattle.std.proofs.Common.{ap, ◌∙◌, inl, inr}
use denote.Hole.Carrier.{hidden}
use Rattle.zir_tree.specs.declared.place.Place.{Place}
use Rattle.zir_tree.specs.declared.types.Base.{Base}
use Rattle.zir_tree.specs.declared.expr.Operator.{Operator}
use Rattle.zir_tree.specs.declared.expr.Expr.{Expr, Binary, Index, Slice, Part}
use Rattle.zir_tree.specs.declared.expr.Expr.TheBlock.{shape-the_row-Expr-0, hidden-the_row-Expr-0}
use Rattle.zir_bit_tree.specs.declared.tree.Expr.{Xor}
use Rattle.zir_narrow.specs.Narrow.{Fine, Stuck, and_then, allowed, is_bit_xor, expr}

pub expr-Binary : (bound : List ℕ) (op : Operator) (t : Base) (a b : Expr) (at : Place) →
    expr bound (Binary op t a b at) ≡
    and_then (expr bound a) (λ left. and_then (allowed (is_bit_xor op t) at (tt {0})) (λ _. and_then (expr bound b) (λ right. Fine (Xor left right at))))
unfolding shape-the_row-Expr-0 hidden-the_row-Expr-0 hidden
expr-Binary bound op t a b at = refl

pub expr-Index : (bound : List ℕ) (a i : Expr) (at : Place) → expr bound (Index a i at) ≡ and_then (expr bound a) (λ _. Stuck at)
unfolding shape-the_row-Expr-0 hidden-the_row-Expr-0 hidden
expr-Index bound a i at = refl

pub expr-Slice : (bound : List ℕ) (a i : Expr) (n : ℕ) (at : Place) →
    expr bound (Slice a i n at) ≡ and_then (expr bound a) (λ _. Stuck at)
unfolding shape-the_row-Expr-0 hidden-the_row-Expr-0 hidden
expr-Slice bound a i n at = refl

pub expr-Part : (bound : List ℕ) (a : Expr) (name : List ℕ) (n : ℕ) (at : Place) →
    expr bound (Part a name n at) ≡ and_then (expr bound a) (λ _. Stuck at)
unfolding shape-the_row-Expr-0 hidden-the_row-Expr-0 hidden
expr-Part bound a name n at = refl

-- an index, a slice or a field of an expression: that expression comes first, and then nothing that is bits
pub part-of : (bound : List ℕ) (e a : Expr) (at : Place) →
    ((i : Expr) × (e ≡ Index a i at)) ⊎ (((i : Expr) × (n : ℕ) × (e ≡ Slice a i n at)) ⊎ ((name : List ℕ) × (n : ℕ) × (e ≡ Part a name n at))) →
    expr bound e ≡ and_then (expr bound a) (λ _. Stuck at)
part-of bound e a at h =
    elim h [
      | inl p ↦ ap (expr bound) p.1 ∙ expr-Index bound a p.0 at
      | inr q ↦ elim q [
        | inl p ↦ ap (expr bound) p.2 ∙ expr-Slice bound a p.0 p.1 at
        | inr p ↦ ap (expr bound) p.2 ∙ expr-Part bound a p.0 p.1 at
      ]
    ]
