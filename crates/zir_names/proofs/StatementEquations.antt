-- The equations of statements at the trees that code has.
use Rattle.std.specs.Prelude.{◌≡◌, List, [], ◌∷◌, refl}
use Rattle.std.proofs.Common.{ap, ◌∙◌}
use denote.Hole.Carrier.{hidden}
use Rattle.zir_tree.specs.declared.ident.Ident.{Ident}
use Rattle.zir_tree.specs.declared.place.Place.{Place}
use Rattle.zir_tree.specs.declared.expr.Expr.{Expr}
use Rattle.zir_tree.specs.declared.stmt.Stmt.{Stmt, If, IfElse, While, For}
use Rattle.zir_tree.specs.declared.stmt.Stmt.TheBlock.{shape-the_row-Stmt-0, hidden-the_row-Stmt-0}
use Rattle.zir_names.specs.Walk.{Walk, and_then}
use Rattle.zir_names.specs.Scope.{Seen, Done, done, closed, numbered}
use Rattle.zir_names.specs.Expressions.{expr}
use Rattle.zir_names.specs.Statements.{in_turn, indexed, stmt, stmts}

pub funext : {A : Type 0} {B : Type 0} (f g : A → B) → ((x : A) → f x ≡ g x) → f ≡ g
funext f g h = λ i x. h x i

-- one part and a row after it
abbrev then_row : Walk (Done Stmt) → (Done Stmt → Walk (Done (List Stmt))) → Walk (Done (List Stmt))
then_row first rest = and_then first (λ s. and_then (rest s) (λ ss. done (s.made ∷ ss.made) ss.seen))

-- the statements of a list
pub stmts-list : (seen : Seen) (ss : List Stmt) → stmts seen (hidden-the_row-Stmt-0 ss) ≡ in_turn stmt seen ss
unfolding shape-the_row-Stmt-0 hidden-the_row-Stmt-0 hidden
stmts-list seen [] = refl
stmts-list seen (s ∷ ss) = ap (then_row (stmt seen s)) (funext _ _ (λ d. stmts-list d.seen ss))

pub stmt-If : (seen : Seen) (e : Expr) (ss : List Stmt) (at : Place) →
    stmt seen (If e ss at) ≡ and_then (expr seen e) (λ e'. and_then (closed seen (in_turn stmt seen ss)) (λ ss'. done (If e' ss'.made at) ss'.seen))
stmt-If seen e ss at = ap (λ w. and_then (expr seen e) (λ e'. and_then (closed seen w) (λ ss'. done (If e' ss'.made at) ss'.seen))) (stmts-list seen ss)

pub stmt-While : (seen : Seen) (e : Expr) (ss : List Stmt) (at : Place) →
    stmt seen (While e ss at) ≡ and_then (expr seen e) (λ e'. and_then (closed seen (in_turn stmt seen ss)) (λ ss'. done (While e' ss'.made at) ss'.seen))
stmt-While seen e ss at = ap (λ w. and_then (expr seen e) (λ e'. and_then (closed seen w) (λ ss'. done (While e' ss'.made at) ss'.seen))) (stmts-list seen ss)

pub stmt-IfElse : (seen : Seen) (e : Expr) (ss ts : List Stmt) (at : Place) →
    stmt seen (IfElse e ss ts at) ≡ and_then (expr seen e) (λ e'. and_then (closed seen (in_turn stmt seen ss)) (λ ss'.
    and_then (closed ss'.seen (in_turn stmt ss'.seen ts)) (λ ts'. done (IfElse e' ss'.made ts'.made at) ts'.seen)))
stmt-IfElse seen e ss ts at =
    ap (λ w. and_then (expr seen e) (λ e'. and_then (closed seen w) (λ ss'. and_then (closed ss'.seen (stmts ss'.seen (hidden-the_row-Stmt-0 ts))) (λ ts'. done (IfElse e' ss'.made ts'.made at) ts'.seen)))) (stmts-list seen ss)
    ∙ ap (λ f. and_then (expr seen e) (λ e'. and_then (closed seen (in_turn stmt seen ss)) (λ ss'. and_then (closed ss'.seen (f ss'.seen)) (λ ts'. done (IfElse e' ss'.made ts'.made at) ts'.seen))))
    (funext (λ s. stmts s (hidden-the_row-Stmt-0 ts)) (λ s. in_turn stmt s ts) (λ s. stmts-list s ts))

pub stmt-For : (seen : Seen) (x : Ident) (a n : Expr) (ss : List Stmt) (at : Place) →
    stmt seen (For x a n ss at) ≡ and_then (expr seen a) (λ a'. and_then (expr seen n) (λ n'. and_then (closed seen (in_turn stmt (indexed seen x) ss)) (λ ss'.
    done (For (numbered seen x) a' n' ss'.made at) ss'.seen)))
stmt-For seen x a n ss at =
    ap (λ w. and_then (expr seen a) (λ a'. and_then (expr seen n) (λ n'. and_then (closed seen w) (λ ss'. done (For (numbered seen x) a' n' ss'.made at) ss'.seen)))) (stmts-list (indexed seen x) ss)
