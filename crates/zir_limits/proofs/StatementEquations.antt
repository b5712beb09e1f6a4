-- The equations of statements at the trees that code has.
use Rattle.std.specs.Prelude.{◌≡◌, ℕ, ◌+◌, max, List, [], ◌∷◌, ◌++◌, Option, Some, None, refl}
use Rattle.std.proofs.Common.{ap, ◌∙◌, sym, append_assoc, append-nil}
use denote.Hole.Carrier.{hidden}
use Rattle.zir_tree.specs.declared.ident.Ident.{Ident}
use Rattle.zir_tree.specs.declared.place.Place.{Place}
use Rattle.zir_tree.specs.declared.expr.Expr.{Expr}
use Rattle.zir_tree.specs.declared.stmt.Return.{Return}
use Rattle.zir_tree.specs.declared.stmt.Stmt.{Stmt, Var, Assign, Call, Error, If, If', IfElse, IfElse', While, While', For, For'}
use Rattle.zir_tree.specs.declared.stmt.Stmt.TheBlock.{shape-the_row-Stmt-0, hidden-the_row-Stmt-0}
use Rattle.zir_types.specs.declared.scope.Seen.{Seen}
use Rattle.zir_types.specs.declared.scope.Shape.{Shape}
use Rattle.zir_types.specs.Scope.{Visible, declare}
use Rattle.zir_types.specs.Statements.{with_index}
use Rattle.zir_types.specs.Known.{seen_stmts, seen_in}
use Rattle.zir_types.specs.Needs.{Needs, Sums, expr_need, stmt_need, stmts_sums, list_sums, sums_need, kept_cells, with_part, counted}
use Rattle.zir_types.specs.Measures.{Measure, in_expr, in_stmt, in_stmts, in_list, seen_stmt}
use Rattle.zir_limits.specs.Facts.{CoreFacts, sight}

-- the sums of a row are those of the list
pub sums-list : (shapes : List Shape) (n : Needs) (ss : List Stmt) → stmts_sums shapes n (hidden-the_row-Stmt-0 ss) ≡ list_sums shapes n ss None
unfolding shape-the_row-Stmt-0 hidden-the_row-Stmt-0 hidden
sums-list shapes n [] = refl
sums-list shapes n (s ∷ ss) = ap (with_part (kept_cells shapes s) (stmt_need shapes n s)) (sums-list shapes n ss)

pub need-If : (shapes : List Shape) (n : Needs) (e : Expr) (ss : List Stmt) (at : Place) →
    stmt_need shapes n (If e ss at) ≡ max (expr_need n e) (sums_need (list_sums shapes n ss None))
need-If shapes n e ss at = ap (λ s. max (expr_need n e) (sums_need s)) (sums-list shapes n ss)

pub need-While : (shapes : List Shape) (n : Needs) (e : Expr) (ss : List Stmt) (at : Place) →
    stmt_need shapes n (While e ss at) ≡ max (expr_need n e) (sums_need (list_sums shapes n ss None))
need-While shapes n e ss at = ap (λ s. max (expr_need n e) (sums_need s)) (sums-list shapes n ss)

pub need-IfElse : (shapes : List Shape) (n : Needs) (e : Expr) (ss us : List Stmt) (at : Place) →
    stmt_need shapes n (IfElse e ss us at)
    ≡ max (expr_need n e) (max (sums_need (list_sums shapes n ss None)) (sums_need (list_sums shapes n us None)))
need-IfElse shapes n e ss us at =
    ap (λ s. max (expr_need n e) (max (sums_need s) (sums_need (stmts_sums shapes n (hidden-the_row-Stmt-0 us))))) (sums-list shapes n ss)
    ∙ ap (λ s. max (expr_need n e) (max (sums_need (list_sums shapes n ss None)) (sums_need s))) (sums-list shapes n us)

pub need-For : (shapes : List Shape) (n : Needs) (x : Ident) (a e : Expr) (ss : List Stmt) (at : Place) →
    stmt_need shapes n (For x a e ss at)
    ≡ counted (1 + max (expr_need n a) (max (expr_need n e) (sums_need (list_sums shapes n ss None))))
need-For shapes n x a e ss at =
    ap (λ s. counted (1 + max (expr_need n a) (max (expr_need n e) (sums_need s)))) (sums-list shapes n ss)

-- the measures of a row are those of the list
pub in_stmts-list : (g : Visible) (ss : List Stmt) → in_stmts g (hidden-the_row-Stmt-0 ss) ≡ in_list g ss None
unfolding shape-the_row-Stmt-0 hidden-the_row-Stmt-0 hidden
in_stmts-list g [] = refl
in_stmts-list g (s ∷ ss) = ap (λ r. in_stmt g s ++ r) (in_stmts-list (declare (seen_stmt s) g) ss)

pub in-If : (g : Visible) (e : Expr) (ss : List Stmt) (at : Place) → in_stmt g (If e ss at) ≡ in_expr g e ++ in_list g ss None
in-If g e ss at = ap (λ r. in_expr g e ++ r) (in_stmts-list g ss)

pub in-While : (g : Visible) (e : Expr) (ss : List Stmt) (at : Place) → in_stmt g (While e ss at) ≡ in_expr g e ++ in_list g ss None
in-While g e ss at = ap (λ r. in_expr g e ++ r) (in_stmts-list g ss)

pub in-IfElse : (g : Visible) (e : Expr) (ss us : List Stmt) (at : Place) →
    in_stmt g (IfElse e ss us at) ≡ in_expr g e ++ in_list g ss None ++ in_list g us None
in-IfElse g e ss us at =
    ap (λ r. in_expr g e ++ r ++ in_stmts g (hidden-the_row-Stmt-0 us)) (in_stmts-list g ss)
    ∙ ap (λ r. in_expr g e ++ in_list g ss None ++ r) (in_stmts-list g us)

pub in-For : (g : Visible) (x : Ident) (a n : Expr) (ss : List Stmt) (at : Place) →
    in_stmt g (For x a n ss at) ≡ in_expr g a ++ in_expr g n ++ in_list (with_index x g) ss None
in-For g x a n ss at = ap (λ r. in_expr g a ++ in_expr g n ++ r) (in_stmts-list (with_index x g) ss)

-- what one statement and those behind it bring into scope
pub seen-more : (s : Stmt) (ss : List Stmt) → seen_stmts (s ∷ ss) ≡ seen_stmt s ++ seen_stmts ss
seen-more (Var v) ss = refl
seen-more (Assign x steps e) ss = refl
seen-more (Call f k es) ss = refl
seen-more (Error text p) ss = refl
seen-more (If' e _ us p) ss = refl
seen-more (IfElse' e _ us _ vs p) ss = refl
seen-more (While' e _ us p) ss = refl
seen-more (For' x a n _ us p) ss = refl

-- what is in scope behind them
pub seen_behind : (vs : List Seen) (s : Stmt) (ss : List Stmt) → vs ++ seen_stmts (s ∷ ss) ≡ (vs ++ seen_stmt s) ++ seen_stmts ss
seen_behind vs s ss = ap (λ r. vs ++ r) (seen-more s ss) ∙ sym (append_assoc vs (seen_stmt s) (seen_stmts ss))

-- the measures of statements and of what is returned behind them
pub in_list-return : (f : CoreFacts) (vs : List Seen) (ss : List Stmt) (r : Option Return) →
    in_list (sight f vs) ss r ≡ in_list (sight f vs) ss None ++ in_list (sight f (vs ++ seen_stmts ss)) [] r
in_list-return f vs [] r = ap (λ ws. in_list (sight f ws) [] r) (sym (append-nil vs))
in_list-return f vs (s ∷ ss) r =
    ap (λ m. in_stmt (sight f vs) s ++ m) (in_list-return f (vs ++ seen_stmt s) ss r)
    ∙ sym (append_assoc (in_stmt (sight f vs) s) (in_list (sight f (vs ++ seen_stmt s)) ss None) (in_list (sight f ((vs ++ seen_stmt s) ++ seen_stmts ss)) [] r))
    ∙ ap (λ ws. in_list (sight f vs) (s ∷ ss) None ++ in_list (sight f ws) [] r) (sym (seen_behind vs s ss))
