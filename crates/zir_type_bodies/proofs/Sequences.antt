-- The equations of statements and paths at the trees that code has.
use Rattle.std.specs.Prelude.{◌≡◌, List, [], ◌∷◌, ◌++◌, length, refl}
use Rattle.std.proofs.Common.{ap, ◌∙◌, sym}
use denote.Hole.Carrier.{hidden}
use Rattle.zir_tree.specs.declared.ident.Ident.{Ident}
use Rattle.zir_tree.specs.declared.place.Place.{Place}
use Rattle.zir_tree.specs.declared.expr.Expr.{Expr}
use Rattle.zir_tree.specs.declared.stmt.Access.{Access}
use Rattle.zir_tree.specs.declared.stmt.Access.TheVariants.{Index, Slice, Part}
use Rattle.zir_tree.specs.declared.stmt.Stmt.{Stmt, If, IfElse, While, For}
use Rattle.zir_tree.specs.declared.stmt.Stmt.TheBlock.{shape-the_row-Stmt-0, hidden-the_row-Stmt-0}
use Rattle.zir_types.specs.declared.scope.Seen.{Seen}
use Rattle.zir_types.specs.declared.typed.Path.{Path}
use Rattle.zir_types.specs.Walk.{Walk, Fine, Broken, and_then}
use Rattle.zir_types.specs.Scope.{Visible, declare}
use Rattle.zir_types.specs.Expressions.{expr, unasked}
use Rattle.zir_types.specs.Statements.{Stmts, stmt, stmts, stmts_of, path, index_step, slice_step, if_step, if_else_step, while_step, for_step, with_index}
use Rattle.zir_types.proofs.Fine.{first_fine, same_fine}
use Rattle.zir_types.proofs.Equations.{funext}
use Rattle.zir_type_bodies.specs.Sequences.{access_step, block, statements_of}
use Rattle.zir_type_bodies.proofs.Scopes.{left, declare-none, declare-more, left-declare}

-- One walk after two is the second of two after the first.
pub and_then-assoc : {A B C : Type 0} (w : Walk A) (f : A → Walk B) (h : B → Walk C) → and_then (and_then w f) h ≡ and_then w (λ x. and_then (f x) h)
and_then-assoc (Fine x) f h = refl
and_then-assoc (Broken r) f h = refl

-- The statements of a row are those of its list.
pub stmts-list : (g : Visible) (done ss : List Stmt) → stmts g done (hidden-the_row-Stmt-0 ss) ≡ and_then (stmts_of g done ss) statements_of
unfolding shape-the_row-Stmt-0 hidden-the_row-Stmt-0 hidden
stmts-list g done [] = refl
stmts-list g done (s ∷ ss) =
    ap (and_then (stmt g s)) (funext _ _ (λ step. stmts-list (declare step.declares g) (done ++ step.what ∷ []) ss))
    ∙ sym (and_then-assoc (stmt g s) (λ step. stmts_of (declare step.declares g) (done ++ step.what ∷ []) ss) statements_of)

pub stmt-If : (g : Visible) (e : Expr) (ss : List Stmt) (p : Place) →
    stmt g (If e ss p) ≡ and_then (expr g unasked e) (λ t. and_then (block g ss) (if_step p t))
stmt-If g e ss p = ap (λ w. and_then (expr g unasked e) (λ t. and_then w (if_step p t))) (stmts-list g [] ss)

pub stmt-While : (g : Visible) (e : Expr) (ss : List Stmt) (p : Place) →
    stmt g (While e ss p) ≡ and_then (expr g unasked e) (λ t. and_then (block g ss) (while_step p t))
stmt-While g e ss p = ap (λ w. and_then (expr g unasked e) (λ t. and_then w (while_step p t))) (stmts-list g [] ss)

pub stmt-IfElse : (g : Visible) (e : Expr) (ss us : List Stmt) (p : Place) →
    stmt g (IfElse e ss us p) ≡ and_then (expr g unasked e) (λ t. and_then (block g ss) (λ thens. and_then (block g us) (if_else_step p t thens)))
stmt-IfElse g e ss us p =
    ap (λ w. and_then (expr g unasked e) (λ t. and_then w (λ thens. and_then (stmts g [] (hidden-the_row-Stmt-0 us)) (if_else_step p t thens)))) (stmts-list g [] ss)
    ∙ ap (λ w. and_then (expr g unasked e) (λ t. and_then (block g ss) (λ thens. and_then w (if_else_step p t thens)))) (stmts-list g [] us)

pub stmt-For : (g : Visible) (x : Ident) (a n : Expr) (ss : List Stmt) (p : Place) →
    stmt g (For x a n ss p) ≡ and_then (expr g unasked a) (λ first. and_then (expr g unasked n) (λ turns. and_then (block (with_index x g) ss) (for_step x p first turns)))
stmt-For g x a n ss p =
    ap (λ w. and_then (expr g unasked a) (λ first. and_then (expr g unasked n) (λ turns. and_then w (for_step x p first turns)))) (stmts-list (with_index x g) [] ss)

-- What is in scope behind statements is what was in scope before them, and more.
extends : (g : Visible) (done ss : List Stmt) (s : Stmts) → stmts_of g done ss ≡ Fine s → (vs : List Seen) × (s.scope ≡ declare vs g)
extends g done [] s h = ([], ap (λ x. x.scope) (sym (same_fine (let b : Stmts = record { done = done; scope = g } in b) s h)) ∙ sym (declare-none g))
extends g done (x ∷ ss) s h =
    let f = first_fine (stmt g x) (λ step. stmts_of (declare step.declares g) (done ++ step.what ∷ []) ss) s h in
    let r = extends (declare f.0.declares g) (done ++ f.0.what ∷ []) ss s f.2 in
    (f.0.declares ++ r.0, r.1 ∙ declare-more g f.0.declares r.0)

-- Behind statements the scope before them is left again.
pub left-stmts : (g : Visible) (ss made : List Stmt) (after : Visible) → stmts_of g [] ss ≡ Fine (record { done = made; scope = after }) →
    left (length g.variables) after ≡ g
left-stmts g ss made after h =
    let e = extends g [] ss (record { done = made; scope = after }) h in
    ap (left (length g.variables)) e.1 ∙ left-declare g e.0

-- One step of a path, and then the rest.
pub path-more : (g : Visible) (done : Path) (a : Access) (steps : List Access) → path g done (a ∷ steps) ≡ and_then (access_step g done a) (λ next. path g next steps)
path-more g done (Index e p) steps = sym (and_then-assoc (expr g unasked e) (index_step p done) (λ next. path g next steps))
path-more g done (Slice e k p) steps = sym (and_then-assoc (expr g unasked e) (slice_step k p done) (λ next. path g next steps))
path-more g done (Part x k p) steps = refl
