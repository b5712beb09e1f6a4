-- What the forms of expressions, statements and components assign, as the code sees them.
use Rattle.std.specs.Prelude.{ℕ, List, [], ◌∷◌, ◌++◌, ◌≡◌, refl}
use Rattle.std.proofs.Common.{ap, ◌∙◌, sym}
use denote.Hole.Carrier.{hidden}
use Rattle.zir_tree.specs.declared.ident.Ident.{Ident}
use Rattle.zir_tree.specs.declared.place.Place.{Place}
use Rattle.zir_tree.specs.declared.types.Base.{Base}
use Rattle.zir_tree.specs.declared.expr.Prefix.{Prefix}
use Rattle.zir_tree.specs.declared.expr.Operator.{Operator}
use Rattle.zir_tree.specs.declared.expr.Callee.{Callee}
use Rattle.zir_tree.specs.declared.expr.Expr.{Expr}
use Rattle.zir_tree.specs.declared.expr.Expr as expr
use Rattle.zir_tree.specs.declared.expr.Expr.TheBlock.{shape-the_row-Expr-0, hidden-the_row-Expr-0, shape-the_row-Expr-1, hidden-the_row-Expr-1}
use Rattle.zir_tree.specs.declared.stmt.Access.{Access}
use Rattle.zir_tree.specs.declared.stmt.Access.TheVariants.{Index, Slice, Part}
use Rattle.zir_tree.specs.declared.stmt.Stmt.{Stmt}
use Rattle.zir_tree.specs.declared.stmt.Stmt as stmt
use Rattle.zir_tree.specs.declared.stmt.Stmt.TheBlock.{shape-the_row-Stmt-0, hidden-the_row-Stmt-0}
use Rattle.zir_tree.specs.declared.comp.Comp.{Comp}
use Rattle.zir_tree.specs.declared.comp.Comp as comp
use Rattle.zir_tree.specs.declared.comp.Link.{Link}
use Rattle.zir_tree.specs.declared.comp.Turning.{Turning}
use Rattle.zir_tree.specs.declared.comp.Comp.TheBlock.{shape-the_row-Comp-0, hidden-the_row-Comp-0, shape-the_row-Member-1, hidden-the_row-Member-1}
use Rattle.zir_tree.specs.declared.comp.Member.{Member, Bind, Var, Run}
use Rattle.zir_meaning.specs.Assigned.{Assigning, callee_assigns, expr_assigns, row_assigns, exprs_assign, path_assigns, declares, stmt_assigns, stmts_assign, all_assign, assigns, members_assign, without}
use Rattle.zir_assigned.specs.Assigned.{access_assigns, member_assigns, member_declares, members_then}
use Rattle.zir_assigned.proofs.Covering.{without-none}

-- nested expressions, statements and members as lists
pub exprs-list : (r : Assigning) (es : List Expr) → row_assigns r (hidden-the_row-Expr-1 es) ≡ exprs_assign r es
unfolding shape-the_row-Expr-1 hidden-the_row-Expr-1 hidden
exprs-list r [] = refl
exprs-list r (e ∷ es) = ap (λ ids. expr_assigns r e ++ ids) (exprs-list r es)

pub stmts-list : (r : Assigning) (ss : List Stmt) → stmts_assign r (hidden-the_row-Stmt-0 ss) ≡ all_assign r ss []
unfolding shape-the_row-Stmt-0 hidden-the_row-Stmt-0 hidden
stmts-list r [] = refl
stmts-list r (s ∷ ss) = ap (λ ids. stmt_assigns r s ++ without (declares s) ids) (stmts-list r ss)

pub members-list : (r : Assigning) (ms : List Member) → members_assign r (hidden-the_row-Member-1 ms) ≡ members_then r ms []
unfolding shape-the_row-Member-1 hidden-the_row-Member-1 hidden
members-list r [] = refl
members-list r (Bind x c ∷ ms) = ap (λ ids. assigns r c ++ ids) (members-list r ms ∙ sym (without-none (members_then r ms [])))
members-list r (Var v ∷ ms) = ap (λ ids. member_assigns r (Var v) ++ without (member_declares (Var v)) ids) (members-list r ms)
members-list r (Run c ∷ ms) = ap (λ ids. assigns r c ++ ids) (members-list r ms ∙ sym (without-none (members_then r ms [])))

pub path-list : (r : Assigning) (a : Access) (path : List Access) → path_assigns r (a ∷ path) ≡ access_assigns r a ++ path_assigns r path
path-list r (Index e p) path = refl
path-list r (Slice e k p) path = refl
path-list r (Part name k p) path = refl

-- expressions
pub expr-Unary : (r : Assigning) (o : Prefix) (t : Base) (a : Expr) (p : Place) → expr_assigns r (expr.Unary o t a p) ≡ expr_assigns r a
unfolding shape-the_row-Expr-0 hidden-the_row-Expr-0 hidden
expr-Unary r o t a p = refl

pub expr-Binary : (r : Assigning) (o : Operator) (t : Base) (a b : Expr) (p : Place) → expr_assigns r (expr.Binary o t a b p) ≡ expr_assigns r a ++ expr_assigns r b
unfolding shape-the_row-Expr-0 hidden-the_row-Expr-0 hidden
expr-Binary r o t a b p = refl

pub expr-Index : (r : Assigning) (a i : Expr) (p : Place) → expr_assigns r (expr.Index a i p) ≡ expr_assigns r a ++ expr_assigns r i
unfolding shape-the_row-Expr-0 hidden-the_row-Expr-0 hidden
expr-Index r a i p = refl

pub expr-Slice : (r : Assigning) (a i : Expr) (k : ℕ) (p : Place) → expr_assigns r (expr.Slice a i k p) ≡ expr_assigns r a ++ expr_assigns r i
unfolding shape-the_row-Expr-0 hidden-the_row-Expr-0 hidden
expr-Slice r a i k p = refl

pub expr-Part : (r : Assigning) (a : Expr) (name : List ℕ) (k : ℕ) (p : Place) → expr_assigns r (expr.Part a name k p) ≡ expr_assigns r a
unfolding shape-the_row-Expr-0 hidden-the_row-Expr-0 hidden
expr-Part r a name k p = refl

pub expr-Call : (r : Assigning) (name : Ident) (callee : Callee) (es : List Expr) →
    expr_assigns r (expr.Call name callee es) ≡ exprs_assign r es ++ callee_assigns r callee
expr-Call r name callee es = ap (λ ids. ids ++ callee_assigns r callee) (exprs-list r es)

pub expr-Array : (r : Assigning) (es : List Expr) (p : Place) → expr_assigns r (expr.Array es p) ≡ exprs_assign r es
expr-Array r es p = exprs-list r es

pub expr-Convert : (r : Assigning) (t : Base) (a : Expr) (p : Place) → expr_assigns r (expr.Convert t a p) ≡ expr_assigns r a
unfolding shape-the_row-Expr-0 hidden-the_row-Expr-0 hidden
expr-Convert r t a p = refl

pub expr-Complex : (r : Assigning) (t : Base) (a b : Expr) (p : Place) → expr_assigns r (expr.Complex t a b p) ≡ expr_assigns r a ++ expr_assigns r b
unfolding shape-the_row-Expr-0 hidden-the_row-Expr-0 hidden
expr-Complex r t a b p = refl

-- statements
pub stmt-If : (r : Assigning) (e : Expr) (a : List Stmt) (p : Place) → stmt_assigns r (stmt.If e a p) ≡ expr_assigns r e ++ all_assign r a []
stmt-If r e a p = ap (λ ids. expr_assigns r e ++ ids) (stmts-list r a)

pub stmt-IfElse : (r : Assigning) (e : Expr) (a b : List Stmt) (p : Place) →
    stmt_assigns r (stmt.IfElse e a b p) ≡ (expr_assigns r e ++ all_assign r a []) ++ all_assign r b []
stmt-IfElse r e a b p =
    ap (λ ids. (expr_assigns r e ++ ids) ++ stmts_assign r (hidden-the_row-Stmt-0 b)) (stmts-list r a)
    ∙ ap (λ ids. (expr_assigns r e ++ all_assign r a []) ++ ids) (stmts-list r b)

pub stmt-While : (r : Assigning) (e : Expr) (a : List Stmt) (p : Place) → stmt_assigns r (stmt.While e a p) ≡ expr_assigns r e ++ all_assign r a []
stmt-While r e a p = ap (λ ids. expr_assigns r e ++ ids) (stmts-list r a)

pub stmt-For : (r : Assigning) (x : Ident) (a n : Expr) (b : List Stmt) (p : Place) →
    stmt_assigns r (stmt.For x a n b p) ≡ (expr_assigns r a ++ expr_assigns r n) ++ all_assign r b []
stmt-For r x a n b p = ap (λ ids. (expr_assigns r a ++ expr_assigns r n) ++ ids) (stmts-list r b)

-- components
pub comp-Repeat : (r : Assigning) (c : Comp) (p : Place) → assigns r (comp.Repeat c p) ≡ assigns r c
unfolding shape-the_row-Comp-0 hidden-the_row-Comp-0 hidden
comp-Repeat r c p = refl

pub comp-While : (r : Assigning) (turning : Turning) (e : Expr) (c : Comp) (p : Place) →
    assigns r (comp.While turning e c p) ≡ expr_assigns r e ++ assigns r c
unfolding shape-the_row-Comp-0 hidden-the_row-Comp-0 hidden
comp-While r turning e c p = refl

pub comp-Times : (r : Assigning) (e : Expr) (c : Comp) (p : Place) → assigns r (comp.Times e c p) ≡ expr_assigns r e ++ assigns r c
unfolding shape-the_row-Comp-0 hidden-the_row-Comp-0 hidden
comp-Times r e c p = refl

pub comp-For : (r : Assigning) (x : Ident) (a n : Expr) (c : Comp) (p : Place) →
    assigns r (comp.For x a n c p) ≡ (expr_assigns r a ++ expr_assigns r n) ++ assigns r c
unfolding shape-the_row-Comp-0 hidden-the_row-Comp-0 hidden
comp-For r x a n c p = refl

pub comp-If : (r : Assigning) (e : Expr) (a b : Comp) (p : Place) → assigns r (comp.If e a b p) ≡ (expr_assigns r e ++ assigns r a) ++ assigns r b
unfolding shape-the_row-Comp-0 hidden-the_row-Comp-0 hidden
comp-If r e a b p = refl

pub comp-Block : (r : Assigning) (ms : List Member) (p : Place) → assigns r (comp.Block ms p) ≡ members_then r ms []
comp-Block r ms p = members-list r ms

pub comp-Pipe : (r : Assigning) (link : Link) (a b : Comp) (p : Place) → assigns r (comp.Pipe link a b p) ≡ assigns r a ++ assigns r b
unfolding shape-the_row-Comp-0 hidden-the_row-Comp-0 hidden
comp-Pipe r link a b p = refl
