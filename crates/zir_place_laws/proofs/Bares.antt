-- What a tree is without its places depends on what its parts are without theirs.
use Rattle.std.proofs.Common.{◌≡◌, ℕ, List, [], ◌∷◌, refl, sym, ap, ap₂, ◌∙◌}
use Rattle.std.specs.Prelude.{map}
use denote.Hole.Carrier.{hidden}
use Rattle.zir_tree.specs.declared.place.Place.{Place}
use Rattle.zir_tree.specs.declared.ident.Ident.{Ident}
use Rattle.zir_tree.specs.declared.types.Base.{Base}
use Rattle.zir_tree.specs.declared.expr.Prefix.{Prefix}
use Rattle.zir_tree.specs.declared.expr.Operator.{Operator}
use Rattle.zir_tree.specs.declared.expr.Callee.{Callee}
use Rattle.zir_tree.specs.declared.expr.Expr.{Expr}
use Rattle.zir_tree.specs.declared.expr.Expr as expr
use Rattle.zir_tree.specs.declared.expr.Expr.TheBlock.{shape-the_row-Expr-0, hidden-the_row-Expr-0, shape-the_row-Expr-1, hidden-the_row-Expr-1}
use Rattle.zir_tree.specs.declared.stmt.Stmt.{Stmt}
use Rattle.zir_tree.specs.declared.stmt.Stmt as stmt
use Rattle.zir_tree.specs.declared.stmt.Stmt.TheBlock.{shape-the_row-Stmt-0, hidden-the_row-Stmt-0}
use Rattle.zir_tree.specs.declared.comp.Turning.{Turning}
use Rattle.zir_tree.specs.declared.comp.Link.{Link}
use Rattle.zir_tree.specs.declared.comp.Comp.{Comp}
use Rattle.zir_tree.specs.declared.comp.Comp as comp
use Rattle.zir_tree.specs.declared.comp.Comp.TheBlock.{shape-the_row-Comp-0, hidden-the_row-Comp-0, shape-the_row-Member-1, hidden-the_row-Member-1}
use Rattle.zir_tree.specs.declared.comp.Member.{Member}
use Rattle.zir_tree.specs.declared.comp.Member as member
use Rattle.zir_print.specs.Marks.{nowhere}
use Rattle.zir_place_laws.specs.Bare.{bare_ident, bare_expr, bare_exprs, bare_stmt, bare_stmts, bare_comp, bare_member, bare_members}

-- ---- expressions

pub same_unary : (op : Prefix) (t : Base) (a b : Expr) (p q : Place) → bare_expr a ≡ bare_expr b → bare_expr (expr.Unary op t a p) ≡ bare_expr (expr.Unary op t b q)
unfolding shape-the_row-Expr-0 hidden-the_row-Expr-0 hidden
same_unary op t a b p q e = ap (λ x. expr.Unary op t x nowhere) e

pub same_binary : (op : Operator) (t : Base) (a b c d : Expr) (p q : Place) → bare_expr a ≡ bare_expr c → bare_expr b ≡ bare_expr d → bare_expr (expr.Binary op t a b p) ≡ bare_expr (expr.Binary op t c d q)
unfolding shape-the_row-Expr-0 hidden-the_row-Expr-0 hidden
same_binary op t a b c d p q e f = ap₂ (λ x y. expr.Binary op t x y nowhere) e f

pub same_index : (a b c d : Expr) (p q : Place) → bare_expr a ≡ bare_expr c → bare_expr b ≡ bare_expr d → bare_expr (expr.Index a b p) ≡ bare_expr (expr.Index c d q)
unfolding shape-the_row-Expr-0 hidden-the_row-Expr-0 hidden
same_index a b c d p q e f = ap₂ (λ x y. expr.Index x y nowhere) e f

pub same_slice : (k : ℕ) (a b c d : Expr) (p q : Place) → bare_expr a ≡ bare_expr c → bare_expr b ≡ bare_expr d → bare_expr (expr.Slice a b k p) ≡ bare_expr (expr.Slice c d k q)
unfolding shape-the_row-Expr-0 hidden-the_row-Expr-0 hidden
same_slice k a b c d p q e f = ap₂ (λ x y. expr.Slice x y k nowhere) e f

pub same_part : (x : List ℕ) (k : ℕ) (a b : Expr) (p q : Place) → bare_expr a ≡ bare_expr b → bare_expr (expr.Part a x k p) ≡ bare_expr (expr.Part b x k q)
unfolding shape-the_row-Expr-0 hidden-the_row-Expr-0 hidden
same_part x k a b p q e = ap (λ y. expr.Part y x k nowhere) e

pub same_convert : (t : Base) (a b : Expr) (p q : Place) → bare_expr a ≡ bare_expr b → bare_expr (expr.Convert t a p) ≡ bare_expr (expr.Convert t b q)
unfolding shape-the_row-Expr-0 hidden-the_row-Expr-0 hidden
same_convert t a b p q e = ap (λ x. expr.Convert t x nowhere) e

pub same_complex : (t : Base) (a b c d : Expr) (p q : Place) → bare_expr a ≡ bare_expr c → bare_expr b ≡ bare_expr d → bare_expr (expr.Complex t a b p) ≡ bare_expr (expr.Complex t c d q)
unfolding shape-the_row-Expr-0 hidden-the_row-Expr-0 hidden
same_complex t a b c d p q e f = ap₂ (λ x y. expr.Complex t x y nowhere) e f

row_exprs : (es : List Expr) → bare_exprs (hidden-the_row-Expr-1 es) ≡ map bare_expr es
unfolding shape-the_row-Expr-1 hidden-the_row-Expr-1 hidden
row_exprs [] = refl
row_exprs (e ∷ es) = ap (λ l. bare_expr e ∷ l) (row_exprs es)

rows_exprs : (es os : List Expr) → map bare_expr es ≡ map bare_expr os → bare_exprs (hidden-the_row-Expr-1 es) ≡ bare_exprs (hidden-the_row-Expr-1 os)
rows_exprs es os e = row_exprs es ∙ e ∙ sym (row_exprs os)

pub same_call : (x y : Ident) (c : Callee) (es os : List Expr) → bare_ident x ≡ bare_ident y → map bare_expr es ≡ map bare_expr os → bare_expr (expr.Call x c es) ≡ bare_expr (expr.Call y c os)
unfolding shape-the_row-Expr-1 hidden-the_row-Expr-1 hidden
same_call x y c es os e f = ap₂ (λ z l. expr.Call z c l) e (rows_exprs es os f)

pub same_array : (es os : List Expr) (p q : Place) → map bare_expr es ≡ map bare_expr os → bare_expr (expr.Array es p) ≡ bare_expr (expr.Array os q)
unfolding shape-the_row-Expr-1 hidden-the_row-Expr-1 hidden
same_array es os p q f = ap (λ l. expr.Array l nowhere) (rows_exprs es os f)

-- ---- statements

row_stmts : (ss : List Stmt) → bare_stmts (hidden-the_row-Stmt-0 ss) ≡ map bare_stmt ss
unfolding shape-the_row-Stmt-0 hidden-the_row-Stmt-0 hidden
row_stmts [] = refl
row_stmts (s ∷ ss) = ap (λ l. bare_stmt s ∷ l) (row_stmts ss)

rows_stmts : (ss os : List Stmt) → map bare_stmt ss ≡ map bare_stmt os → bare_stmts (hidden-the_row-Stmt-0 ss) ≡ bare_stmts (hidden-the_row-Stmt-0 os)
rows_stmts ss os e = row_stmts ss ∙ e ∙ sym (row_stmts os)

pub same_if : (a b : Expr) (ss os : List Stmt) (p q : Place) → bare_expr a ≡ bare_expr b → map bare_stmt ss ≡ map bare_stmt os → bare_stmt (stmt.If a ss p) ≡ bare_stmt (stmt.If b os q)
unfolding shape-the_row-Stmt-0 hidden-the_row-Stmt-0 hidden
same_if a b ss os p q e f = ap₂ (λ x l. stmt.If x l nowhere) e (rows_stmts ss os f)

pub same_if_else : (a b : Expr) (ss os us vs : List Stmt) (p q : Place) → bare_expr a ≡ bare_expr b → map bare_stmt ss ≡ map bare_stmt os → map bare_stmt us ≡ map bare_stmt vs → bare_stmt (stmt.IfElse a ss us p) ≡ bare_stmt (stmt.IfElse b os vs q)
unfolding shape-the_row-Stmt-0 hidden-the_row-Stmt-0 hidden
same_if_else a b ss os us vs p q e f g =
    ap (λ x. stmt.IfElse x (bare_stmts (hidden-the_row-Stmt-0 ss)) (bare_stmts (hidden-the_row-Stmt-0 us)) nowhere) e
    ∙ ap₂ (λ l m. stmt.IfElse (bare_expr b) l m nowhere) (rows_stmts ss os f) (rows_stmts us vs g)

pub same_loop : (a b : Expr) (ss os : List Stmt) (p q : Place) → bare_expr a ≡ bare_expr b → map bare_stmt ss ≡ map bare_stmt os → bare_stmt (stmt.While a ss p) ≡ bare_stmt (stmt.While b os q)
unfolding shape-the_row-Stmt-0 hidden-the_row-Stmt-0 hidden
same_loop a b ss os p q e f = ap₂ (λ x l. stmt.While x l nowhere) e (rows_stmts ss os f)

pub same_count : (x y : Ident) (a b c d : Expr) (ss os : List Stmt) (p q : Place) → bare_ident x ≡ bare_ident y → bare_expr a ≡ bare_expr c → bare_expr b ≡ bare_expr d → map bare_stmt ss ≡ map bare_stmt os
    → bare_stmt (stmt.For x a b ss p) ≡ bare_stmt (stmt.For y c d os q)
unfolding shape-the_row-Stmt-0 hidden-the_row-Stmt-0 hidden
same_count x y a b c d ss os p q n e f g =
    ap₂ (λ z l. stmt.For z (bare_expr a) (bare_expr b) l nowhere) n (rows_stmts ss os g)
    ∙ ap₂ (λ u v. stmt.For (bare_ident y) u v (bare_stmts (hidden-the_row-Stmt-0 os)) nowhere) e f

-- ---- components

pub same_repeat : (c d : Comp) (p q : Place) → bare_comp c ≡ bare_comp d → bare_comp (comp.Repeat c p) ≡ bare_comp (comp.Repeat d q)
unfolding shape-the_row-Comp-0 hidden-the_row-Comp-0 hidden
same_repeat c d p q e = ap (λ x. comp.Repeat x nowhere) e

pub same_while : (t : Turning) (a b : Expr) (c d : Comp) (p q : Place) → bare_expr a ≡ bare_expr b → bare_comp c ≡ bare_comp d → bare_comp (comp.While t a c p) ≡ bare_comp (comp.While t b d q)
unfolding shape-the_row-Comp-0 hidden-the_row-Comp-0 hidden
same_while t a b c d p q e f = ap₂ (λ x y. comp.While t x y nowhere) e f

pub same_times : (a b : Expr) (c d : Comp) (p q : Place) → bare_expr a ≡ bare_expr b → bare_comp c ≡ bare_comp d → bare_comp (comp.Times a c p) ≡ bare_comp (comp.Times b d q)
unfolding shape-the_row-Comp-0 hidden-the_row-Comp-0 hidden
same_times a b c d p q e f = ap₂ (λ x y. comp.Times x y nowhere) e f

pub same_for : (x y : Ident) (a b : Expr) (m n : Expr) (c d : Comp) (p q : Place) → bare_ident x ≡ bare_ident y → bare_expr a ≡ bare_expr b → bare_expr m ≡ bare_expr n → bare_comp c ≡ bare_comp d
    → bare_comp (comp.For x a m c p) ≡ bare_comp (comp.For y b n d q)
unfolding shape-the_row-Comp-0 hidden-the_row-Comp-0 hidden
same_for x y a b m n c d p q i e f g =
    ap₂ (λ z w. comp.For z (bare_expr a) (bare_expr m) w nowhere) i g ∙ ap₂ (λ u v. comp.For (bare_ident y) u v (bare_comp d) nowhere) e f

pub same_branch : (a b : Expr) (c d m n : Comp) (p q : Place) → bare_expr a ≡ bare_expr b → bare_comp c ≡ bare_comp d → bare_comp m ≡ bare_comp n → bare_comp (comp.If a c m p) ≡ bare_comp (comp.If b d n q)
unfolding shape-the_row-Comp-0 hidden-the_row-Comp-0 hidden
same_branch a b c d m n p q e f g = ap (λ x. comp.If x (bare_comp c) (bare_comp m) nowhere) e ∙ ap₂ (λ y z. comp.If (bare_expr b) y z nowhere) f g

pub same_pipe : (l : Link) (a b c d : Comp) (p q : Place) → bare_comp a ≡ bare_comp c → bare_comp b ≡ bare_comp d → bare_comp (comp.Pipe l a b p) ≡ bare_comp (comp.Pipe l c d q)
unfolding shape-the_row-Comp-0 hidden-the_row-Comp-0 hidden
same_pipe l a b c d p q e f = ap₂ (λ x y. comp.Pipe l x y nowhere) e f

row_members : (ms : List Member) → bare_members (hidden-the_row-Member-1 ms) ≡ map bare_member ms
unfolding shape-the_row-Member-1 hidden-the_row-Member-1 hidden
row_members [] = refl
row_members (member.Bind x c ∷ ms) = ap (λ l. bare_member (member.Bind x c) ∷ l) (row_members ms)
row_members (member.Var v ∷ ms) = ap (λ l. bare_member (member.Var v) ∷ l) (row_members ms)
row_members (member.Run c ∷ ms) = ap (λ l. bare_member (member.Run c) ∷ l) (row_members ms)

pub same_block : (ms os : List Member) (p q : Place) → map bare_member ms ≡ map bare_member os → bare_comp (comp.Block ms p) ≡ bare_comp (comp.Block os q)
unfolding shape-the_row-Member-1 hidden-the_row-Member-1 hidden
same_block ms os p q e = ap (λ l. comp.Block l nowhere) (row_members ms ∙ e ∙ sym (row_members os))
