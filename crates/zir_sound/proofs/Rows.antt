-- The rules of statements and components at the trees that typing makes.
use Rattle.std.specs.Prelude.{List, [], ◌∷◌}
use denote.Hole.Carrier.{hidden}
use Rattle.zir_tree.specs.declared.ident.Ident.{Ident}
use Rattle.zir_tree.specs.declared.place.Place.{Place}
use Rattle.zir_tree.specs.declared.types.Base.TheVariants.{Bool as BoolTy, Int32}
use Rattle.zir_tree.specs.declared.expr.Expr.{Expr}
use Rattle.zir_tree.specs.declared.stmt.Stmt.{Stmt, If, IfElse, While, For}
use Rattle.zir_tree.specs.declared.stmt.Stmt.TheBlock.{shape-the_row-Stmt-0, hidden-the_row-Stmt-0}
use Rattle.zir_types.specs.Kinds.{scalar}
use Rattle.zir_types.specs.Scope.{Visible, declare}
use Rattle.zir_types.specs.Statements.{with_index}
use Rattle.zir_types.specs.Typing.{Has}
use Rattle.zir_sound.specs.Statements.{AreStmts, AreStmtsOf, IsStmt, brought}

stmts-list : (g : Visible) (ss : List Stmt) → AreStmtsOf g ss → AreStmts g (hidden-the_row-Stmt-0 ss)
unfolding shape-the_row-Stmt-0 hidden-the_row-Stmt-0 hidden
stmts-list g [] h = tt
stmts-list g (s ∷ ss) h = (h.0, stmts-list (declare (brought s) g) ss h.1)

pub is-If : (g : Visible) (e : Expr) (ss : List Stmt) (p : Place) → Has g (scalar BoolTy) e → AreStmtsOf g ss → IsStmt g (If e ss p)
is-If g e ss p h k = (h, stmts-list g ss k)

pub is-IfElse : (g : Visible) (e : Expr) (ss us : List Stmt) (p : Place) → Has g (scalar BoolTy) e → AreStmtsOf g ss → AreStmtsOf g us →
    IsStmt g (IfElse e ss us p)
is-IfElse g e ss us p h k l = (h, stmts-list g ss k, stmts-list g us l)

pub is-While : (g : Visible) (e : Expr) (ss : List Stmt) (p : Place) → Has g (scalar BoolTy) e → AreStmtsOf g ss → IsStmt g (While e ss p)
is-While g e ss p h k = (h, stmts-list g ss k)

pub is-For : (g : Visible) (x : Ident) (a n : Expr) (ss : List Stmt) (p : Place) → Has g (scalar Int32) a → Has g (scalar Int32) n →
    AreStmtsOf (with_index x g) ss → IsStmt g (For x a n ss p)
is-For g x a n ss p h k l = (h, k, stmts-list (with_index x g) ss l)
