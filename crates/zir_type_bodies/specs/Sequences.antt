-- The walks of statements one after the other and of the steps of a path, as code takes them.
use Rattle.std.specs.Prelude.{◌≡◌, List, [], Result, Ok, Err}
use Rattle.zir_tree.specs.declared.stmt.Access.{Access}
use Rattle.zir_tree.specs.declared.stmt.Access.TheVariants.{Index, Slice, Part}
use Rattle.zir_tree.specs.declared.stmt.Stmt.{Stmt}
use Rattle.zir_types.specs.declared.error.TypeError.{TypeError}
use Rattle.zir_types.specs.declared.typed.Path.{Path}
use Rattle.zir_types.specs.Walk.{Walk, Fine, and_then, Refuses}
use Rattle.zir_types.specs.Scope.{Visible, part_in}
use Rattle.zir_types.specs.Expressions.{expr, unasked}
use Rattle.zir_types.specs.Statements.{Stmts, stmts_of, index_step, slice_step, part_step}

-- An answer tells which statements a walk makes, and what is in scope behind them, or its refusal.
abbrev pub ToldIn : Walk Stmts → Result (List Stmt) TypeError → Visible → Type 0
ToldIn walk (Ok made) after = walk ≡ Fine (record { done = made; scope = after })
ToldIn walk (Err error) after = Refuses walk error

-- The statements alone.
abbrev pub statements_of : Stmts → Walk (List Stmt)
statements_of s = Fine s.done

-- Statements in braces, which bring nothing into scope behind them.
abbrev pub block : Visible → List Stmt → Walk (List Stmt)
block g ss = and_then (stmts_of g [] ss) statements_of

-- One step of a path.
abbrev pub access_step : Visible → Path → Access → Walk Path
access_step g done (Index e p) = and_then (expr g unasked e) (index_step p done)
access_step g done (Slice e k p) = and_then (expr g unasked e) (slice_step k p done)
access_step g done (Part x k p) = part_step (part_in g.shapes done.ty x) x p done
