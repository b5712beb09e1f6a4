-- How many cells the code of statements and bodies uses, and which 32 bits can count.
use Rattle.std.specs.Prelude.{ℕ, ◌+◌, max, List, [], ◌∷◌, Bool, true, ◌&&◌, Option, Some, None}
use Rattle.zir_tree.specs.declared.expr.Expr.{Expr}
use Rattle.zir_tree.specs.declared.types.Field.{Field}
use Rattle.zir_tree.specs.declared.stmt.Stmt.{Stmt, Var as VarStmt, Assign, Call, Error, If', IfElse', While', For', Row_of-Stmt, end_of-Stmt, more_of-Stmt}
use Rattle.zir_tree.specs.declared.stmt.Return.{Return}
use Rattle.zir_meaning.specs.Values.{type_of}
use Rattle.zir_code.specs.Scopes.{Scope, variable}
use Rattle.zir_code.specs.Types.{result_type, cells_for, size_in}
use Rattle.zir_code.specs.Peaks.{needs_of, peak_of, peak_of_all, is_coded, all_coded}
use Rattle.zir_code.specs.Statements.{with_index, scope_after, free_after, storing_peak, storing_coded}
use Rattle.zir_code.specs.Bodies.{cells_of_all, inside, scope_after_all, free_after_all}

-- the first cell behind all that an initial value uses
abbrev pub initial_peak : Scope → ℕ → ℕ → Option Expr → ℕ
initial_peak g d n None = d + n
initial_peak g d n (Some e) = max (d + n) (peak_of g e d)

abbrev mutual
  -- the first cell behind all that the code of a statement uses, where those from d on are free
  pub stmt_peak : Scope → ℕ → Stmt → ℕ
  stmt_peak g d (VarStmt v) = initial_peak g d (cells_for g (type_of v.ty)) v.initial
  stmt_peak g d (Assign name path e) = max (peak_of g e d) (storing_peak g (variable g name.id) path d (size_in g e))
  stmt_peak g d (Call name k es) = max (peak_of_all g es d) (d + max (cells_for g (result_type (g.funs k))) (needs_of (g.funs k)))
  stmt_peak g d (Error text p) = d
  stmt_peak g d (If' e _ a p) = max (peak_of g e d) (row_peak g d a)
  stmt_peak g d (IfElse' e _ a _ b p) = max (peak_of g e d) (max (row_peak g d a) (row_peak g d b))
  stmt_peak g d (While' e _ a p) = max (peak_of g e d) (row_peak g d a)
  stmt_peak g d (For' name a n _ b p) = max (peak_of g a d) (max (peak_of g n (d + 1)) (max (d + 2) (row_peak (with_index g d name.id) (d + 1) b)))

  -- the same for statements one after the other
  pub row_peak : {k : _} → Scope → ℕ → Row_of-Stmt k → ℕ
  row_peak g d end_of-Stmt = d
  row_peak g d (more_of-Stmt a row) = max (stmt_peak g d a) (row_peak (scope_after g d a) (free_after g d a) row)

-- the same for a list of statements
abbrev pub all_peak : Scope → ℕ → List Stmt → ℕ
all_peak g d [] = d
all_peak g d (a ∷ more) = max (stmt_peak g d a) (all_peak (scope_after g d a) (free_after g d a) more)

-- the same for the value of a body, if it has one
abbrev pub result_peak : Scope → ℕ → Option Return → ℕ
result_peak g d None = d
result_peak g d (Some r) = max (peak_of g r.value d) (size_in g r.value)

-- how many cells a body uses
abbrev pub body_needs : Scope → List Field → List Stmt → Option Return → ℕ
body_needs g params statements r =
    let g1 = inside g params in
    let d = cells_of_all g params in
    max (all_peak g1 d statements) (result_peak (scope_after_all g1 d statements) (free_after_all g1 d statements) r)

-- whether 32 bits hold the other numbers of an initial value
abbrev pub initial_coded : Scope → ℕ → Option Expr → Bool
initial_coded g d None = true
initial_coded g d (Some e) = is_coded g e d

abbrev mutual
  -- whether 32 bits hold all numbers of the code of a statement, besides those of the cells that it uses
  pub stmt_coded : Scope → ℕ → Stmt → Bool
  stmt_coded g d (VarStmt v) = initial_coded g d v.initial
  stmt_coded g d (Assign name path e) = is_coded g e d && storing_coded g (variable g name.id) path (d + size_in g e)
  stmt_coded g d (Call name k es) = all_coded g es d
  stmt_coded g d (Error text p) = true
  stmt_coded g d (If' e _ a p) = is_coded g e d && row_coded g d a
  stmt_coded g d (IfElse' e _ a _ b p) = is_coded g e d && (row_coded g d a && row_coded g d b)
  stmt_coded g d (While' e _ a p) = is_coded g e d && row_coded g d a
  stmt_coded g d (For' name a n _ b p) = is_coded g a d && (is_coded g n (d + 1) && row_coded (with_index g d name.id) (d + 1) b)

  -- the same of statements one after the other
  pub row_coded : {k : _} → Scope → ℕ → Row_of-Stmt k → Bool
  row_coded g d end_of-Stmt = true
  row_coded g d (more_of-Stmt a row) = stmt_coded g d a && row_coded (scope_after g d a) (free_after g d a) row

-- the same for a list of statements
abbrev pub all_stmts_coded : Scope → ℕ → List Stmt → Bool
all_stmts_coded g d [] = true
all_stmts_coded g d (a ∷ more) = stmt_coded g d a && all_stmts_coded (scope_after g d a) (free_after g d a) more

-- the same for the value of a body, if it has one
abbrev pub result_coded : Scope → ℕ → Option Return → Bool
result_coded g d None = true
result_coded g d (Some r) = is_coded g r.value d

-- the same for a body
abbrev pub body_coded : Scope → List Field → List Stmt → Option Return → Bool
body_coded g params statements r =
    let g1 = inside g params in
    let d = cells_of_all g params in
    all_stmts_coded g1 d statements && result_coded (scope_after_all g1 d statements) (free_after_all g1 d statements) r
