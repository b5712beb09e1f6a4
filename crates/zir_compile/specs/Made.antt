-- The answer of making code.
use Rattle.std.specs.Prelude.{ℕ, List, Bool, true, false, ◌&&◌, Option, Some, None}
use Rattle.zir_tree.specs.declared.expr.Expr.{Expr}
use Rattle.zir_tree.specs.declared.stmt.Stmt.{Stmt}
use Rattle.zir_code.specs.Scopes.{Scope}
use Rattle.zir_code.specs.Coding.{stands, code_of}
use Rattle.zir_code.specs.Peaks.{peak_of, is_coded, small}
use Rattle.zir_code.specs.Needs.{all_peak, all_stmts_coded}
use Rattle.zir_code.specs.Bodies.{all_code, scope_after_all, free_after_all}
use Rattle.zir_compile.specs.declared.made.Made.{Made}
use Rattle.zir_compile.specs.declared.made.Written.{Written}

-- the code of an expression, where its value then stands, and the first cell behind all that the code uses, or none
abbrev pub made_if : Bool → Scope → Expr → ℕ → Option Made
made_if true g e d = Some (record { steps = code_of g e d; at = stands g e d; peak = peak_of g e d })
made_if false g e d = None

-- there is code where 32 bits hold its numbers
abbrev pub code_if : Scope → Expr → ℕ → Option Made
code_if g e d = made_if (small (peak_of g e d) && is_coded g e d) g e d

-- whether 32 bits hold the numbers of the code of statements, where the cells from one on are free
abbrev pub are_written : Scope → List Stmt → ℕ → Bool
are_written g ss d = small (all_peak g d ss) && all_stmts_coded g d ss

-- the code of statements, the first free cell behind them, and the first cell behind all that the code uses, or none
abbrev pub written_if : Bool → Scope → List Stmt → ℕ → Option Written
written_if true g ss d = Some (record { steps = all_code g d ss; free = free_after_all g d ss; peak = all_peak g d ss })
written_if false g ss d = None

-- there is code where 32 bits hold its numbers
abbrev pub written : Scope → List Stmt → ℕ → Option Written
written g ss d = written_if (are_written g ss d) g ss d

-- what is in scope behind statements, or the same where they have no code
abbrev pub scope_if : Bool → Scope → List Stmt → ℕ → Scope
scope_if true g ss d = scope_after_all g d ss
scope_if false g ss d = g

-- what is in scope where the code of statements was made
abbrev pub scope_behind : Scope → List Stmt → ℕ → Scope
scope_behind g ss d = scope_if (are_written g ss d) g ss d
