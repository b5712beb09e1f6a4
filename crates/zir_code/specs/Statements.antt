-- The code of statements.
use Rattle.std.specs.Prelude.{ℕ, zero, suc, pos, ◌+◌, max, List, [], ◌∷◌, ◌++◌, Bool, true, false, ◌&&◌, Option, Some, None}
use Rattle.zir_tree.specs.declared.types.Base.TheVariants.{Int32}
use Rattle.zir_tree.specs.declared.types.Ty.{Ty}
use Rattle.zir_tree.specs.declared.expr.Expr.{Expr}
use Rattle.zir_tree.specs.declared.stmt.Access.{Access}
use Rattle.zir_tree.specs.declared.stmt.Access.TheVariants.{Index, Slice, Part}
use Rattle.zir_tree.specs.declared.stmt.Stmt.{Stmt, Var as VarStmt, Assign, Call, Error, If', IfElse', While', For', Row_of-Stmt, end_of-Stmt, more_of-Stmt}
use Rattle.zir_meaning.specs.Values.{type_of}
use Rattle.zir_meaning.specs.Functions.{pick}
use Rattle.zir_shapes.specs.Offsets.{plain_type as plain, array_type as array_of}
use Rattle.zir_expr.specs.declared.frame.Spot.{Spot}
use Rattle.zir_expr.specs.declared.frame.Spot.TheVariants.{Local}
use Rattle.zir_expr.specs.declared.steps.Step.{Step, Number, Move, Store, Fail, Branch, While, Count}
use Rattle.zir_code.specs.declared.scope.Holder.{Holder}
use Rattle.zir_code.specs.Scopes.{Scope, variable, shifted, number_of}
use Rattle.zir_code.specs.Types.{element_type, part_type, part_offset, cells_for, size_in}
use Rattle.zir_code.specs.Coding.{stands, code_of, moving, settling, to_element, to_slice, call_code, code_of_all}
use Rattle.zir_code.specs.Peaks.{peak_of, behind, is_coded, small, counts_elements}

-- one more name in scope, in the first free cells
abbrev pub with_local : Scope → ℕ → ℕ → Ty → Scope
with_local g d id ty = record g { locals = g.locals ++ record { id = id; spot = Local d; cells = cells_for g ty; ty = ty } ∷ [] }

-- the index of a loop is in scope
abbrev pub with_index : Scope → ℕ → ℕ → Scope
with_index g d id = with_local g d id (plain Int32)

-- what is in scope after a statement
abbrev pub scope_after : Scope → ℕ → Stmt → Scope
scope_after g d (VarStmt v) = with_local g d v.name.id (type_of v.ty)
scope_after g d (Assign name path e) = g
scope_after g d (Call name k es) = g
scope_after g d (Error text p) = g
scope_after g d (If' e _ a p) = g
scope_after g d (IfElse' e _ a _ b p) = g
scope_after g d (While' e _ a p) = g
scope_after g d (For' name a n _ b p) = g

-- the first free cell after a statement
abbrev pub free_after : Scope → ℕ → Stmt → ℕ
free_after g d (VarStmt v) = d + cells_for g (type_of v.ty)
free_after g d (Assign name path e) = d
free_after g d (Call name k es) = d
free_after g d (Error text p) = d
free_after g d (If' e _ a p) = d
free_after g d (IfElse' e _ a _ b p) = d
free_after g d (While' e _ a p) = d
free_after g d (For' name a n _ b p) = d

-- so many cells from d on become 0: the first, and the others each from the one before it
abbrev pub blank_code : ℕ → ℕ → List Step
blank_code d zero = []
blank_code d (suc zero) = Number (Local d) (pos 0) ∷ []
blank_code d (suc (suc n)) = Number (Local d) (pos 0) ∷ Move (Local (d + 1)) (Local d) (suc n) ∷ []

-- the code of an initial value, and 0 in so many cells where there is none
abbrev pub initial_code : Scope → ℕ → ℕ → Option Expr → List Step
initial_code g d n None = blank_code d n
initial_code g d n (Some e) = code_of g e d ++ settling (stands g e d) d n

-- whether an index leads to what is assigned
abbrev pub has_index : List Access → Bool
has_index [] = false
has_index (Index e p ∷ path) = true
has_index (Slice e k p ∷ path) = true
has_index (Part name k p ∷ path) = has_index path

-- the offset in the cell o goes on along a path into a value of this type
abbrev pub along_code : Scope → Ty → ℕ → List Access → List Step
along_code g ty o [] = []
along_code g ty o (Index e p ∷ path) = code_of g e (o + 1) ++ (to_element g ty o (stands g e (o + 1)) p ∷ along_code g (element_type ty) o path)
along_code g ty o (Slice e k p ∷ path) =
    code_of g e (o + 1) ++ (to_slice g ty k o (stands g e (o + 1)) p ∷ along_code g (array_of k (element_type ty)) o path)
along_code g ty o (Part name k p ∷ path) = along_code g (part_type g.structs ty k) o path

-- how many cells the parts on a path stand behind the first cell, whatever its indexes
abbrev pub along_shift : Scope → Ty → List Access → ℕ
along_shift g ty [] = 0
along_shift g ty (Index e p ∷ path) = along_shift g (element_type ty) path
along_shift g ty (Slice e k p ∷ path) = along_shift g (array_of k (element_type ty)) path
along_shift g ty (Part name k p ∷ path) = part_offset g.structs ty k + along_shift g (part_type g.structs ty k) path

-- the first cell behind all that the code of a path uses
abbrev pub along_peak : Scope → Ty → ℕ → List Access → ℕ
along_peak g ty o [] = o + 1
along_peak g ty o (Index e p ∷ path) = max (peak_of g e (o + 1)) (along_peak g (element_type ty) o path)
along_peak g ty o (Slice e k p ∷ path) = max (peak_of g e (o + 1)) (along_peak g (array_of k (element_type ty)) o path)
along_peak g ty o (Part name k p ∷ path) = along_peak g (part_type g.structs ty k) o path

-- whether 32 bits hold the other numbers of the code of a path
abbrev pub along_coded : Scope → Ty → ℕ → List Access → Bool
along_coded g ty o [] = true
along_coded g ty o (Index e p ∷ path) = is_coded g e (o + 1) && (counts_elements g ty && along_coded g (element_type ty) o path)
along_coded g ty o (Slice e k p ∷ path) = is_coded g e (o + 1) && (counts_elements g ty && along_coded g (array_of k (element_type ty)) o path)
along_coded g ty o (Part name k p ∷ path) = along_coded g (part_type g.structs ty k) o path

-- where a value that is assigned is kept while the path is walked: one of several cells has been copied, since it may be part of what is assigned
abbrev pub kept_at : Spot → ℕ → ℕ → Spot
kept_at x d zero = x
kept_at x d (suc zero) = x
kept_at x d (suc (suc n)) = Local d

-- its copy, if one is made
abbrev pub keeping : Spot → ℕ → ℕ → List Step
keeping x d zero = []
keeping x d (suc zero) = []
keeping x d (suc (suc n)) = settling x d (suc (suc n))

-- so many cells from a spot go along a path into a variable
abbrev pub storing : Scope → Holder → List Access → Spot → ℕ → ℕ → List Step
storing g v path x o n =
    let to = shifted v.spot (along_shift g v.ty path) in
    pick (has_index path) (Number (Local o) (pos 0) ∷ (along_code g v.ty o path ++ Store to (Local o) x n ∷ [])) (moving to x n)

-- the same where the variable was found
abbrev pub storing_if : Scope → Option Holder → List Access → Spot → ℕ → ℕ → List Step
storing_if g None path x o n = []
storing_if g (Some v) path x o n = storing g v path x o n

-- the first cell behind all that an assignment of so many cells from d on uses
abbrev pub storing_peak : Scope → Option Holder → List Access → ℕ → ℕ → ℕ
storing_peak g None path d n = behind d n
storing_peak g (Some v) path d n = pick (has_index path) (along_peak g v.ty (d + n) path) (behind d n)

-- whether 32 bits hold the other numbers of an assignment
abbrev pub storing_coded : Scope → Option Holder → List Access → ℕ → Bool
storing_coded g None path o = true
storing_coded g (Some v) path o = along_coded g v.ty o path && small (number_of (shifted v.spot (along_shift g v.ty path)))

-- the code of an assignment
abbrev pub assign_code : Scope → ℕ → ℕ → List Access → Expr → List Step
assign_code g d id path e =
    let n = size_in g e in
    code_of g e d ++ (keeping (stands g e d) d n ++ storing_if g (variable g id) path (kept_at (stands g e d) d n) (d + n) n)

abbrev mutual
  -- the code of a statement, whose cells from d on are free
  pub stmt_code : Scope → ℕ → Stmt → List Step
  stmt_code g d (VarStmt v) = initial_code g d (cells_for g (type_of v.ty)) v.initial
  stmt_code g d (Assign name path e) = assign_code g d name.id path e
  stmt_code g d (Call name k es) = code_of_all g es d ++ call_code (g.funs k) d
  stmt_code g d (Error text p) = Fail 5 p ∷ []
  stmt_code g d (If' e _ a p) = code_of g e d ++ Branch (record { test = stands g e d; first = row_code g d a; second = [] }) ∷ []
  stmt_code g d (IfElse' e _ a _ b p) = code_of g e d ++ Branch (record { test = stands g e d; first = row_code g d a; second = row_code g d b }) ∷ []
  stmt_code g d (While' e _ a p) = While (record { test = code_of g e d; cell = stands g e d; body = row_code g d a }) ∷ []
  stmt_code g d (For' name a n _ b p) =
      code_of g a d ++ (settling (stands g a d) d 1 ++ (code_of g n (d + 1) ++ (settling (stands g n (d + 1)) (d + 1) 1
      ++ Count (record { turns = Local (d + 1); index = Local d; body = row_code (with_index g d name.id) (d + 1) b }) ∷ [])))

  -- the code of statements one after the other
  pub row_code : {k : _} → Scope → ℕ → Row_of-Stmt k → List Step
  row_code g d end_of-Stmt = []
  row_code g d (more_of-Stmt a row) = stmt_code g d a ++ row_code (scope_after g d a) (free_after g d a) row

-- what is in scope after statements
abbrev pub scope_after_row : {k : _} → Scope → ℕ → Row_of-Stmt k → Scope
scope_after_row g d end_of-Stmt = g
scope_after_row g d (more_of-Stmt a row) = scope_after_row (scope_after g d a) (free_after g d a) row

-- the first free cell after statements
abbrev pub free_after_row : {k : _} → Scope → ℕ → Row_of-Stmt k → ℕ
free_after_row g d end_of-Stmt = d
free_after_row g d (more_of-Stmt a row) = free_after_row (scope_after g d a) (free_after g d a) row
