-- Programs whose initial values use only what stands before them.
use Rattle.std.specs.Prelude.{ℕ, ◌<◌, List, [], ◌∷◌, Option, false, ◌≡◌, nat_eq, take}
use Rattle.zir_tree.specs.declared.expr.Expr.{Expr}
use Rattle.zir_tree.specs.declared.types.Field.{Field}
use Rattle.zir_tree.specs.declared.stmt.Var.{Var}
use Rattle.zir_tree.specs.declared.stmt.Stmt.{Stmt, Var as VarStmt, Assign, Call as CallStmt, Error, If', IfElse', While', For', Row_of-Stmt, end_of-Stmt, more_of-Stmt}
use Rattle.zir_tree.specs.declared.program.Function.{Function}
use Rattle.zir_tree.specs.declared.program.Core.{Core}
use Rattle.zir_beginning.specs.Uses.{InitialWithin, BodyWithin}

-- none of these variables has this number
abbrev pub Apart : List Var → ℕ → Type 0
Apart [] id = Unit {0}
Apart (v ∷ vs) id = (nat_eq v.name.id id ≡ false) × Apart vs id

-- no two of these variables have one number
abbrev pub HaveOwnNumbers : List Var → Type 0
HaveOwnNumbers [] = Unit {0}
HaveOwnNumbers (v ∷ vs) = Apart vs v.name.id × HaveOwnNumbers vs

-- none of these functions uses one of these variables
abbrev pub AreApart : List Var → List Function → Type 0
AreApart later [] = Unit {0}
AreApart later (f ∷ fs) = BodyWithin (Apart later) (λ k. Unit {0}) f.body × AreApart later fs

-- an initial value calls some of the first functions alone, and neither it nor any of these uses one of these variables
pub record Precedes (functions : List Function) (later : List Var) (initial : Option Expr) : Type 0 where
  pub count : ℕ
  pub value : InitialWithin (Apart later) (λ k. k < count) initial
  pub first : AreApart later (take count functions)

-- each initial value, with what it calls, uses only variables before it
abbrev pub ArePreceding : List Function → List Var → Type 0
ArePreceding functions [] = Unit {0}
ArePreceding functions (v ∷ vs) = Precedes functions (v ∷ vs) v.initial × ArePreceding functions vs

-- the top variables of a program have numbers of their own, and each initial value, with what it calls, uses only variables before it
pub record BeginsInOrder (core : Core) : Type 0 where
  pub own : HaveOwnNumbers core.variables
  pub values : ArePreceding core.functions core.variables

abbrev mutual
  -- each number that a statement declares is so
  pub StmtDeclares : (ℕ → Type 0) → Stmt → Type 0
  StmtDeclares P (VarStmt v) = P v.name.id
  StmtDeclares P (Assign name path e) = Unit {0}
  StmtDeclares P (CallStmt name k es) = Unit {0}
  StmtDeclares P (Error text p) = Unit {0}
  StmtDeclares P (If' e _ a p) = BlockDeclares P a
  StmtDeclares P (IfElse' e _ a _ b p) = BlockDeclares P a × BlockDeclares P b
  StmtDeclares P (While' e _ a p) = BlockDeclares P a
  StmtDeclares P (For' name a m _ b p) = P name.id × BlockDeclares P b

  -- the same of statements in a row
  pub BlockDeclares : {m : _} → (ℕ → Type 0) → Row_of-Stmt m → Type 0
  BlockDeclares P end_of-Stmt = Unit {0}
  BlockDeclares P (more_of-Stmt a row) = StmtDeclares P a × BlockDeclares P row

-- the same of the statements of a body
abbrev pub AllDeclare : (ℕ → Type 0) → List Stmt → Type 0
AllDeclare P [] = Unit {0}
AllDeclare P (a ∷ more) = StmtDeclares P a × AllDeclare P more

-- the same of parameters
abbrev pub ParametersDeclare : (ℕ → Type 0) → List Field → Type 0
ParametersDeclare P [] = Unit {0}
ParametersDeclare P (p ∷ ps) = P p.name.id × ParametersDeclare P ps

-- the same of functions
abbrev pub FunctionsDeclare : (ℕ → Type 0) → List Function → Type 0
FunctionsDeclare P [] = Unit {0}
FunctionsDeclare P (f ∷ fs) = ParametersDeclare P f.params × AllDeclare P f.body.statements × FunctionsDeclare P fs

-- the top variables of a program have numbers of their own, which no function declares
pub record OwnsNumbers (core : Core) : Type 0 where
  pub own : HaveOwnNumbers core.variables
  pub inner : FunctionsDeclare (Apart core.variables) core.functions
