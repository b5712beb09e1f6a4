-- Which variables and functions a part of a program may use.
use Rattle.std.specs.Prelude.{ℕ, List, [], ◌∷◌, Option, Some, None}
use Rattle.zir_tree.specs.declared.expr.Callee.{Callee}
use Rattle.zir_tree.specs.declared.expr.Callee.TheVariants.{Function as FunctionCallee, Struct as StructCallee}
use Rattle.zir_tree.specs.declared.expr.Expr.{Expr, Unit as UnitExpr, Bit, Bool as BoolLiteral, Int, Variable, Unary', Binary', Index', Slice', Part', Call', Array', Convert', Complex', Row_of-Expr, end_of-Expr, more_of-Expr}
use Rattle.zir_tree.specs.declared.stmt.Access.{Access}
use Rattle.zir_tree.specs.declared.stmt.Access.TheVariants.{Index, Slice, Part}
use Rattle.zir_tree.specs.declared.stmt.Stmt.{Stmt, Var as VarStmt, Assign, Call as CallStmt, Error, If', IfElse', While', For', Row_of-Stmt, end_of-Stmt, more_of-Stmt}
use Rattle.zir_tree.specs.declared.stmt.Return.{Return}
use Rattle.zir_tree.specs.declared.stmt.Body.{Body}

-- a call of a function that may be called, by its place, or of a struct
abbrev pub CalleeWithin : (ℕ → Type 0) → Callee → Type 0
CalleeWithin Q (FunctionCallee k) = Q k
CalleeWithin Q (StructCallee k) = Unit {0}

abbrev mutual
  -- each variable that an expression names is one of the first, by its number, and each function that it calls one of the second, by its place
  pub ExprWithin : (ℕ → Type 0) → (ℕ → Type 0) → Expr → Type 0
  ExprWithin P Q (UnitExpr p) = Unit {0}
  ExprWithin P Q (Bit b p) = Unit {0}
  ExprWithin P Q (BoolLiteral b p) = Unit {0}
  ExprWithin P Q (Int i t p) = Unit {0}
  ExprWithin P Q (Variable name) = P name.id
  ExprWithin P Q (Unary' o t _ (more_of-Expr a end_of-Expr) p) = ExprWithin P Q a
  ExprWithin P Q (Binary' o t _ (more_of-Expr a end_of-Expr) _ (more_of-Expr b end_of-Expr) p) = ExprWithin P Q a × ExprWithin P Q b
  ExprWithin P Q (Index' _ (more_of-Expr a end_of-Expr) _ (more_of-Expr i end_of-Expr) p) = ExprWithin P Q a × ExprWithin P Q i
  ExprWithin P Q (Slice' _ (more_of-Expr a end_of-Expr) _ (more_of-Expr i end_of-Expr) k p) = ExprWithin P Q a × ExprWithin P Q i
  ExprWithin P Q (Part' _ (more_of-Expr a end_of-Expr) name k p) = ExprWithin P Q a
  ExprWithin P Q (Call' name callee _ es) = RowWithin P Q es × CalleeWithin Q callee
  ExprWithin P Q (Array' _ es p) = RowWithin P Q es
  ExprWithin P Q (Convert' t _ (more_of-Expr a end_of-Expr) p) = ExprWithin P Q a
  ExprWithin P Q (Complex' t _ (more_of-Expr a end_of-Expr) _ (more_of-Expr b end_of-Expr) p) = ExprWithin P Q a × ExprWithin P Q b

  -- the same of expressions in a row
  pub RowWithin : {m : _} → (ℕ → Type 0) → (ℕ → Type 0) → Row_of-Expr m → Type 0
  RowWithin P Q end_of-Expr = Unit {0}
  RowWithin P Q (more_of-Expr e es) = ExprWithin P Q e × RowWithin P Q es

-- the same of arguments
abbrev pub ArgumentsWithin : (ℕ → Type 0) → (ℕ → Type 0) → List Expr → Type 0
ArgumentsWithin P Q [] = Unit {0}
ArgumentsWithin P Q (e ∷ es) = ExprWithin P Q e × ArgumentsWithin P Q es

-- the same of the indexes of a path
abbrev pub PathWithin : (ℕ → Type 0) → (ℕ → Type 0) → List Access → Type 0
PathWithin P Q [] = Unit {0}
PathWithin P Q (Index e p ∷ path) = ExprWithin P Q e × PathWithin P Q path
PathWithin P Q (Slice e k p ∷ path) = ExprWithin P Q e × PathWithin P Q path
PathWithin P Q (Part name k p ∷ path) = PathWithin P Q path

-- the same of an initial value, if there is one
abbrev pub InitialWithin : (ℕ → Type 0) → (ℕ → Type 0) → Option Expr → Type 0
InitialWithin P Q None = Unit {0}
InitialWithin P Q (Some e) = ExprWithin P Q e

abbrev mutual
  -- the same of a statement, which also assigns no other variable
  pub StmtWithin : (ℕ → Type 0) → (ℕ → Type 0) → Stmt → Type 0
  StmtWithin P Q (VarStmt v) = InitialWithin P Q v.initial
  StmtWithin P Q (Assign name path e) = P name.id × ExprWithin P Q e × PathWithin P Q path
  StmtWithin P Q (CallStmt name k es) = ArgumentsWithin P Q es × Q k
  StmtWithin P Q (Error text p) = Unit {0}
  StmtWithin P Q (If' e _ a p) = ExprWithin P Q e × BlockWithin P Q a
  StmtWithin P Q (IfElse' e _ a _ b p) = ExprWithin P Q e × BlockWithin P Q a × BlockWithin P Q b
  StmtWithin P Q (While' e _ a p) = ExprWithin P Q e × BlockWithin P Q a
  StmtWithin P Q (For' name a m _ b p) = ExprWithin P Q a × ExprWithin P Q m × BlockWithin P Q b

  -- the same of statements in a row
  pub BlockWithin : {m : _} → (ℕ → Type 0) → (ℕ → Type 0) → Row_of-Stmt m → Type 0
  BlockWithin P Q end_of-Stmt = Unit {0}
  BlockWithin P Q (more_of-Stmt a row) = StmtWithin P Q a × BlockWithin P Q row

-- the same of the statements of a body
abbrev pub AllWithin : (ℕ → Type 0) → (ℕ → Type 0) → List Stmt → Type 0
AllWithin P Q [] = Unit {0}
AllWithin P Q (a ∷ more) = StmtWithin P Q a × AllWithin P Q more

-- the same of the value of a body, if it has one
abbrev pub ResultWithin : (ℕ → Type 0) → (ℕ → Type 0) → Option Return → Type 0
ResultWithin P Q None = Unit {0}
ResultWithin P Q (Some result) = ExprWithin P Q result.value

-- the same of a body
abbrev pub BodyWithin : (ℕ → Type 0) → (ℕ → Type 0) → Body → Type 0
BodyWithin P Q body = AllWithin P Q body.statements × ResultWithin P Q body.result
