-- The law of calls of functions: what a function does is what its body does.
use Rattle.std.specs.Prelude.{ℕ, suc, ◌<◌, List, [], ◌∷◌, Option, Some, None, ◌≡◌, slice_get, take}
use Rattle.zir_tree.specs.declared.value.Val.{Val}
use Rattle.zir_tree.specs.declared.expr.Callee.{Callee}
use Rattle.zir_tree.specs.declared.expr.Callee.TheVariants.{Function as FunctionCallee, Struct as StructCallee}
use Rattle.zir_tree.specs.declared.expr.Expr.{Expr, Unit as UnitExpr, Bit, Bool as BoolLiteral, Int, Variable, Unary', Binary', Index', Slice', Part', Call', Array', Convert', Complex', Row_of-Expr, end_of-Expr, more_of-Expr}
use Rattle.zir_tree.specs.declared.stmt.Access.{Access}
use Rattle.zir_tree.specs.declared.stmt.Access.TheVariants.{Index, Slice, Part}
use Rattle.zir_tree.specs.declared.stmt.Stmt.{Stmt, Var as VarStmt, Assign, Call as CallStmt, Error, If', IfElse', While', For', Row_of-Stmt, end_of-Stmt, more_of-Stmt}
use Rattle.zir_tree.specs.declared.stmt.Return.{Return}
use Rattle.zir_tree.specs.declared.stmt.Body.{Body}
use Rattle.zir_tree.specs.declared.program.Function.{Function}
use Rattle.zir_tree.specs.declared.program.Core.{Core}
use Rattle.zir_meaning.specs.Trace.{State}
use Rattle.zir_meaning.specs.Statements.{run_body}
use Rattle.zir_meaning.specs.Functions.{called_fun, library_of}

-- a call of a function at a place below n, or of a struct
abbrev pub CalleeBelow : ℕ → Callee → Type 0
CalleeBelow n (FunctionCallee k) = k < n
CalleeBelow n (StructCallee k) = Unit {0}

abbrev mutual
  -- each function that an expression calls has a place below n
  pub ExprBelow : ℕ → Expr → Type 0
  ExprBelow n (UnitExpr p) = Unit {0}
  ExprBelow n (Bit b p) = Unit {0}
  ExprBelow n (BoolLiteral b p) = Unit {0}
  ExprBelow n (Int i t p) = Unit {0}
  ExprBelow n (Variable name) = Unit {0}
  ExprBelow n (Unary' o t _ (more_of-Expr a end_of-Expr) p) = ExprBelow n a
  ExprBelow n (Binary' o t _ (more_of-Expr a end_of-Expr) _ (more_of-Expr b end_of-Expr) p) = ExprBelow n a × ExprBelow n b
  ExprBelow n (Index' _ (more_of-Expr a end_of-Expr) _ (more_of-Expr i end_of-Expr) p) = ExprBelow n a × ExprBelow n i
  ExprBelow n (Slice' _ (more_of-Expr a end_of-Expr) _ (more_of-Expr i end_of-Expr) k p) = ExprBelow n a × ExprBelow n i
  ExprBelow n (Part' _ (more_of-Expr a end_of-Expr) name k p) = ExprBelow n a
  ExprBelow n (Call' name callee _ es) = ExprsBelow n es × CalleeBelow n callee
  ExprBelow n (Array' _ es p) = ExprsBelow n es
  ExprBelow n (Convert' t _ (more_of-Expr a end_of-Expr) p) = ExprBelow n a
  ExprBelow n (Complex' t _ (more_of-Expr a end_of-Expr) _ (more_of-Expr b end_of-Expr) p) = ExprBelow n a × ExprBelow n b

  -- each function that a row of expressions calls has a place below n
  pub ExprsBelow : {m : _} → ℕ → Row_of-Expr m → Type 0
  ExprsBelow n end_of-Expr = Unit {0}
  ExprsBelow n (more_of-Expr e es) = ExprBelow n e × ExprsBelow n es

-- each function that a list of expressions calls has a place below n
abbrev pub ArgumentsBelow : ℕ → List Expr → Type 0
ArgumentsBelow n [] = Unit {0}
ArgumentsBelow n (e ∷ es) = ExprBelow n e × ArgumentsBelow n es

-- each function that the indexes of a path call has a place below n
abbrev pub PathBelow : ℕ → List Access → Type 0
PathBelow n [] = Unit {0}
PathBelow n (Index e p ∷ path) = ExprBelow n e × PathBelow n path
PathBelow n (Slice e k p ∷ path) = ExprBelow n e × PathBelow n path
PathBelow n (Part name k p ∷ path) = PathBelow n path

-- each function that an initial value calls has a place below n
abbrev pub InitialBelow : ℕ → Option Expr → Type 0
InitialBelow n None = Unit {0}
InitialBelow n (Some e) = ExprBelow n e

abbrev mutual
  -- each function that a statement calls has a place below n
  pub StmtBelow : ℕ → Stmt → Type 0
  StmtBelow n (VarStmt v) = InitialBelow n v.initial
  StmtBelow n (Assign name path e) = ExprBelow n e × PathBelow n path
  StmtBelow n (CallStmt name k es) = ArgumentsBelow n es × (k < n)
  StmtBelow n (Error text p) = Unit {0}
  StmtBelow n (If' e _ a p) = ExprBelow n e × StmtsBelow n a
  StmtBelow n (IfElse' e _ a _ b p) = ExprBelow n e × StmtsBelow n a × StmtsBelow n b
  StmtBelow n (While' e _ a p) = ExprBelow n e × StmtsBelow n a
  StmtBelow n (For' name a m _ b p) = ExprBelow n a × ExprBelow n m × StmtsBelow n b

  -- each function that a row of statements calls has a place below n
  pub StmtsBelow : {m : _} → ℕ → Row_of-Stmt m → Type 0
  StmtsBelow n end_of-Stmt = Unit {0}
  StmtsBelow n (more_of-Stmt a row) = StmtBelow n a × StmtsBelow n row

-- each function that a list of statements calls has a place below n
abbrev pub ListBelow : ℕ → List Stmt → Type 0
ListBelow n [] = Unit {0}
ListBelow n (a ∷ more) = StmtBelow n a × ListBelow n more

-- each function that the value of a body calls has a place below n
abbrev pub ResultBelow : ℕ → Option Return → Type 0
ResultBelow n None = Unit {0}
ResultBelow n (Some result) = ExprBelow n result.value

-- each function that a body calls has a place below n
abbrev pub BodyBelow : ℕ → Body → Type 0
BodyBelow n body = ListBelow n body.statements × ResultBelow n body.result

-- each of these functions, which stand behind n others, calls only functions before it
abbrev pub InOrderFrom : ℕ → List Function → Type 0
InOrderFrom n [] = Unit {0}
InOrderFrom n (f ∷ fs) = BodyBelow n f.body × InOrderFrom (suc n) fs

-- each function of a program calls only functions before it
abbrev pub InOrder : Core → Type 0
InOrder core = InOrderFrom 0 core.functions

-- what a function of a program does
pub record FunctionBody (core : Core) (k : ℕ) (f : Function) : Type 0 where
  -- its body over the functions before it; a call of another runs out there
  pub before : (vs : List Val) (s : State) →
      (library_of core.structs core.functions).funs k vs s
      ≡ called_fun f.params (run_body (library_of core.structs (take k core.functions)) f.body) vs s
  -- where the functions are in order, its body in the program
  pub in_program : InOrder core → (vs : List Val) (s : State) →
      (library_of core.structs core.functions).funs k vs s ≡ called_fun f.params (run_body (library_of core.structs core.functions) f.body) vs s

-- a function of a program does what its body does
abbrev pub FunctionCalls : Type 0
FunctionCalls = (core : Core) (k : ℕ) (f : Function) → slice_get core.functions k ≡ Some f → FunctionBody core k f
