-- Which variables that are declared outside it a part of a program assigns, itself or through calls.
use Rattle.std.specs.Prelude.{ℕ, suc, List, [], ◌∷◌, ◌++◌, Option, Some, None, if◌then◌else◌, nat_eq}
use Rattle.zir_tree.specs.declared.expr.Callee.{Callee}
use Rattle.zir_tree.specs.declared.expr.Callee.TheVariants.{Function as FunctionCallee, Struct as StructCallee}
use Rattle.zir_tree.specs.declared.expr.Expr.{Expr, Unit, Bit, Bool as BoolLiteral, Int, Variable, Unary', Binary', Index', Slice', Part', Call', Array', Convert', Complex', Row_of-Expr, end_of-Expr, more_of-Expr}
use Rattle.zir_tree.specs.declared.stmt.Access.{Access}
use Rattle.zir_tree.specs.declared.stmt.Access.TheVariants.{Index, Slice, Part}
use Rattle.zir_tree.specs.declared.stmt.Stmt.{Stmt, Var as VarStmt, Assign, Call as CallStmt, Error, If', IfElse', While', For', Row_of-Stmt, end_of-Stmt, more_of-Stmt}
use Rattle.zir_tree.specs.declared.stmt.Return.{Return}
use Rattle.zir_tree.specs.declared.stmt.Body.{Body}
use Rattle.zir_tree.specs.declared.comp.Comp.{Comp, Take, Takes, Emit, Emits, Return as ReturnComp, Do, Repeat', While' as WhileComp', Times', For' as ForComp', If' as IfComp', Map, Filter, Call as CallComp, Block', Pipe', end_of-Comp, more_of-Comp, Row_of-Member, end_of-Member, more_of-Member}
use Rattle.zir_tree.specs.declared.comp.Member.{Bind, Var as VarMember, Run}
use Rattle.zir_tree.specs.declared.program.Function.{Function}
use Rattle.zir_tree.specs.declared.program.Instance.{Instance}
use Rattle.zir_meaning.specs.Store.{among}
use Rattle.zir_meaning.specs.Functions.{pick}

-- what each function and each instance assigns, by its place
pub record Assigning : Type 0 where
  pub by_fun : ℕ → List ℕ
  pub by_instance : ℕ → List ℕ

-- these numbers but for some
abbrev pub without : List ℕ → List ℕ → List ℕ
without some [] = []
without some (id ∷ ids) = if among some id then without some ids else id ∷ without some ids

-- what a call of a function or a struct assigns
abbrev pub callee_assigns : Assigning → Callee → List ℕ
callee_assigns a (FunctionCallee k) = a.by_fun k
callee_assigns a (StructCallee k) = []

abbrev mutual
  -- what an expression assigns, through its calls
  pub expr_assigns : Assigning → Expr → List ℕ
  expr_assigns r (Unit p) = []
  expr_assigns r (Bit b p) = []
  expr_assigns r (BoolLiteral b p) = []
  expr_assigns r (Int n t p) = []
  expr_assigns r (Variable name) = []
  expr_assigns r (Unary' o t _ (more_of-Expr a end_of-Expr) p) = expr_assigns r a
  expr_assigns r (Binary' o t _ (more_of-Expr a end_of-Expr) _ (more_of-Expr b end_of-Expr) p) = expr_assigns r a ++ expr_assigns r b
  expr_assigns r (Index' _ (more_of-Expr a end_of-Expr) _ (more_of-Expr i end_of-Expr) p) = expr_assigns r a ++ expr_assigns r i
  expr_assigns r (Slice' _ (more_of-Expr a end_of-Expr) _ (more_of-Expr i end_of-Expr) k p) = expr_assigns r a ++ expr_assigns r i
  expr_assigns r (Part' _ (more_of-Expr a end_of-Expr) name k p) = expr_assigns r a
  expr_assigns r (Call' name callee _ es) = row_assigns r es ++ callee_assigns r callee
  expr_assigns r (Array' _ es p) = row_assigns r es
  expr_assigns r (Convert' t _ (more_of-Expr a end_of-Expr) p) = expr_assigns r a
  expr_assigns r (Complex' t _ (more_of-Expr a end_of-Expr) _ (more_of-Expr b end_of-Expr) p) = expr_assigns r a ++ expr_assigns r b

  -- what a row of expressions assigns
  pub row_assigns : {m : _} → Assigning → Row_of-Expr m → List ℕ
  row_assigns r end_of-Expr = []
  row_assigns r (more_of-Expr e es) = expr_assigns r e ++ row_assigns r es

-- what a list of expressions assigns
abbrev pub exprs_assign : Assigning → List Expr → List ℕ
exprs_assign r [] = []
exprs_assign r (e ∷ es) = expr_assigns r e ++ exprs_assign r es

-- what the indexes of a path assign
abbrev pub path_assigns : Assigning → List Access → List ℕ
path_assigns r [] = []
path_assigns r (Index e p ∷ path) = expr_assigns r e ++ path_assigns r path
path_assigns r (Slice e k p ∷ path) = expr_assigns r e ++ path_assigns r path
path_assigns r (Part name k p ∷ path) = path_assigns r path

-- what an initial value assigns
abbrev pub initial_assigns : Assigning → Option Expr → List ℕ
initial_assigns r None = []
initial_assigns r (Some e) = expr_assigns r e

-- the variable that a statement declares, if it is a declaration
abbrev pub declares : Stmt → List ℕ
declares (VarStmt v) = v.name.id ∷ []
declares (Assign name path e) = []
declares (CallStmt name k es) = []
declares (Error text p) = []
declares (If' e _ a p) = []
declares (IfElse' e _ a _ b p) = []
declares (While' e _ a p) = []
declares (For' name a n _ b p) = []

abbrev mutual
  -- what a statement assigns
  pub stmt_assigns : Assigning → Stmt → List ℕ
  stmt_assigns r (VarStmt v) = initial_assigns r v.initial
  stmt_assigns r (Assign name path e) = name.id ∷ expr_assigns r e ++ path_assigns r path
  stmt_assigns r (CallStmt name k es) = exprs_assign r es ++ r.by_fun k
  stmt_assigns r (Error text p) = []
  stmt_assigns r (If' e _ a p) = expr_assigns r e ++ stmts_assign r a
  stmt_assigns r (IfElse' e _ a _ b p) = expr_assigns r e ++ stmts_assign r a ++ stmts_assign r b
  stmt_assigns r (While' e _ a p) = expr_assigns r e ++ stmts_assign r a
  stmt_assigns r (For' name a n _ b p) = expr_assigns r a ++ expr_assigns r n ++ stmts_assign r b

  -- what a row of statements assigns, but for what it declares
  pub stmts_assign : {m : _} → Assigning → Row_of-Stmt m → List ℕ
  stmts_assign r end_of-Stmt = []
  stmts_assign r (more_of-Stmt a row) = stmt_assigns r a ++ without (declares a) (stmts_assign r row)

-- what the value that a body returns assigns
abbrev pub result_assigns : Assigning → Option Return → List ℕ
result_assigns r None = []
result_assigns r (Some result) = expr_assigns r result.value

-- what these statements and then the value of their body assign, but for what they declare
abbrev pub all_assign : Assigning → List Stmt → List ℕ → List ℕ
all_assign r [] last = last
all_assign r (a ∷ more) last = stmt_assigns r a ++ without (declares a) (all_assign r more last)

-- what a body assigns
abbrev pub body_assigns : Assigning → Body → List ℕ
body_assigns r body = all_assign r body.statements (result_assigns r body.result)

abbrev mutual
  -- what a component assigns
  pub assigns : Assigning → Comp → List ℕ
  assigns r (Take p) = []
  assigns r (Takes n p) = []
  assigns r (Emit e p) = expr_assigns r e
  assigns r (Emits e p) = expr_assigns r e
  assigns r (ReturnComp e p) = expr_assigns r e
  assigns r (Do body p) = body_assigns r body
  assigns r (Repeat' _ (more_of-Comp c end_of-Comp) p) = assigns r c
  assigns r (WhileComp' turning e _ (more_of-Comp c end_of-Comp) p) = expr_assigns r e ++ assigns r c
  assigns r (Times' e _ (more_of-Comp c end_of-Comp) p) = expr_assigns r e ++ assigns r c
  assigns r (ForComp' name a n _ (more_of-Comp c end_of-Comp) p) = expr_assigns r a ++ expr_assigns r n ++ assigns r c
  assigns r (IfComp' e _ (more_of-Comp a end_of-Comp) _ (more_of-Comp b end_of-Comp) p) = expr_assigns r e ++ assigns r a ++ assigns r b
  assigns r (Map f k p) = r.by_fun k
  assigns r (Filter f k p) = r.by_fun k
  assigns r (CallComp name k es) = exprs_assign r es ++ r.by_instance k
  assigns r (Block' _ ms p) = members_assign r ms
  assigns r (Pipe' link _ (more_of-Comp a end_of-Comp) _ (more_of-Comp b end_of-Comp) p) = assigns r a ++ assigns r b

  -- what the members of a block assign, but for what they declare
  pub members_assign : {m : _} → Assigning → Row_of-Member m → List ℕ
  members_assign r end_of-Member = []
  members_assign r (more_of-Member (Bind name c) ms) = assigns r c ++ members_assign r ms
  members_assign r (more_of-Member (VarMember v) ms) = initial_assigns r v.initial ++ without (v.name.id ∷ []) (members_assign r ms)
  members_assign r (more_of-Member (Run c) ms) = assigns r c ++ members_assign r ms

-- what these functions assign, behind n others
abbrev pub more_fun_assigns : (ℕ → List ℕ) → ℕ → List Function → ℕ → List ℕ
more_fun_assigns before n [] = before
more_fun_assigns before n (f ∷ fs) =
    more_fun_assigns (λ k. pick (nat_eq k n) (body_assigns (record { by_fun = before; by_instance = λ i. [] }) f.body) (before k)) (suc n) fs

-- what each function assigns
abbrev pub fun_assigns : List Function → ℕ → List ℕ
fun_assigns fs = more_fun_assigns (λ k. []) 0 fs

-- what these instances assign, behind n others
abbrev pub more_instance_assigns : (ℕ → List ℕ) → (ℕ → List ℕ) → ℕ → List Instance → ℕ → List ℕ
more_instance_assigns funs before n [] = before
more_instance_assigns funs before n (i ∷ is) =
    more_instance_assigns funs (λ k. pick (nat_eq k n) (assigns (record { by_fun = funs; by_instance = before }) i.body) (before k)) (suc n) is

-- what the functions and instances of a program assign
abbrev pub assigning : List Function → List Instance → Assigning
assigning fs is = record { by_fun = fun_assigns fs; by_instance = more_instance_assigns (fun_assigns fs) (λ k. []) 0 is }
