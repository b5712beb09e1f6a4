-- Trees without their places: each place is set to one that tells nothing, and all else stays.
use Rattle.std.specs.Prelude.{List, [], ◌∷◌, map, Option, Some, None}
use Rattle.zir_tree.specs.declared.ident.Ident.{Ident}
use Rattle.zir_tree.specs.declared.types.Dimension.{Dimension}
use Rattle.zir_tree.specs.declared.types.TypeExpr.{TypeExpr}
use Rattle.zir_tree.specs.declared.types.Field.{Field}
use Rattle.zir_tree.specs.declared.expr.Expr.{Expr, Unit, Bit, Bool as Truth, Int, Variable, Unary', Binary', Index', Slice', Part', Call', Array', Convert', Complex', Row_of-Expr, end_of-Expr, more_of-Expr}
use Rattle.zir_tree.specs.declared.expr.Expr as expr
use Rattle.zir_tree.specs.declared.stmt.Var.{Var}
use Rattle.zir_tree.specs.declared.stmt.Access.{Access}
use Rattle.zir_tree.specs.declared.stmt.Access.TheVariants as access
use Rattle.zir_tree.specs.declared.stmt.Stmt.{Stmt, Var as Declares, Assign, Call as Calls, Error, If' as Tests, IfElse', While' as Turns, For' as Counts, Row_of-Stmt, end_of-Stmt, more_of-Stmt}
use Rattle.zir_tree.specs.declared.stmt.Stmt as stmt
use Rattle.zir_tree.specs.declared.stmt.Return.{Return}
use Rattle.zir_tree.specs.declared.stmt.Body.{Body}
use Rattle.zir_tree.specs.declared.comp.Comp.{Comp, Take, Takes, Emit, Emits, Return as Gives, Do, Repeat', While', Times', For', If', Map, Filter, Call, Block', Pipe', end_of-Comp, more_of-Comp, Row_of-Member, end_of-Member, more_of-Member}
use Rattle.zir_tree.specs.declared.comp.Comp as comp
use Rattle.zir_tree.specs.declared.comp.Member.{Member, Bind, Var as Keeps, Run}
use Rattle.zir_tree.specs.declared.comp.Member as member
use Rattle.zir_tree.specs.declared.program.Decl.{Decl}
use Rattle.zir_tree.specs.declared.program.Decl.TheVariants as decl
use Rattle.zir_tree.specs.declared.program.Struct.{Struct}
use Rattle.zir_tree.specs.declared.program.Function.{Function}
use Rattle.zir_tree.specs.declared.program.CompFunction.{CompFunction}
use Rattle.zir_tree.specs.declared.program.Prog.{Prog}
use Rattle.zir_print.specs.Marks.{nowhere}

-- what a function makes of a value, if there is one
abbrev pub if_some : {A B : Type 0} → (A → B) → Option A → Option B
if_some f None = None
if_some f (Some x) = Some (f x)

-- ---- names and types

-- a name
abbrev pub bare_ident : Ident → Ident
bare_ident x = record { name = x.name; id = x.id; at = nowhere }

-- a dimension of an array
abbrev pub bare_dimension : Dimension → Dimension
bare_dimension d = record { length = d.length; at = nowhere }

-- a type
abbrev pub bare_type : TypeExpr → TypeExpr
bare_type t = record { dimensions = map bare_dimension t.dimensions; base = t.base; name = if_some bare_ident t.name; at = nowhere }

-- a name with its type
abbrev pub bare_field : Field → Field
bare_field f = record { name = bare_ident f.name; ty = bare_type f.ty }

-- ---- expressions

abbrev mutual
  -- an expression
  pub bare_expr : Expr → Expr
  bare_expr (Unit p) = expr.Unit nowhere
  bare_expr (Bit b p) = expr.Bit b nowhere
  bare_expr (Truth b p) = expr.Bool b nowhere
  bare_expr (Int n b p) = expr.Int n b nowhere
  bare_expr (Variable x) = expr.Variable (bare_ident x)
  bare_expr (Unary' op t _ (more_of-Expr a end_of-Expr) p) = expr.Unary op t (bare_expr a) nowhere
  bare_expr (Binary' op t _ (more_of-Expr a end_of-Expr) _ (more_of-Expr b end_of-Expr) p) = expr.Binary op t (bare_expr a) (bare_expr b) nowhere
  bare_expr (Index' _ (more_of-Expr a end_of-Expr) _ (more_of-Expr i end_of-Expr) p) = expr.Index (bare_expr a) (bare_expr i) nowhere
  bare_expr (Slice' _ (more_of-Expr a end_of-Expr) _ (more_of-Expr i end_of-Expr) k p) = expr.Slice (bare_expr a) (bare_expr i) k nowhere
  bare_expr (Part' _ (more_of-Expr a end_of-Expr) x k p) = expr.Part (bare_expr a) x k nowhere
  bare_expr (Call' x callee _ es) = expr.Call (bare_ident x) callee (bare_exprs es)
  bare_expr (Array' _ es p) = expr.Array (bare_exprs es) nowhere
  bare_expr (Convert' b _ (more_of-Expr a end_of-Expr) p) = expr.Convert b (bare_expr a) nowhere
  bare_expr (Complex' b _ (more_of-Expr re end_of-Expr) _ (more_of-Expr im end_of-Expr) p) = expr.Complex b (bare_expr re) (bare_expr im) nowhere

  -- each of some expressions
  pub bare_exprs : {m : _} → Row_of-Expr m → List Expr
  bare_exprs end_of-Expr = []
  bare_exprs (more_of-Expr e es) = bare_expr e ∷ bare_exprs es

-- ---- variables and statements

-- a variable
abbrev pub bare_var : Var → Var
bare_var v = record { name = bare_ident v.name; ty = bare_type v.ty; initial = if_some bare_expr v.initial; at = nowhere }

-- a step of the path to what is assigned
abbrev pub bare_access : Access → Access
bare_access (access.Index i p) = access.Index (bare_expr i) nowhere
bare_access (access.Slice i k p) = access.Slice (bare_expr i) k nowhere
bare_access (access.Part x k p) = access.Part x k nowhere

abbrev mutual
  -- a statement
  pub bare_stmt : Stmt → Stmt
  bare_stmt (Declares v) = stmt.Var (bare_var v)
  bare_stmt (Assign x path e) = stmt.Assign (bare_ident x) (map bare_access path) (bare_expr e)
  bare_stmt (Calls x k es) = stmt.Call (bare_ident x) k (map bare_expr es)
  bare_stmt (Error s p) = stmt.Error s nowhere
  bare_stmt (Tests e _ a p) = stmt.If (bare_expr e) (bare_stmts a) nowhere
  bare_stmt (IfElse' e _ a _ b p) = stmt.IfElse (bare_expr e) (bare_stmts a) (bare_stmts b) nowhere
  bare_stmt (Turns e _ a p) = stmt.While (bare_expr e) (bare_stmts a) nowhere
  bare_stmt (Counts x from count _ a p) = stmt.For (bare_ident x) (bare_expr from) (bare_expr count) (bare_stmts a) nowhere

  -- each of some statements
  pub bare_stmts : {m : _} → Row_of-Stmt m → List Stmt
  bare_stmts end_of-Stmt = []
  bare_stmts (more_of-Stmt s ss) = bare_stmt s ∷ bare_stmts ss

-- the value of a body
abbrev pub bare_return : Return → Return
bare_return r = record { value = bare_expr r.value; at = nowhere }

-- a body
abbrev pub bare_body : Body → Body
bare_body b = record { statements = map bare_stmt b.statements; result = if_some bare_return b.result }

-- ---- components

abbrev mutual
  -- a component
  pub bare_comp : Comp → Comp
  bare_comp (Take p) = comp.Take nowhere
  bare_comp (Takes n p) = comp.Takes n nowhere
  bare_comp (Emit e p) = comp.Emit (bare_expr e) nowhere
  bare_comp (Emits e p) = comp.Emits (bare_expr e) nowhere
  bare_comp (Gives e p) = comp.Return (bare_expr e) nowhere
  bare_comp (Do b p) = comp.Do (bare_body b) nowhere
  bare_comp (Repeat' _ (more_of-Comp c end_of-Comp) p) = comp.Repeat (bare_comp c) nowhere
  bare_comp (While' t e _ (more_of-Comp c end_of-Comp) p) = comp.While t (bare_expr e) (bare_comp c) nowhere
  bare_comp (Times' e _ (more_of-Comp c end_of-Comp) p) = comp.Times (bare_expr e) (bare_comp c) nowhere
  bare_comp (For' x from count _ (more_of-Comp c end_of-Comp) p) = comp.For (bare_ident x) (bare_expr from) (bare_expr count) (bare_comp c) nowhere
  bare_comp (If' e _ (more_of-Comp c end_of-Comp) _ (more_of-Comp d end_of-Comp) p) = comp.If (bare_expr e) (bare_comp c) (bare_comp d) nowhere
  bare_comp (Map x k p) = comp.Map (bare_ident x) k nowhere
  bare_comp (Filter x k p) = comp.Filter (bare_ident x) k nowhere
  bare_comp (Call x k es) = comp.Call (bare_ident x) k (map bare_expr es)
  bare_comp (Block' _ ms p) = comp.Block (bare_members ms) nowhere
  bare_comp (Pipe' l _ (more_of-Comp a end_of-Comp) _ (more_of-Comp b end_of-Comp) p) = comp.Pipe l (bare_comp a) (bare_comp b) nowhere

  -- each of some members of a block
  pub bare_members : {m : _} → Row_of-Member m → List Member
  bare_members end_of-Member = []
  bare_members (more_of-Member (Bind x c) ms) = member.Bind (bare_ident x) (bare_comp c) ∷ bare_members ms
  bare_members (more_of-Member (Keeps v) ms) = member.Var (bare_var v) ∷ bare_members ms
  bare_members (more_of-Member (Run c) ms) = member.Run (bare_comp c) ∷ bare_members ms

-- a member of a block
abbrev pub bare_member : Member → Member
bare_member (Bind x c) = member.Bind (bare_ident x) (bare_comp c)
bare_member (Keeps v) = member.Var (bare_var v)
bare_member (Run c) = member.Run (bare_comp c)

-- ---- declarations and programs

-- a struct
abbrev pub bare_struct : Struct → Struct
bare_struct s = record { name = bare_ident s.name; fields = map bare_field s.fields; at = nowhere }

-- a function
abbrev pub bare_function : Function → Function
bare_function f = record { name = bare_ident f.name; params = map bare_field f.params; result = if_some bare_type f.result; body = bare_body f.body; at = nowhere }

-- a function that is a component
abbrev pub bare_comp_function : CompFunction → CompFunction
bare_comp_function f = record { name = bare_ident f.name; params = map bare_field f.params; body = bare_comp f.body; at = nowhere }

-- a declaration
abbrev pub bare_decl : Decl → Decl
bare_decl (decl.Var v) = decl.Var (bare_var v)
bare_decl (decl.Struct s) = decl.Struct (bare_struct s)
bare_decl (decl.Function f) = decl.Function (bare_function f)
bare_decl (decl.Comp f) = decl.Comp (bare_comp_function f)

-- a program
abbrev pub bare : Prog → Prog
bare p = record { declarations = map bare_decl p.declarations; input = bare_type p.input; main = bare_comp p.main; output = bare_type p.output; at = nowhere }
