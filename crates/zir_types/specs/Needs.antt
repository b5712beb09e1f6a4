-- How many cells the parts of a program need at once, counted up to one more than a program may need.
use Rattle.std.specs.Prelude.{ℕ, suc, ◌+◌, min, max, List, [], ◌∷◌, Option, Some, None, nat_eq, if◌then◌else◌}
use Rattle.zir_tree.specs.declared.types.Ty.{Ty}
use Rattle.zir_tree.specs.declared.expr.Callee.{Callee}
use Rattle.zir_tree.specs.declared.expr.Callee.TheVariants.{Function as FunctionCallee, Struct as StructCallee}
use Rattle.zir_tree.specs.declared.expr.Expr.{Expr, Unit, Bit, Bool as BoolLiteral, Int, Variable, Unary', Binary', Index', Slice', Part', Call'}
use Rattle.zir_tree.specs.declared.expr.Expr.{Array', Convert', Complex', Row_of-Expr, end_of-Expr, more_of-Expr}
use Rattle.zir_tree.specs.declared.stmt.Var.{Var}
use Rattle.zir_tree.specs.declared.stmt.Access.{Access}
use Rattle.zir_tree.specs.declared.stmt.Access.TheVariants.{Index as IndexStep, Slice as SliceStep, Part as PartStep}
use Rattle.zir_tree.specs.declared.stmt.Stmt.{Stmt, Var as VarStmt, Assign, Call as CallStmt, Error, If', IfElse', While', For', Row_of-Stmt}
use Rattle.zir_tree.specs.declared.stmt.Stmt.{end_of-Stmt, more_of-Stmt}
use Rattle.zir_tree.specs.declared.stmt.Return.{Return}
use Rattle.zir_tree.specs.declared.stmt.Body.{Body}
use Rattle.zir_tree.specs.declared.comp.Comp.{Comp, Take, Takes, Emit, Emits, Return as ReturnComp, Do, Repeat', While' as WhileComp', Times'}
use Rattle.zir_tree.specs.declared.comp.Comp.{For' as ForComp', If' as IfComp', Map, Filter, Call as CallComp, Block', Pipe', end_of-Comp}
use Rattle.zir_tree.specs.declared.comp.Comp.{more_of-Comp, Row_of-Member, end_of-Member, more_of-Member}
use Rattle.zir_tree.specs.declared.comp.Member.{Bind, Var as VarMember, Run}
use Rattle.zir_tree.specs.declared.types.Field.{Field}
use Rattle.zir_tree.specs.declared.program.Function.{Function}
use Rattle.zir_tree.specs.declared.program.Instance.{Instance}
use Rattle.zir_tree.specs.declared.program.Core.{Core}
use Rattle.zir_types.specs.declared.scope.Shape.{Shape}
use Rattle.zir_types.specs.Scope.{Visible, declare, variable, cells_in}
use Rattle.zir_types.specs.Statements.{with_index}
use Rattle.zir_types.specs.Components.{link_type}
use Rattle.zir_types.specs.Known.{ty_of, or_unit, seen_fields, seen_in, kind_of}

-- Need is counted up to one more than a program may have.
abbrev pub counted : ℕ → ℕ
counted n = min n 1048577

-- The needs of the calls that a part may make: of a function with its arguments, and of an instance, each by its place.
pub record Needs : Type 0 where
  pub by_function : ℕ → ℕ
  pub by_instance : ℕ → ℕ

-- What a call of a function or a struct needs besides its arguments' evaluation.
abbrev pub call_need : Needs → Callee → ℕ
call_need n (FunctionCallee k) = n.by_function k
call_need n (StructCallee k) = 0

abbrev mutual
  -- The need of an expression: the greatest of its parts, and of a call what the call needs.
  pub expr_need : Needs → Expr → ℕ
  expr_need n (Unit p) = 0
  expr_need n (Bit b p) = 0
  expr_need n (BoolLiteral b p) = 0
  expr_need n (Int k b p) = 0
  expr_need n (Variable x) = 0
  expr_need n (Unary' o b _ (more_of-Expr e end_of-Expr) p) = expr_need n e
  expr_need n (Binary' o k _ (more_of-Expr a end_of-Expr) _ (more_of-Expr b end_of-Expr) p) = max (expr_need n a) (expr_need n b)
  expr_need n (Index' _ (more_of-Expr a end_of-Expr) _ (more_of-Expr i end_of-Expr) p) = max (expr_need n a) (expr_need n i)
  expr_need n (Slice' _ (more_of-Expr a end_of-Expr) _ (more_of-Expr i end_of-Expr) k p) = max (expr_need n a) (expr_need n i)
  expr_need n (Part' _ (more_of-Expr a end_of-Expr) x k p) = expr_need n a
  expr_need n (Call' f c _ es) = counted (row_need n es + call_need n c)
  expr_need n (Array' _ es p) = row_need n es
  expr_need n (Convert' b _ (more_of-Expr e end_of-Expr) p) = expr_need n e
  expr_need n (Complex' b _ (more_of-Expr x end_of-Expr) _ (more_of-Expr y end_of-Expr) p) = max (expr_need n x) (expr_need n y)

  -- The greatest need of the expressions in a row.
  pub row_need : {m : _} → Needs → Row_of-Expr m → ℕ
  row_need n end_of-Expr = 0
  row_need n (more_of-Expr e es) = max (expr_need n e) (row_need n es)

-- The greatest need of some expressions.
abbrev pub exprs_need : Needs → List Expr → ℕ
exprs_need n [] = 0
exprs_need n (e ∷ es) = max (expr_need n e) (exprs_need n es)

-- The need of an initial value.
abbrev pub initial_need : Needs → Option Expr → ℕ
initial_need n None = 0
initial_need n (Some e) = expr_need n e

-- The greatest need of the indexes of a path.
abbrev pub path_need : Needs → List Access → ℕ
path_need n [] = 0
path_need n (IndexStep e p ∷ steps) = max (expr_need n e) (path_need n steps)
path_need n (SliceStep e k p ∷ steps) = max (expr_need n e) (path_need n steps)
path_need n (PartStep x k p ∷ steps) = path_need n steps

-- The cells of a declared variable.
abbrev pub var_cells : List Shape → Var → ℕ
var_cells ss v = cells_in ss (ty_of v.ty)

-- The cells that a statement keeps for those behind it: those of a `var`.
abbrev pub kept_cells : List Shape → Stmt → ℕ
kept_cells ss (VarStmt v) = var_cells ss v
kept_cells ss (Assign x steps e) = 0
kept_cells ss (CallStmt f k es) = 0
kept_cells ss (Error text p) = 0
kept_cells ss (If' e _ us p) = 0
kept_cells ss (IfElse' e _ us _ vs p) = 0
kept_cells ss (While' e _ us p) = 0
kept_cells ss (For' x a n _ us p) = 0

-- The `var`s of a list, and the greatest need of a part of it.
pub record Sums : Type 0 where
  pub cells : ℕ
  pub most : ℕ

-- The need of a list: the cells of its `var`s and the greatest need of a part.
abbrev pub sums_need : Sums → ℕ
sums_need s = counted (s.cells + s.most)

-- One more part of a list.
abbrev pub with_part : ℕ → ℕ → Sums → Sums
with_part cells need s = record { cells = counted (cells + s.cells); most = max need s.most }

abbrev mutual
  -- The greatest need of a part of a statement; a `for` keeps its index besides.
  pub stmt_need : List Shape → Needs → Stmt → ℕ
  stmt_need ss n (VarStmt v) = initial_need n v.initial
  stmt_need ss n (Assign x steps e) = max (path_need n steps) (expr_need n e)
  stmt_need ss n (CallStmt f k es) = counted (exprs_need n es + n.by_function k)
  stmt_need ss n (Error text p) = 0
  stmt_need ss n (If' e _ us p) = max (expr_need n e) (sums_need (stmts_sums ss n us))
  stmt_need ss n (IfElse' e _ us _ vs p) = max (expr_need n e) (max (sums_need (stmts_sums ss n us)) (sums_need (stmts_sums ss n vs)))
  stmt_need ss n (While' e _ us p) = max (expr_need n e) (sums_need (stmts_sums ss n us))
  stmt_need ss n (For' x a e _ us p) = counted (1 + max (expr_need n a) (max (expr_need n e) (sums_need (stmts_sums ss n us))))

  -- The sums of statements in a row.
  pub stmts_sums : {m : _} → List Shape → Needs → Row_of-Stmt m → Sums
  stmts_sums ss n end_of-Stmt = record { cells = 0; most = 0 }
  stmts_sums ss n (more_of-Stmt s us) = with_part (kept_cells ss s) (stmt_need ss n s) (stmts_sums ss n us)

-- The need of what a body returns.
abbrev pub return_need : Needs → Option Return → ℕ
return_need n None = 0
return_need n (Some r) = expr_need n r.value

-- The sums of a body's statements and of what it returns.
abbrev pub list_sums : List Shape → Needs → List Stmt → Option Return → Sums
list_sums ss n [] r = record { cells = 0; most = return_need n r }
list_sums ss n (s ∷ us) r = with_part (kept_cells ss s) (stmt_need ss n s) (list_sums ss n us r)

-- The need of a body.
abbrev pub body_need : List Shape → Needs → Body → ℕ
body_need ss n b = sums_need (list_sums ss n b.statements b.result)

abbrev mutual
  -- The need of a component at its input type, over the instances.
  pub comp_need : List Instance → Needs → Visible → Ty → Comp → ℕ
  comp_need is n g a (Take p) = 1
  comp_need is n g a (Takes k p) = 1
  comp_need is n g a (Emit e p) = counted (1 + expr_need n e)
  comp_need is n g a (Emits e p) = counted (1 + expr_need n e)
  comp_need is n g a (ReturnComp e p) = counted (1 + expr_need n e)
  comp_need is n g a (Do b p) = counted (1 + body_need g.shapes n b)
  comp_need is n g a (Repeat' _ (more_of-Comp c end_of-Comp) p) = counted (comp_need is n g a c + 3)
  comp_need is n g a (WhileComp' turning e _ (more_of-Comp c end_of-Comp) p) = counted (comp_need is n g a c + 3)
  comp_need is n g a (Times' e _ (more_of-Comp c end_of-Comp) p) = counted (comp_need is n g a c + 3)
  comp_need is n g a (ForComp' x e f _ (more_of-Comp c end_of-Comp) p) = counted (comp_need is n (with_index x g) a c + 3)
  comp_need is n g a (IfComp' e _ (more_of-Comp c end_of-Comp) _ (more_of-Comp d end_of-Comp) p) =
      max (expr_need n e) (max (comp_need is n g a c) (comp_need is n g a d))
  comp_need is n g a (Map f k p) = counted (1 + n.by_function k)
  comp_need is n g a (Filter f k p) = counted (1 + n.by_function k)
  comp_need is n g a (CallComp f k es) = n.by_instance k
  comp_need is n g a (Block' _ ms p) = sums_need (members_sums is n g a ms)
  comp_need is n g a (Pipe' link _ (more_of-Comp c end_of-Comp) _ (more_of-Comp d end_of-Comp) p) =
      let k = kind_of is g a c in counted (comp_need is n g a c + comp_need is n g (link_type k.emits) d + 2)

  -- The cells of the names of members, and the greatest need of one.
  pub members_sums : {m : _} → List Instance → Needs → Visible → Ty → Row_of-Member m → Sums
  members_sums is n g a end_of-Member = record { cells = 0; most = 0 }
  members_sums is n g a (more_of-Member (Bind x c) ms) =
      let t = or_unit (kind_of is g a c).value in
      with_part (cells_in g.shapes t) (comp_need is n g a c) (members_sums is n (declare (variable x.id t ∷ []) g) a ms)
  members_sums is n g a (more_of-Member (VarMember v) ms) =
      with_part (var_cells g.shapes v) (initial_need n v.initial) (members_sums is n (declare (seen_in v) g) a ms)
  members_sums is n g a (more_of-Member (Run c) ms) = with_part 0 (comp_need is n g a c) (members_sums is n g a ms)

-- The cells of parameters.
abbrev pub fields_cells : List Shape → List Field → ℕ
fields_cells ss [] = 0
fields_cells ss (f ∷ fs) = counted (cells_in ss (ty_of f.ty) + fields_cells ss fs)

-- A call with these parameters of a body of this need: the arguments' cells, 1, and the body's need.
abbrev pub with_call : List Shape → List Field → ℕ → ℕ
with_call ss fs need = counted (fields_cells ss fs + 1 + need)

-- One more at a place.
abbrev pub placed : (ℕ → ℕ) → ℕ → ℕ → ℕ → ℕ
placed f place need k = if nat_eq k place then need else f k

-- The needs of calls of functions, each over those before it, from some place on.
abbrev pub function_needs : List Shape → (ℕ → ℕ) → ℕ → List Function → ℕ → ℕ
function_needs ss before place [] = before
function_needs ss before place (f ∷ fs) =
    let need = with_call ss f.params (body_need ss (record { by_function = before; by_instance = λ k. 0 }) f.body) in
    function_needs ss (placed before place need) (suc place) fs

-- The needs of calls of instances, each over those before it, from some place on.
abbrev pub instance_needs : List Instance → Visible → Needs → ℕ → List Instance → Needs
instance_needs all g before place [] = before
instance_needs all g before place (i ∷ is) =
    let need = with_call g.shapes i.params (comp_need all before (declare (seen_fields i.params) g) i.input i.body) in
    instance_needs all g (record { by_function = before.by_function; by_instance = placed before.by_instance place need }) (suc place) is

-- The needs of all calls of a core.
abbrev pub needs_of : Core → Visible → Needs
needs_of core g = instance_needs core.instances g (record {
  by_function = function_needs g.shapes (λ k. 0) 0 core.functions;
  by_instance = λ k. 0;
}) 0 core.instances

-- The cells of variables.
abbrev pub vars_cells : List Shape → List Var → ℕ
vars_cells ss [] = 0
vars_cells ss (v ∷ vs) = counted (var_cells ss v + vars_cells ss vs)

-- The need of a program: that of main, and the cells of the top variables.
abbrev pub program_need : Core → Visible → ℕ
program_need core g = counted (comp_need core.instances (needs_of core g) g core.input core.main + vars_cells g.shapes core.variables)
