-- What parts of a resolved program read, assign and declare.
use Rattle.std.specs.Prelude.{ℕ, List, [], ◌∷◌, Option, Some, None, nat_eq, if◌then◌else◌}
use Rattle.zir_tree.specs.declared.ident.Ident.{Ident}
use Rattle.zir_tree.specs.declared.expr.Expr.{Expr, Unit, Bit, Bool as Truth, Int, Variable, Unary', Binary', Index', Slice', Part', Call', Array'}
use Rattle.zir_tree.specs.declared.expr.Expr.{Convert', Complex', Row_of-Expr, end_of-Expr, more_of-Expr}
use Rattle.zir_tree.specs.declared.stmt.Var.{Var}
use Rattle.zir_tree.specs.declared.stmt.Access.{Access}
use Rattle.zir_tree.specs.declared.stmt.Access.TheVariants as access
use Rattle.zir_tree.specs.declared.stmt.Return.{Return}
use Rattle.zir_tree.specs.declared.stmt.Body.{Body}
use Rattle.zir_tree.specs.declared.stmt.Stmt.{Stmt, Row_of-Stmt, end_of-Stmt, more_of-Stmt}
use Rattle.zir_tree.specs.declared.stmt.Stmt as stmt
use Rattle.zir_tree.specs.declared.comp.Comp.{Comp, Row_of-Comp, end_of-Comp, more_of-Comp, Row_of-Member, end_of-Member, more_of-Member}
use Rattle.zir_tree.specs.declared.comp.Comp as comp
use Rattle.zir_tree.specs.declared.comp.Member.{Member}
use Rattle.zir_tree.specs.declared.comp.Member as member
use Rattle.zir_tree.specs.declared.program.Decl.{Decl}
use Rattle.zir_tree.specs.declared.program.Decl.TheVariants as decl
use Rattle.zir_names.specs.declared.program.Named.{Named}
use Rattle.zir_names.specs.Numbers.{union, add, kept}

-- What a part reads or assigns, what it assigns, and the variables that it declares.
pub record Touched : Type 0 where
  pub used : List ℕ
  pub assigned : List ℕ
  pub declared : List ℕ

-- A part that touches nothing.
abbrev pub untouched : Touched
untouched = record { used = []; assigned = []; declared = [] }

-- Two parts together.
abbrev pub both : Touched → Touched → Touched
both a b = record { used = union a.used b.used; assigned = union a.assigned b.assigned; declared = union a.declared b.declared }

-- A name that is read.
abbrev pub reads : Ident → Touched
reads x = record { used = x.id ∷ []; assigned = []; declared = [] }

-- A variable that is assigned.
abbrev pub assigns_to : Ident → Touched
assigns_to x = record { used = x.id ∷ []; assigned = x.id ∷ []; declared = [] }

-- A variable that is declared.
abbrev pub declares : Ident → Touched
declares x = record { used = []; assigned = []; declared = x.id ∷ [] }

-- Functions by their numbers, each with what a call of it touches.
pub record Called : Type 0 where
  pub id : ℕ
  pub touched : Touched

-- What a call touches; a struct is made without touching anything.
abbrev pub call_of : List Called → ℕ → Touched
call_of [] id = untouched
call_of (f ∷ fs) id = if nat_eq f.id id then f.touched else call_of fs id

-- Parts of a list together.
abbrev pub all_of : {A : Type 0} → (A → Touched) → List A → Touched
all_of touch [] = untouched
all_of touch (x ∷ xs) = both (touch x) (all_of touch xs)

-- A part that may be there.
abbrev pub maybe_of : {A : Type 0} → (A → Touched) → Option A → Touched
maybe_of touch None = untouched
maybe_of touch (Some x) = touch x

abbrev mutual
  -- What an expression touches, itself and in the functions that it calls.
  pub in_expr : List Called → Expr → Touched
  in_expr fs (Unit at) = untouched
  in_expr fs (Bit bit at) = untouched
  in_expr fs (Truth truth at) = untouched
  in_expr fs (Int n base at) = untouched
  in_expr fs (Variable x) = reads x
  in_expr fs (Unary' op base _ (more_of-Expr e end_of-Expr) at) = in_expr fs e
  in_expr fs (Binary' op base _ (more_of-Expr a end_of-Expr) _ (more_of-Expr b end_of-Expr) at) = both (in_expr fs a) (in_expr fs b)
  in_expr fs (Index' _ (more_of-Expr a end_of-Expr) _ (more_of-Expr i end_of-Expr) at) = both (in_expr fs a) (in_expr fs i)
  in_expr fs (Slice' _ (more_of-Expr a end_of-Expr) _ (more_of-Expr i end_of-Expr) n at) = both (in_expr fs a) (in_expr fs i)
  in_expr fs (Part' _ (more_of-Expr e end_of-Expr) name n at) = in_expr fs e
  in_expr fs (Call' f callee _ es) = both (call_of fs f.id) (in_exprs fs es)
  in_expr fs (Array' _ es at) = in_exprs fs es
  in_expr fs (Convert' base _ (more_of-Expr e end_of-Expr) at) = in_expr fs e
  in_expr fs (Complex' base _ (more_of-Expr a end_of-Expr) _ (more_of-Expr b end_of-Expr) at) = both (in_expr fs a) (in_expr fs b)

  -- What expressions touch.
  pub in_exprs : List Called → {m : _} → Row_of-Expr m → Touched
  in_exprs fs end_of-Expr = untouched
  in_exprs fs (more_of-Expr e es) = both (in_expr fs e) (in_exprs fs es)

-- What the declaration of a variable touches.
abbrev pub in_var : List Called → Var → Touched
in_var fs v = both (declares v.name) (maybe_of (in_expr fs) v.initial)

-- What a step of a path touches.
abbrev pub in_access : List Called → Access → Touched
in_access fs (access.Index i at) = in_expr fs i
in_access fs (access.Slice i n at) = in_expr fs i
in_access fs (access.Part name n at) = untouched

abbrev mutual
  -- What a statement touches.
  pub in_stmt : List Called → Stmt → Touched
  in_stmt fs (stmt.Var v) = in_var fs v
  in_stmt fs (stmt.Assign x path e) = both (assigns_to x) (both (all_of (in_access fs) path) (in_expr fs e))
  in_stmt fs (stmt.Call f n es) = both (call_of fs f.id) (all_of (in_expr fs) es)
  in_stmt fs (stmt.Error text at) = untouched
  in_stmt fs (stmt.If' e _ ss at) = both (in_expr fs e) (in_stmts fs ss)
  in_stmt fs (stmt.IfElse' e _ ss _ ts at) = both (in_expr fs e) (both (in_stmts fs ss) (in_stmts fs ts))
  in_stmt fs (stmt.While' e _ ss at) = both (in_expr fs e) (in_stmts fs ss)
  in_stmt fs (stmt.For' x a n _ ss at) = both (in_expr fs a) (both (in_expr fs n) (in_stmts fs ss))

  -- What statements touch.
  pub in_stmts : List Called → {m : _} → Row_of-Stmt m → Touched
  in_stmts fs end_of-Stmt = untouched
  in_stmts fs (more_of-Stmt s ss) = both (in_stmt fs s) (in_stmts fs ss)

-- What a `return` touches.
abbrev pub in_return : List Called → Return → Touched
in_return fs r = in_expr fs r.value

-- What a body touches.
abbrev pub in_body : List Called → Body → Touched
in_body fs b = both (all_of (in_stmt fs) b.statements) (maybe_of (in_return fs) b.result)

abbrev mutual
  -- What a component touches, itself and in the functions and `fun comp`s that it calls.
  pub in_comp : List Called → Comp → Touched
  in_comp fs (comp.Take at) = untouched
  in_comp fs (comp.Takes n at) = untouched
  in_comp fs (comp.Emit e at) = in_expr fs e
  in_comp fs (comp.Emits e at) = in_expr fs e
  in_comp fs (comp.Return e at) = in_expr fs e
  in_comp fs (comp.Do b at) = in_body fs b
  in_comp fs (comp.Repeat' _ (more_of-Comp c end_of-Comp) at) = in_comp fs c
  in_comp fs (comp.While' turning e _ (more_of-Comp c end_of-Comp) at) = both (in_expr fs e) (in_comp fs c)
  in_comp fs (comp.Times' e _ (more_of-Comp c end_of-Comp) at) = both (in_expr fs e) (in_comp fs c)
  in_comp fs (comp.For' x a n _ (more_of-Comp c end_of-Comp) at) = both (in_expr fs a) (both (in_expr fs n) (in_comp fs c))
  in_comp fs (comp.If' e _ (more_of-Comp c end_of-Comp) _ (more_of-Comp d end_of-Comp) at) = both (in_expr fs e) (both (in_comp fs c) (in_comp fs d))
  in_comp fs (comp.Map f n at) = call_of fs f.id
  in_comp fs (comp.Filter f n at) = call_of fs f.id
  in_comp fs (comp.Call f n es) = both (call_of fs f.id) (all_of (in_expr fs) es)
  in_comp fs (comp.Block' _ ms at) = in_members fs ms
  in_comp fs (comp.Pipe' link _ (more_of-Comp c end_of-Comp) _ (more_of-Comp d end_of-Comp) at) = both (in_comp fs c) (in_comp fs d)

  -- What members touch.
  pub in_members : List Called → {m : _} → Row_of-Member m → Touched
  in_members fs end_of-Member = untouched
  in_members fs (more_of-Member (member.Bind x c) ms) = both (in_comp fs c) (in_members fs ms)
  in_members fs (more_of-Member (member.Var v) ms) = both (in_var fs v) (in_members fs ms)
  in_members fs (more_of-Member (member.Run c) ms) = both (in_comp fs c) (in_members fs ms)

-- The variables that are declared at the top.
abbrev pub tops : List Decl → List ℕ
tops [] = []
tops (decl.Var v ∷ ds) = add v.name.id (tops ds)
tops (decl.Struct s ∷ ds) = tops ds
tops (decl.Function f ∷ ds) = tops ds
tops (decl.Comp f ∷ ds) = tops ds

-- What a call touches of a body: the variables at the top alone, since its own are declared inside what calls it.
abbrev pub seen_outside : List ℕ → Touched → Touched
seen_outside top t = record { used = kept top t.used; assigned = kept top t.assigned; declared = [] }

-- The functions of declarations, where those before them are known. A body calls only functions before it.
abbrev pub functions_from : List ℕ → List Called → List Decl → List Called
functions_from top fs [] = fs
functions_from top fs (decl.Var v ∷ ds) = functions_from top fs ds
functions_from top fs (decl.Struct s ∷ ds) = functions_from top fs ds
functions_from top fs (decl.Function f ∷ ds) =
    functions_from top (record { id = f.name.id; touched = seen_outside top (in_body fs f.body) } ∷ fs) ds
functions_from top fs (decl.Comp f ∷ ds) =
    functions_from top (record { id = f.name.id; touched = seen_outside top (in_comp fs f.body) } ∷ fs) ds

-- The functions of a program, each with what a call of it touches.
abbrev pub functions : Named → List Called
functions n = functions_from (tops n.program.declarations) [] n.program.declarations

-- What a declaration declares, with all that stands in it.
abbrev pub in_decl : Decl → Touched
in_decl (decl.Var v) = in_var [] v
in_decl (decl.Struct s) = untouched
in_decl (decl.Function f) = in_body [] f.body
in_decl (decl.Comp f) = in_comp [] f.body

-- All variables of a program.
abbrev pub variables : Named → List ℕ
variables n = union (all_of in_decl n.program.declarations).declared (in_comp [] n.program.main).declared

-- The variables that a component uses: those that it reads or assigns, itself or through calls.
abbrev pub uses : Named → Comp → List ℕ
uses n c = kept (variables n) (in_comp (functions n) c).used

-- The variables that a component assigns, itself or through calls.
abbrev pub assigns : Named → Comp → List ℕ
assigns n c = (in_comp (functions n) c).assigned
