-- What the limits look at, in the order of the trees: lengths, cells of types, elements, calls and splits, each at its place.
use Rattle.std.specs.Prelude.{ℕ, suc, List, [], ◌∷◌, ◌++◌, map, Option, Some, None, slice_get}
use Rattle.zir_tree.specs.declared.place.Place.{Place}
use Rattle.zir_tree.specs.declared.types.Ty.{Ty}
use Rattle.zir_tree.specs.declared.types.Dimension.{Dimension}
use Rattle.zir_tree.specs.declared.types.TypeExpr.{TypeExpr}
use Rattle.zir_tree.specs.declared.expr.Callee.{Callee}
use Rattle.zir_tree.specs.declared.expr.Callee.TheVariants.{Function as FunctionCallee, Struct as StructCallee}
use Rattle.zir_tree.specs.declared.expr.Expr.{Expr, Unit, Bit, Bool as BoolLiteral, Int, Variable, Unary', Binary', Index', Slice', Part', Call'}
use Rattle.zir_tree.specs.declared.expr.Expr.{Array', Convert', Complex', Row_of-Expr, end_of-Expr, more_of-Expr}
use Rattle.zir_tree.specs.declared.stmt.Var.{Var}
use Rattle.zir_tree.specs.declared.stmt.Access.{Access}
use Rattle.zir_tree.specs.declared.stmt.Access.TheVariants.{Index as IndexStep, Slice as SliceStep, Part as PartStep}
use Rattle.zir_tree.specs.declared.stmt.Stmt.{Stmt, Var as VarStmt, Assign, Call as CallStmt, Error, If', IfElse', While', For', Row_of-Stmt}
use Rattle.zir_tree.specs.declared.stmt.Stmt.{end_of-Stmt, more_of-Stmt}
use Rattle.zir_tree.specs.declared.stmt.Return.{Return}
use Rattle.zir_tree.specs.declared.stmt.Body.{Body}
use Rattle.zir_tree.specs.declared.comp.Link.{Link}
use Rattle.zir_tree.specs.declared.comp.Link.TheVariants.{Serial, Parallel}
use Rattle.zir_tree.specs.declared.comp.Comp.{Comp, Take, Takes, Emit, Emits, Return as ReturnComp, Do, Repeat', While' as WhileComp', Times'}
use Rattle.zir_tree.specs.declared.comp.Comp.{For' as ForComp', If' as IfComp', Map, Filter, Call as CallComp, Block', Pipe', end_of-Comp}
use Rattle.zir_tree.specs.declared.comp.Comp.{more_of-Comp, Row_of-Member, end_of-Member, more_of-Member}
use Rattle.zir_tree.specs.declared.comp.Member.{Bind, Var as VarMember, Run}
use Rattle.zir_tree.specs.declared.program.Instance.{Instance}
use Rattle.zir_types.specs.declared.scope.Seen.{Seen}
use Rattle.zir_types.specs.Kinds.{arr}
use Rattle.zir_types.specs.Scope.{Visible, declare, variable, cells_in}
use Rattle.zir_types.specs.Statements.{with_index}
use Rattle.zir_types.specs.Components.{link_type}
use Rattle.zir_types.specs.Typing.{row_length}
use Rattle.zir_types.specs.Known.{ty_of, or_unit, seen_in, seen_stmts, type_of, head_type, element_of, kind_of, function_result}

-- What a call leads to: a function or an instance, by its place.
pub data Target : Type 0 where
  ToFunction : (k : ℕ) → Target
  ToInstance : (k : ℕ) → Target

-- One thing that a limit looks at: a length, the cells of a type, the cells of an element that a component emits, a call, or the so-manieth `|>>>|` of a chain.
pub data Measure : Type 0 where
  Spans : (n : ℕ) (p : Place) → Measure
  Holds : (n : ℕ) (p : Place) → Measure
  Sends : (n : ℕ) (p : Place) → Measure
  Calls : (t : Target) (p : Place) → Measure
  Splits : (n : ℕ) (p : Place) → Measure

-- The lengths of written arrays.
abbrev pub spans : List Dimension → List Measure
spans ds = map (λ d. Spans d.length d.at) ds

-- A written type: its lengths, and its cells.
abbrev pub in_type : Visible → TypeExpr → List Measure
in_type g t = Holds (cells_in g.shapes (ty_of t)) t.at ∷ spans t.dimensions

-- A call of a function; a call of a struct is none.
abbrev pub in_callee : Callee → Place → List Measure
in_callee (FunctionCallee k) p = Calls (ToFunction k) p ∷ []
in_callee (StructCallee k) p = []

abbrev mutual
  -- An expression.
  pub in_expr : Visible → Expr → List Measure
  in_expr g (Unit p) = []
  in_expr g (Bit b p) = []
  in_expr g (BoolLiteral b p) = []
  in_expr g (Int n b p) = []
  in_expr g (Variable x) = []
  in_expr g (Unary' o b _ (more_of-Expr e end_of-Expr) p) = in_expr g e
  in_expr g (Binary' o k _ (more_of-Expr a end_of-Expr) _ (more_of-Expr b end_of-Expr) p) = in_expr g a ++ in_expr g b
  in_expr g (Index' _ (more_of-Expr a end_of-Expr) _ (more_of-Expr i end_of-Expr) p) = in_expr g a ++ in_expr g i
  in_expr g (Slice' _ (more_of-Expr a end_of-Expr) _ (more_of-Expr i end_of-Expr) k p) = Spans k p ∷ in_expr g a ++ in_expr g i
  in_expr g (Part' _ (more_of-Expr a end_of-Expr) x k p) = in_expr g a
  in_expr g (Call' f c _ es) = in_callee c f.at ++ in_row g es
  in_expr g (Array' _ es p) = Spans (row_length es) p ∷ Holds (cells_in g.shapes (arr (row_length es) (head_type g es))) p ∷ in_row g es
  in_expr g (Convert' b _ (more_of-Expr e end_of-Expr) p) = in_expr g e
  in_expr g (Complex' b _ (more_of-Expr x end_of-Expr) _ (more_of-Expr y end_of-Expr) p) = in_expr g x ++ in_expr g y

  -- The expressions in a row.
  pub in_row : {m : _} → Visible → Row_of-Expr m → List Measure
  in_row g end_of-Expr = []
  in_row g (more_of-Expr e es) = in_expr g e ++ in_row g es

-- A list of expressions.
abbrev pub in_exprs : Visible → List Expr → List Measure
in_exprs g [] = []
in_exprs g (e ∷ es) = in_expr g e ++ in_exprs g es

-- An initial value.
abbrev pub in_initial : Visible → Option Expr → List Measure
in_initial g None = []
in_initial g (Some e) = in_expr g e

-- The declaration of a variable.
abbrev pub in_var : Visible → Var → List Measure
in_var g v = in_type g v.ty ++ in_initial g v.initial

-- The path of an assignment.
abbrev pub in_path : Visible → List Access → List Measure
in_path g [] = []
in_path g (IndexStep e p ∷ steps) = in_expr g e ++ in_path g steps
in_path g (SliceStep e k p ∷ steps) = Spans k p ∷ in_expr g e ++ in_path g steps
in_path g (PartStep x k p ∷ steps) = in_path g steps

-- What a statement brings into scope.
abbrev pub seen_stmt : Stmt → List Seen
seen_stmt s = seen_stmts (s ∷ [])

abbrev mutual
  -- A statement.
  pub in_stmt : Visible → Stmt → List Measure
  in_stmt g (VarStmt v) = in_var g v
  in_stmt g (Assign x steps e) = in_path g steps ++ in_expr g e
  in_stmt g (CallStmt f k es) = Calls (ToFunction k) f.at ∷ in_exprs g es
  in_stmt g (Error text p) = []
  in_stmt g (If' e _ ss p) = in_expr g e ++ in_stmts g ss
  in_stmt g (IfElse' e _ ss _ us p) = in_expr g e ++ in_stmts g ss ++ in_stmts g us
  in_stmt g (While' e _ ss p) = in_expr g e ++ in_stmts g ss
  in_stmt g (For' x a n _ ss p) = in_expr g a ++ in_expr g n ++ in_stmts (with_index x g) ss

  -- Statements in a row.
  pub in_stmts : {m : _} → Visible → Row_of-Stmt m → List Measure
  in_stmts g end_of-Stmt = []
  in_stmts g (more_of-Stmt s ss) = in_stmt g s ++ in_stmts (declare (seen_stmt s) g) ss

-- The statements of a body from some place on, and what it returns.
abbrev pub in_list : Visible → List Stmt → Option Return → List Measure
in_list g [] None = []
in_list g [] (Some r) = in_expr g r.value
in_list g (s ∷ ss) r = in_stmt g s ++ in_list (declare (seen_stmt s) g) ss r

-- A body.
abbrev pub in_body : Visible → Body → List Measure
in_body g b = in_list g b.statements b.result

-- How many `|>>>|` a chain has.
abbrev pub links : Comp → ℕ
links (Take p) = 0
links (Takes k p) = 0
links (Emit e p) = 0
links (Emits e p) = 0
links (ReturnComp e p) = 0
links (Do b p) = 0
links (Repeat' _ c p) = 0
links (WhileComp' turning e _ c p) = 0
links (Times' e _ c p) = 0
links (ForComp' x e f _ c p) = 0
links (IfComp' e _ c _ d p) = 0
links (Map f k p) = 0
links (Filter f k p) = 0
links (CallComp f k es) = 0
links (Block' _ ms p) = 0
links (Pipe' Serial _ c _ d p) = 0
links (Pipe' Parallel _ (more_of-Comp c end_of-Comp) _ d p) = suc (links c)

-- A link of a chain, by its number from the left.
abbrev pub in_link : Link → ℕ → Place → List Measure
in_link Serial n p = []
in_link Parallel n p = Splits (suc n) p ∷ []

-- An element that is emitted.
abbrev pub sends : Visible → Ty → Place → List Measure
sends g t p = Sends (cells_in g.shapes t) p ∷ []

abbrev mutual
  -- A component at its input type, over the instances.
  pub in_comp : List Instance → Visible → Ty → Comp → List Measure
  in_comp is g a (Take p) = []
  in_comp is g a (Takes k p) = Spans k p ∷ Holds (cells_in g.shapes (arr k a)) p ∷ []
  in_comp is g a (Emit e p) = in_expr g e ++ sends g (type_of g e) p
  in_comp is g a (Emits e p) = in_expr g e ++ sends g (element_of (type_of g e)) p
  in_comp is g a (ReturnComp e p) = in_expr g e
  in_comp is g a (Do b p) = in_body g b
  in_comp is g a (Repeat' _ (more_of-Comp c end_of-Comp) p) = in_comp is g a c
  in_comp is g a (WhileComp' turning e _ (more_of-Comp c end_of-Comp) p) = in_expr g e ++ in_comp is g a c
  in_comp is g a (Times' e _ (more_of-Comp c end_of-Comp) p) = in_expr g e ++ in_comp is g a c
  in_comp is g a (ForComp' x e f _ (more_of-Comp c end_of-Comp) p) = in_expr g e ++ in_expr g f ++ in_comp is (with_index x g) a c
  in_comp is g a (IfComp' e _ (more_of-Comp c end_of-Comp) _ (more_of-Comp d end_of-Comp) p) = in_expr g e ++ in_comp is g a c ++ in_comp is g a d
  in_comp is g a (Map f k p) = Calls (ToFunction k) p ∷ sends g (function_result (slice_get g.functions k)) p
  in_comp is g a (Filter f k p) = Calls (ToFunction k) p ∷ sends g a p
  in_comp is g a (CallComp f k es) = Calls (ToInstance k) f.at ∷ in_exprs g es
  in_comp is g a (Block' _ ms p) = in_members is g a ms
  in_comp is g a (Pipe' link _ (more_of-Comp c end_of-Comp) _ (more_of-Comp d end_of-Comp) p) =
      let k = kind_of is g a c in in_link link (links c) p ++ in_comp is g a c ++ in_comp is g (link_type k.emits) d

  -- Members in a row.
  pub in_members : {m : _} → List Instance → Visible → Ty → Row_of-Member m → List Measure
  in_members is g a end_of-Member = []
  in_members is g a (more_of-Member (Bind x c) ms) =
      let k = kind_of is g a c in in_comp is g a c ++ in_members is (declare (variable x.id (or_unit k.value) ∷ []) g) a ms
  in_members is g a (more_of-Member (VarMember v) ms) = in_var g v ++ in_members is (declare (seen_in v) g) a ms
  in_members is g a (more_of-Member (Run c) ms) = in_comp is g a c ++ in_members is g a ms
