-- What a well formed core is: facts of its trees that the rules of types do not state.
use Rattle.std.specs.Prelude.{◌≡◌, ◌≤◌, ℕ, List, [], ◌∷◌, false, Option, Some, None, length}
use Rattle.zir_tree.specs.declared.types.Ty.{Ty}
use Rattle.zir_tree.specs.declared.types.TypeExpr.{TypeExpr}
use Rattle.zir_tree.specs.declared.types.Field.{Field}
use Rattle.zir_tree.specs.declared.expr.Expr.{Expr, Unit as UnitLiteral, Bit, Bool as BoolLiteral, Int, Variable, Unary', Binary', Index', Slice'}
use Rattle.zir_tree.specs.declared.expr.Expr.{Part', Call', Array', Convert', Complex', Row_of-Expr, end_of-Expr, more_of-Expr}
use Rattle.zir_tree.specs.declared.stmt.Var.{Var}
use Rattle.zir_tree.specs.declared.stmt.Access.{Access}
use Rattle.zir_tree.specs.declared.stmt.Access.TheVariants.{Index, Slice, Part}
use Rattle.zir_tree.specs.declared.stmt.Stmt.{Stmt, Var as VarStmt, Assign, Call as CallStmt, Error, If', IfElse', While', For', Row_of-Stmt}
use Rattle.zir_tree.specs.declared.stmt.Stmt.{end_of-Stmt, more_of-Stmt}
use Rattle.zir_tree.specs.declared.stmt.Return.{Return}
use Rattle.zir_tree.specs.declared.stmt.Body.{Body}
use Rattle.zir_tree.specs.declared.comp.Comp.{Comp, Take, Takes, Emit, Emits, Return as ReturnComp, Do, Repeat', While' as WhileComp', Times'}
use Rattle.zir_tree.specs.declared.comp.Comp.{For' as ForComp', If' as IfComp', Map, Filter, Call as CallComp, Block', Pipe', end_of-Comp}
use Rattle.zir_tree.specs.declared.comp.Comp.{more_of-Comp, Row_of-Member, end_of-Member, more_of-Member}
use Rattle.zir_tree.specs.declared.comp.Member.{Bind, Var as VarMember, Run}
use Rattle.zir_tree.specs.declared.program.Function.{Function}
use Rattle.zir_tree.specs.declared.program.Instance.{Instance}
use Rattle.zir_tree.specs.declared.program.Core.{Core}
use Rattle.zir_types.specs.Typing.{row_length}
use Rattle.zir_shapes.specs.Shapes.{StructsBefore, Ordered}
use Rattle.zir_sound.specs.Laws.{is_in}

abbrev mutual
  -- Every array literal in an expression has an element.
  pub IsFilled : Expr → Type 0
  IsFilled (UnitLiteral p) = Unit {0}
  IsFilled (Bit b p) = Unit {0}
  IsFilled (BoolLiteral b p) = Unit {0}
  IsFilled (Int n b p) = Unit {0}
  IsFilled (Variable x) = Unit {0}
  IsFilled (Unary' o b _ (more_of-Expr e end_of-Expr) p) = IsFilled e
  IsFilled (Binary' o k _ (more_of-Expr a end_of-Expr) _ (more_of-Expr b end_of-Expr) p) = IsFilled a × IsFilled b
  IsFilled (Index' _ (more_of-Expr a end_of-Expr) _ (more_of-Expr i end_of-Expr) p) = IsFilled a × IsFilled i
  IsFilled (Slice' _ (more_of-Expr a end_of-Expr) _ (more_of-Expr i end_of-Expr) k p) = IsFilled a × IsFilled i
  IsFilled (Part' _ (more_of-Expr a end_of-Expr) x k p) = IsFilled a
  IsFilled (Call' f c _ es) = AreFilled es
  IsFilled (Array' _ es p) = (1 ≤ row_length es) × AreFilled es
  IsFilled (Convert' b _ (more_of-Expr e end_of-Expr) p) = IsFilled e
  IsFilled (Complex' b _ (more_of-Expr x end_of-Expr) _ (more_of-Expr y end_of-Expr) p) = IsFilled x × IsFilled y

  -- The same of expressions in a row.
  pub AreFilled : {m : _} → Row_of-Expr m → Type 0
  AreFilled end_of-Expr = Unit {0}
  AreFilled (more_of-Expr e es) = IsFilled e × AreFilled es

-- The same of a plain list.
abbrev pub AllFilled : List Expr → Type 0
AllFilled [] = Unit {0}
AllFilled (e ∷ es) = IsFilled e × AllFilled es

-- The same of an expression, where there is one.
abbrev pub FilledIfAny : Option Expr → Type 0
FilledIfAny None = Unit {0}
FilledIfAny (Some e) = IsFilled e

-- The same of what a body returns.
abbrev pub FilledReturn : Option Return → Type 0
FilledReturn None = Unit {0}
FilledReturn (Some r) = IsFilled r.value

-- The same of the indexes of a path.
abbrev pub FilledPath : List Access → Type 0
FilledPath [] = Unit {0}
FilledPath (Index e p ∷ steps) = IsFilled e × FilledPath steps
FilledPath (Slice e k p ∷ steps) = IsFilled e × FilledPath steps
FilledPath (Part x k p ∷ steps) = FilledPath steps

-- A written type names one of the first m structs, if it names any.
abbrev pub IsKnown : ℕ → TypeExpr → Type 0
IsKnown m t = StructsBefore m t.base

-- The same of a written result.
abbrev pub KnownIfAny : ℕ → Option TypeExpr → Type 0
KnownIfAny m None = Unit {0}
KnownIfAny m (Some t) = IsKnown m t

-- The same of a type, where there is one.
abbrev pub KnownType : ℕ → Option Ty → Type 0
KnownType m None = Unit {0}
KnownType m (Some t) = StructsBefore m t.base

-- A declared variable has a number that none of these in scope has, and is of a known type.
abbrev pub FormedVar : ℕ → List ℕ → Var → Type 0
FormedVar m xs v = (is_in xs v.name.id ≡ false) × IsKnown m v.ty × FilledIfAny v.initial

-- The numbers in scope behind a statement.
abbrev pub numbers_after : List ℕ → Stmt → List ℕ
numbers_after xs (VarStmt v) = v.name.id ∷ xs
numbers_after xs (Assign x steps e) = xs
numbers_after xs (CallStmt f k es) = xs
numbers_after xs (Error text p) = xs
numbers_after xs (If' e _ ss p) = xs
numbers_after xs (IfElse' e _ ss _ us p) = xs
numbers_after xs (While' e _ ss p) = xs
numbers_after xs (For' x a n _ ss p) = xs

abbrev mutual
  -- A statement is well formed, where these numbers are in scope: it gives its variables new numbers and known types, and its array literals
  -- have elements.
  pub FormedStmt : ℕ → List ℕ → Stmt → Type 0
  FormedStmt m xs (VarStmt v) = FormedVar m xs v
  FormedStmt m xs (Assign x steps e) = FilledPath steps × IsFilled e
  FormedStmt m xs (CallStmt f k es) = AllFilled es
  FormedStmt m xs (Error text p) = Unit {0}
  FormedStmt m xs (If' e _ ss p) = IsFilled e × FormedRow m xs ss
  FormedStmt m xs (IfElse' e _ ss _ us p) = IsFilled e × FormedRow m xs ss × FormedRow m xs us
  FormedStmt m xs (While' e _ ss p) = IsFilled e × FormedRow m xs ss
  FormedStmt m xs (For' x a n _ ss p) = (is_in xs x.id ≡ false) × IsFilled a × IsFilled n × FormedRow m (x.id ∷ xs) ss

  -- The same of statements in a row, each behind those before it.
  pub FormedRow : ℕ → List ℕ → {k : _} → Row_of-Stmt k → Type 0
  FormedRow m xs end_of-Stmt = Unit {0}
  FormedRow m xs (more_of-Stmt s ss) = FormedStmt m xs s × FormedRow m (numbers_after xs s) ss

-- The same of a plain list of statements.
abbrev pub FormedAll : ℕ → List ℕ → List Stmt → Type 0
FormedAll m xs [] = Unit {0}
FormedAll m xs (s ∷ ss) = FormedStmt m xs s × FormedAll m (numbers_after xs s) ss

-- The numbers in scope behind a list of statements.
abbrev pub numbers_behind : List ℕ → List Stmt → List ℕ
numbers_behind xs [] = xs
numbers_behind xs (s ∷ ss) = numbers_behind (numbers_after xs s) ss

-- A body is well formed.
abbrev pub FormedBody : ℕ → List ℕ → Body → Type 0
FormedBody m xs b = FormedAll m xs b.statements × FilledReturn b.result

-- Parameters have new numbers, each its own, and known types.
abbrev pub FormedParams : ℕ → List ℕ → List Field → Type 0
FormedParams m xs [] = Unit {0}
FormedParams m xs (p ∷ ps) = (is_in xs p.name.id ≡ false) × IsKnown m p.ty × FormedParams m (p.name.id ∷ xs) ps

-- The numbers in scope behind parameters.
abbrev pub with_params : List ℕ → List Field → List ℕ
with_params xs [] = xs
with_params xs (p ∷ ps) = with_params (p.name.id ∷ xs) ps

-- Top variables are well formed, each behind those before it.
abbrev pub FormedVars : ℕ → List ℕ → List Var → Type 0
FormedVars m xs [] = Unit {0}
FormedVars m xs (v ∷ vs) = FormedVar m xs v × FormedVars m (v.name.id ∷ xs) vs

-- The numbers in scope behind top variables.
abbrev pub with_vars : List ℕ → List Var → List ℕ
with_vars xs [] = xs
with_vars xs (v ∷ vs) = with_vars (v.name.id ∷ xs) vs

-- A function is well formed, where these are the numbers of the top variables.
pub record FormedFunction (m : ℕ) (tops : List ℕ) (f : Function) : Type 0 where
  pub params : FormedParams m tops f.params
  pub result : KnownIfAny m f.result
  pub body : FormedBody m (with_params tops f.params) f.body

-- Each function is well formed.
abbrev pub FormedFunctions : ℕ → List ℕ → List Function → Type 0
FormedFunctions m tops [] = Unit {0}
FormedFunctions m tops (f ∷ fs) = FormedFunction m tops f × FormedFunctions m tops fs

abbrev mutual
  -- A component is well formed, where these numbers are in scope.
  pub FormedComp : ℕ → List ℕ → Comp → Type 0
  FormedComp m xs (Take p) = Unit {0}
  FormedComp m xs (Takes k p) = Unit {0}
  FormedComp m xs (Emit e p) = IsFilled e
  FormedComp m xs (Emits e p) = IsFilled e
  FormedComp m xs (ReturnComp e p) = IsFilled e
  FormedComp m xs (Do b p) = FormedBody m xs b
  FormedComp m xs (Repeat' _ (more_of-Comp c end_of-Comp) p) = FormedComp m xs c
  FormedComp m xs (WhileComp' turning e _ (more_of-Comp c end_of-Comp) p) = IsFilled e × FormedComp m xs c
  FormedComp m xs (Times' e _ (more_of-Comp c end_of-Comp) p) = IsFilled e × FormedComp m xs c
  FormedComp m xs (ForComp' x e f _ (more_of-Comp c end_of-Comp) p) =
      (is_in xs x.id ≡ false) × IsFilled e × IsFilled f × FormedComp m (x.id ∷ xs) c
  FormedComp m xs (IfComp' e _ (more_of-Comp c end_of-Comp) _ (more_of-Comp d end_of-Comp) p) = IsFilled e × FormedComp m xs c × FormedComp m xs d
  FormedComp m xs (Map f k p) = Unit {0}
  FormedComp m xs (Filter f k p) = Unit {0}
  FormedComp m xs (CallComp f k es) = AllFilled es
  FormedComp m xs (Block' _ ms p) = FormedMembers m xs ms
  FormedComp m xs (Pipe' link _ (more_of-Comp c end_of-Comp) _ (more_of-Comp d end_of-Comp) p) = FormedComp m xs c × FormedComp m xs d

  -- The same of members in a row, each behind those before it.
  pub FormedMembers : ℕ → List ℕ → {k : _} → Row_of-Member k → Type 0
  FormedMembers m xs end_of-Member = Unit {0}
  FormedMembers m xs (more_of-Member (Bind x c) ms) = (is_in xs x.id ≡ false) × FormedComp m xs c × FormedMembers m (x.id ∷ xs) ms
  FormedMembers m xs (more_of-Member (VarMember v) ms) = FormedVar m xs v × FormedMembers m (v.name.id ∷ xs) ms
  FormedMembers m xs (more_of-Member (Run c) ms) = FormedComp m xs c × FormedMembers m xs ms

-- An instance is well formed, where these are the numbers of the top variables; what it reads and emits and its value are of known types.
pub record FormedInstance (m : ℕ) (tops : List ℕ) (i : Instance) : Type 0 where
  pub params : FormedParams m tops i.params
  pub input : StructsBefore m i.input.base
  pub emits : KnownType m i.emits
  pub value : KnownType m i.value
  pub body : FormedComp m (with_params tops i.params) i.body

-- Each instance is well formed.
abbrev pub FormedInstances : ℕ → List ℕ → List Instance → Type 0
FormedInstances m tops [] = Unit {0}
FormedInstances m tops (i ∷ is) = FormedInstance m tops i × FormedInstances m tops is

-- The numbers of the top variables of a core.
abbrev pub top_numbers : Core → List ℕ
top_numbers core = with_vars [] core.variables

-- A core is well formed: written types name structs that are there, in order, each variable has a number that no other in scope has, and each
-- array literal has an element.
pub record WellFormed (core : Core) : Type 0 where
  pub structs : Ordered core.structs
  pub variables : FormedVars (length core.structs) [] core.variables
  pub functions : FormedFunctions (length core.structs) (top_numbers core) core.functions
  pub instances : FormedInstances (length core.structs) (top_numbers core) core.instances
  pub input : StructsBefore (length core.structs) core.input.base
  pub main : FormedComp (length core.structs) (top_numbers core) core.main
