-- The rules of typed statements and bodies without an order.
use Rattle.std.specs.Prelude.{◌≡◌, ℕ, List, [], ◌∷◌, map, true, Option, Some, None, slice_get}
use Rattle.zir_tree.specs.declared.types.Base.{Base}
use Rattle.zir_tree.specs.declared.types.Base.TheVariants.{Unit as UnitTy, Bool as BoolTy, Int32}
use Rattle.zir_tree.specs.declared.types.Ty.{Ty}
use Rattle.zir_tree.specs.declared.types.TypeExpr.{TypeExpr}
use Rattle.zir_tree.specs.declared.types.Field.{Field}
use Rattle.zir_tree.specs.declared.expr.Expr.{Expr}
use Rattle.zir_tree.specs.declared.stmt.Var.{Var}
use Rattle.zir_tree.specs.declared.stmt.Access.{Access}
use Rattle.zir_tree.specs.declared.stmt.Access.TheVariants.{Index, Slice, Part}
use Rattle.zir_tree.specs.declared.stmt.Stmt.{Stmt, Var as VarStmt, Assign, Call as CallStmt, Error, If', IfElse', While', For', Row_of-Stmt}
use Rattle.zir_tree.specs.declared.stmt.Stmt.{end_of-Stmt, more_of-Stmt}
use Rattle.zir_tree.specs.declared.stmt.Return.{Return}
use Rattle.zir_tree.specs.declared.stmt.Body.{Body}
use Rattle.zir_types.specs.declared.scope.Seen.{Seen}
use Rattle.zir_types.specs.declared.scope.Signature.{Signature}
use Rattle.zir_types.specs.Kinds.{scalar, arr, is_whole}
use Rattle.zir_types.specs.Scope.{Visible, declare, variable, type_in, part_in, lengths_of}
use Rattle.zir_types.specs.Statements.{with_index}
use Rattle.zir_types.specs.Typing.{Has}

-- The type that a written type with its base is.
abbrev pub type_of : TypeExpr → Ty
type_of t = record { lengths = lengths_of t.dimensions; base = t.base }

-- What a typed variable is in scope.
abbrev pub seen_of : Var → Seen
seen_of v = variable v.name.id (type_of v.ty)

-- What a typed parameter is in scope.
abbrev pub param_of : Field → Seen
param_of f = variable f.name.id (type_of f.ty)

-- The types of typed parameters.
abbrev pub param_types : List Field → List Ty
param_types fs = map (λ f. type_of f.ty) fs

-- An expression has this type, where there is one.
abbrev pub HasIfAny : Visible → Ty → Option Expr → Type 0
HasIfAny g t None = Unit {0}
HasIfAny g t (Some e) = Has g t e

-- The initial value of a variable has its type.
abbrev pub IsVar : Visible → Var → Type 0
IsVar g v = HasIfAny g (type_of v.ty) v.initial

-- Expressions have these types, each its own, and are as many.
abbrev pub Each : Visible → List Ty → List Expr → Type 0
Each g [] [] = Unit {0}
Each g [] (e ∷ es) = ⊥
Each g (t ∷ ts) [] = ⊥
Each g (t ∷ ts) (e ∷ es) = Has g t e × Each g ts es

-- The steps of a path lead from a value of the first type to one of the second: each index is whole, each part carries its place.
abbrev pub Leads : Visible → Ty → List Access → Ty → Type 0
Leads g t [] u = t ≡ u
Leads g t (Index e p ∷ steps) u = (n : ℕ) × (s : Ty) × (w : Base) × (t ≡ arr n s) × (is_whole w ≡ true) × Has g (scalar w) e × Leads g s steps u
Leads g t (Slice e k p ∷ steps) u =
    (n : ℕ) × (s : Ty) × (w : Base) × (t ≡ arr n s) × (is_whole w ≡ true) × Has g (scalar w) e × Leads g (arr k s) steps u
Leads g t (Part x k p ∷ steps) u = (s : Ty) × (part_in g.shapes t x ≡ Some (record { place = k; ty = s })) × Leads g s steps u

-- What a statement brings into scope.
abbrev pub brought : Stmt → List Seen
brought (VarStmt v) = seen_of v ∷ []
brought (Assign x steps e) = []
brought (CallStmt f k es) = []
brought (Error text p) = []
brought (If' e _ ss p) = []
brought (IfElse' e _ ss _ us p) = []
brought (While' e _ ss p) = []
brought (For' x a n _ ss p) = []

abbrev mutual
  -- A typed statement keeps its rule: what is assigned has the type of what it is assigned to, a call gives what the function takes, the
  -- function stands at the place that the call carries and has no value, conditions are truth values and bounds int32.
  pub IsStmt : Visible → Stmt → Type 0
  IsStmt g (VarStmt v) = IsVar g v
  IsStmt g (Assign x steps e) = (t : Ty) × (u : Ty) × (type_in g.variables x.id ≡ Some t) × Leads g t steps u × Has g u e
  IsStmt g (CallStmt f k es) = (s : Signature) × (slice_get g.functions k ≡ Some s) × (s.result ≡ scalar UnitTy) × Each g s.params es
  IsStmt g (Error text p) = Unit {0}
  IsStmt g (If' e _ ss p) = Has g (scalar BoolTy) e × AreStmts g ss
  IsStmt g (IfElse' e _ ss _ us p) = Has g (scalar BoolTy) e × AreStmts g ss × AreStmts g us
  IsStmt g (While' e _ ss p) = Has g (scalar BoolTy) e × AreStmts g ss
  IsStmt g (For' x a n _ ss p) = Has g (scalar Int32) a × Has g (scalar Int32) n × AreStmts (with_index x g) ss

  -- Statements in a row keep their rules, each over what those before it bring into scope.
  pub AreStmts : Visible → {m : _} → Row_of-Stmt m → Type 0
  AreStmts g end_of-Stmt = Unit {0}
  AreStmts g (more_of-Stmt s ss) = IsStmt g s × AreStmts (declare (brought s) g) ss

-- The same for a plain list of statements.
abbrev pub AreStmtsOf : Visible → List Stmt → Type 0
AreStmtsOf g [] = Unit {0}
AreStmtsOf g (s ∷ ss) = IsStmt g s × AreStmtsOf (declare (brought s) g) ss

-- What is in scope behind statements.
abbrev pub behind : Visible → List Stmt → Visible
behind g [] = g
behind g (s ∷ ss) = behind (declare (brought s) g) ss

-- What a body returns has this type; where it returns nothing, this is unit.
abbrev pub Returns : Visible → Ty → Option Return → Type 0
Returns g t None = t ≡ scalar UnitTy
Returns g t (Some r) = Has g t r.value

-- The statements of a body keep their rules, and its value has this type.
pub record IsBody (g : Visible) (t : Ty) (b : Body) : Type 0 where
  pub statements : AreStmtsOf g b.statements
  pub result : Returns (behind g b.statements) t b.result
