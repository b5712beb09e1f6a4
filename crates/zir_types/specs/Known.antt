-- The types of typed trees, read off the trees again: what the limits measure.
use Rattle.std.specs.Prelude.{ℕ, List, [], ◌∷◌, ◌++◌, map, Option, Some, None, slice_get}
use Rattle.zir_tree.specs.declared.types.Base.{Base}
use Rattle.zir_tree.specs.declared.types.Base.TheVariants.{Unit as UnitTy, Bit as BitTy, Bool as BoolTy}
use Rattle.zir_tree.specs.declared.types.Ty.{Ty}
use Rattle.zir_tree.specs.declared.types.TypeExpr.{TypeExpr}
use Rattle.zir_tree.specs.declared.types.Field.{Field}
use Rattle.zir_tree.specs.declared.types.StructDef.{StructDef}
use Rattle.zir_tree.specs.declared.expr.Operator.{Operator}
use Rattle.zir_tree.specs.declared.expr.Operator.TheVariants.{Or, And, BitOr, BitXor, BitAnd, Equal, NotEqual, Less, LessEqual, Greater, GreaterEqual}
use Rattle.zir_tree.specs.declared.expr.Operator.TheVariants.{ShiftLeft, ShiftRight, Add, Subtract, Multiply, Divide, Remainder}
use Rattle.zir_tree.specs.declared.expr.Expr.{Expr, Unit, Bit, Bool as BoolLiteral, Int, Variable, Unary', Binary', Index', Slice', Part', Call'}
use Rattle.zir_tree.specs.declared.expr.Expr.{Array', Convert', Complex', Row_of-Expr, end_of-Expr, more_of-Expr}
use Rattle.zir_tree.specs.declared.stmt.Var.{Var}
use Rattle.zir_tree.specs.declared.stmt.Stmt.{Stmt, Var as VarStmt, Assign, Call as CallStmt, Error, If', IfElse', While', For'}
use Rattle.zir_tree.specs.declared.stmt.Return.{Return}
use Rattle.zir_tree.specs.declared.stmt.Body.{Body}
use Rattle.zir_tree.specs.declared.comp.Comp.{Comp, Take, Takes, Emit, Emits, Return as ReturnComp, Do, Repeat', While' as WhileComp', Times'}
use Rattle.zir_tree.specs.declared.comp.Comp.{For' as ForComp', If' as IfComp', Map, Filter, Call as CallComp, Block', Pipe', end_of-Comp}
use Rattle.zir_tree.specs.declared.comp.Comp.{more_of-Comp, Row_of-Member, end_of-Member, more_of-Member}
use Rattle.zir_tree.specs.declared.comp.Member.{Bind, Var as VarMember, Run}
use Rattle.zir_tree.specs.declared.program.Function.{Function}
use Rattle.zir_tree.specs.declared.program.Instance.{Instance}
use Rattle.zir_tree.specs.declared.program.Core.{Core}
use Rattle.zir_types.specs.declared.scope.Seen.{Seen}
use Rattle.zir_types.specs.declared.scope.Shape.{Shape}
use Rattle.zir_types.specs.declared.scope.Signature.{Signature}
use Rattle.zir_types.specs.declared.typed.Called.{Called}
use Rattle.zir_types.specs.declared.typed.Selected.{Selected}
use Rattle.zir_types.specs.Kinds.{scalar, arr}
use Rattle.zir_types.specs.Scope.{Visible, declare, variable, type_in, part_in, lengths_of, field_types, all_cells}
use Rattle.zir_types.specs.Typing.{called_at, row_length}
use Rattle.zir_types.specs.Statements.{with_index}
use Rattle.zir_types.specs.Components.{link_type}

-- The type of a written type of the core, whose structs have their places.
abbrev pub ty_of : TypeExpr → Ty
ty_of t = record { lengths = lengths_of t.dimensions; base = t.base }

-- A type where there is one, and else unit.
abbrev pub or_unit : Option Ty → Ty
or_unit None = scalar UnitTy
or_unit (Some t) = t

-- The type of a written result.
abbrev pub result_in : Option TypeExpr → Ty
result_in None = scalar UnitTy
result_in (Some t) = ty_of t

-- Parameters as variables.
abbrev pub seen_fields : List Field → List Seen
seen_fields fs = map (λ f. variable f.name.id (ty_of f.ty)) fs

-- What a declared variable brings into scope.
abbrev pub seen_in : Var → List Seen
seen_in v = variable v.name.id (ty_of v.ty) ∷ []

-- A function of the core as a signature.
abbrev pub signature_of : Function → Signature
signature_of f = record { id = f.name.id; params = map (λ p. ty_of p.ty) f.params; result = result_in f.result }

-- Structs with their cells, behind those before them.
abbrev pub shapes_in : List Shape → List StructDef → List Shape
shapes_in before [] = before
shapes_in before (d ∷ ds) = shapes_in (before ++ record { id = 0; def = d; cells = all_cells before (field_types d.fields) } ∷ []) ds

-- The top variables.
abbrev pub seen_vars : List Var → List Seen
seen_vars vs = map (λ v. variable v.name.id (ty_of v.ty)) vs

-- What the bodies of a core see at the top.
abbrev pub visible_of : Core → Visible
visible_of core = record { shapes = shapes_in [] core.structs; functions = map signature_of core.functions; variables = seen_vars core.variables }

-- The type of an operator's result over the type of its left side.
abbrev pub result_of : Operator → Base → Base
result_of Or b = BoolTy
result_of And b = BoolTy
result_of BitOr b = b
result_of BitXor b = b
result_of BitAnd b = b
result_of Equal b = BoolTy
result_of NotEqual b = BoolTy
result_of Less b = BoolTy
result_of LessEqual b = BoolTy
result_of Greater b = BoolTy
result_of GreaterEqual b = BoolTy
result_of ShiftLeft b = b
result_of ShiftRight b = b
result_of Add b = b
result_of Subtract b = b
result_of Multiply b = b
result_of Divide b = b
result_of Remainder b = b

-- Array lengths without the first.
abbrev pub inner : List ℕ → List ℕ
inner [] = []
inner (n ∷ ns) = ns

-- The type of an array's elements.
abbrev pub element_of : Ty → Ty
element_of t = record { lengths = inner t.lengths; base = t.base }

-- The type of a part.
abbrev pub part_ty : Option Selected → Ty
part_ty None = scalar UnitTy
part_ty (Some s) = s.ty

-- The type of a call's result.
abbrev pub called_ty : Option Called → Ty
called_ty None = scalar UnitTy
called_ty (Some c) = c.result

abbrev mutual
  -- The type of a typed expression.
  pub type_of : Visible → Expr → Ty
  type_of g (Unit p) = scalar UnitTy
  type_of g (Bit b p) = scalar BitTy
  type_of g (BoolLiteral b p) = scalar BoolTy
  type_of g (Int n b p) = scalar b
  type_of g (Variable x) = or_unit (type_in g.variables x.id)
  type_of g (Unary' o b _ e p) = scalar b
  type_of g (Binary' o k _ a _ b p) = scalar (result_of o k)
  type_of g (Index' _ (more_of-Expr a end_of-Expr) _ i p) = element_of (type_of g a)
  type_of g (Slice' _ (more_of-Expr a end_of-Expr) _ i k p) = arr k (element_of (type_of g a))
  type_of g (Part' _ (more_of-Expr a end_of-Expr) x k p) = part_ty (part_in g.shapes (type_of g a) x)
  type_of g (Call' f c _ es) = called_ty (called_at g c)
  type_of g (Array' _ es p) = arr (row_length es) (head_type g es)
  type_of g (Convert' b _ e p) = scalar b
  type_of g (Complex' b _ x _ y p) = scalar b

  -- The type of the first expression in a row.
  pub head_type : {m : _} → Visible → Row_of-Expr m → Ty
  head_type g end_of-Expr = scalar UnitTy
  head_type g (more_of-Expr e es) = type_of g e

-- What the statements of a body bring into scope.
abbrev pub seen_stmts : List Stmt → List Seen
seen_stmts [] = []
seen_stmts (VarStmt v ∷ ss) = seen_in v ++ seen_stmts ss
seen_stmts (Assign x steps e ∷ ss) = seen_stmts ss
seen_stmts (CallStmt f k es ∷ ss) = seen_stmts ss
seen_stmts (Error text p ∷ ss) = seen_stmts ss
seen_stmts (If' e _ us p ∷ ss) = seen_stmts ss
seen_stmts (IfElse' e _ us _ vs p ∷ ss) = seen_stmts ss
seen_stmts (While' e _ us p ∷ ss) = seen_stmts ss
seen_stmts (For' x a n _ us p ∷ ss) = seen_stmts ss

-- The type of a returned value.
abbrev pub return_ty : Visible → Option Return → Ty
return_ty g None = scalar UnitTy
return_ty g (Some r) = type_of g r.value

-- The type of a body's value.
abbrev pub body_ty : Visible → Body → Ty
body_ty g b = return_ty (declare (seen_stmts b.statements) g) b.result

-- The types of a component: of what it emits, and of its value.
pub record Kind : Type 0 where
  pub emits : Option Ty
  pub value : Option Ty

-- The types of an instance.
abbrev pub instance_kind : Option Instance → Kind
instance_kind None = record { emits = None; value = None }
instance_kind (Some i) = record { emits = i.emits; value = i.value }

-- The first of two types.
abbrev pub first_some : Option Ty → Option Ty → Option Ty
first_some None t = t
first_some (Some s) t = Some s

-- A computer of unit that emits this.
abbrev pub computer : Option Ty → Kind
computer out = record { emits = out; value = Some (scalar UnitTy) }

-- A component that emits nothing and has this value.
abbrev pub silent : Ty → Kind
silent t = record { emits = None; value = Some t }

-- The type that a function gives.
abbrev pub function_result : Option Signature → Ty
function_result None = scalar UnitTy
function_result (Some s) = s.result

abbrev mutual
  -- The types of a typed component at its input type, over the instances.
  pub kind_of : List Instance → Visible → Ty → Comp → Kind
  kind_of is g a (Take p) = silent a
  kind_of is g a (Takes k p) = silent (arr k a)
  kind_of is g a (Emit e p) = computer (Some (type_of g e))
  kind_of is g a (Emits e p) = computer (Some (element_of (type_of g e)))
  kind_of is g a (ReturnComp e p) = silent (type_of g e)
  kind_of is g a (Do b p) = silent (body_ty g b)
  kind_of is g a (Repeat' _ (more_of-Comp c end_of-Comp) p) = let k = kind_of is g a c in record { emits = k.emits; value = None }
  kind_of is g a (WhileComp' turning e _ (more_of-Comp c end_of-Comp) p) = let k = kind_of is g a c in computer k.emits
  kind_of is g a (Times' e _ (more_of-Comp c end_of-Comp) p) = let k = kind_of is g a c in computer k.emits
  kind_of is g a (ForComp' x e f _ (more_of-Comp c end_of-Comp) p) = let k = kind_of is (with_index x g) a c in computer k.emits
  kind_of is g a (IfComp' e _ (more_of-Comp c end_of-Comp) _ (more_of-Comp d end_of-Comp) p) =
      let k = kind_of is g a c in let l = kind_of is g a d in record { emits = first_some k.emits l.emits; value = k.value }
  kind_of is g a (Map f k p) = record { emits = Some (function_result (slice_get g.functions k)); value = None }
  kind_of is g a (Filter f k p) = record { emits = Some a; value = None }
  kind_of is g a (CallComp f k es) = instance_kind (slice_get is k)
  kind_of is g a (Block' _ ms p) = members_kind is g a (computer None) ms
  kind_of is g a (Pipe' link _ (more_of-Comp c end_of-Comp) _ (more_of-Comp d end_of-Comp) p) =
      let k = kind_of is g a c in let l = kind_of is g (link_type k.emits) d in record { emits = l.emits; value = first_some k.value l.value }

  -- The types of members, behind those before them.
  pub members_kind : {m : _} → List Instance → Visible → Ty → Kind → Row_of-Member m → Kind
  members_kind is g a so_far end_of-Member = so_far
  members_kind is g a so_far (more_of-Member (Bind x c) ms) =
      let k = kind_of is g a c in
      members_kind is (declare (variable x.id (or_unit k.value) ∷ []) g) a (record { emits = first_some so_far.emits k.emits; value = k.value }) ms
  members_kind is g a so_far (more_of-Member (VarMember v) ms) = members_kind is (declare (seen_in v) g) a (computer so_far.emits) ms
  members_kind is g a so_far (more_of-Member (Run c) ms) =
      let k = kind_of is g a c in members_kind is g a (record { emits = first_some so_far.emits k.emits; value = k.value }) ms
