-- Which statements are well typed, and what it is for their code to agree.
use Rattle.std.specs.Prelude.{ℕ, pos, ◌+◌, ◌<◌, ◌≤◌, List, [], ◌∷◌, true, false, Option, Some, None, ◌≡◌, ◌⊎◌, nat_eq, length, max, slice_index_or}
use Rattle.zir_tree.specs.declared.types.Base.{Base}
use Rattle.zir_tree.specs.declared.types.StructDef.{StructDef}
use Rattle.zir_tree.specs.declared.types.Base.TheVariants.{Bool as BoolTy, Int32}
use Rattle.zir_tree.specs.declared.types.Ty.{Ty}
use Rattle.zir_tree.specs.declared.expr.Expr.{Expr}
use Rattle.zir_tree.specs.declared.stmt.Access.{Access}
use Rattle.zir_tree.specs.declared.stmt.Access.TheVariants.{Index, Slice, Part}
use Rattle.zir_tree.specs.declared.stmt.Stmt.{Stmt, Var as VarStmt, Assign, Call, Error, If', IfElse', While', For', Row_of-Stmt, end_of-Stmt, more_of-Stmt}
use Rattle.zir_meaning.specs.Values.{type_of}
use Rattle.zir_meaning.specs.Trace.{State}
use Rattle.zir_meaning.specs.Evaluation.{Eval}
use Rattle.zir_shapes.specs.Shapes.{StructsBefore}
use Rattle.zir_shapes.specs.Offsets.{plain_type as plain, array_type as array_of}
use Rattle.zir_expr.specs.Memory.{Ran}
use Rattle.zir_expr.specs.Memory.Frames.{Memory}
use Rattle.zir_code.specs.declared.scope.Holder.{Holder}
use Rattle.zir_code.specs.declared.scope.Signature.{Signature}
use Rattle.zir_code.specs.Scopes.{Scope, variable}
use Rattle.zir_code.specs.Types.{cells_for}
use Rattle.zir_code.specs.Peaks.{peak_of, peak_of_all}
use Rattle.zir_code.specs.Statements.{with_index, scope_after, free_after, storing_peak}
use Rattle.zir_code.specs.Typing.{IsWholeType, PartFits, HolderFits, Has, AllFit}
use Rattle.zir_code.specs.Holding.{Hold, Holds, Ends}

-- none of these variables has this number
abbrev pub Absent : List Holder → ℕ → Type 0
Absent [] id = Unit {0}
Absent (d ∷ ds) id = (nat_eq d.id id ≡ false) × Absent ds id

-- of these variables this one alone has this number
abbrev pub Sole : List Holder → ℕ → Holder → Type 0
Sole [] id v = ⊥
Sole (d ∷ ds) id v = ((nat_eq d.id id ≡ true) × (d ≡ v) × Absent ds id) ⊎ ((nat_eq d.id id ≡ false) × Sole ds id v)

-- of the variables in scope this one alone has this number
abbrev pub SoleIn : Scope → ℕ → Holder → Type 0
SoleIn g id v = (Sole g.locals id v × Absent g.tops id) ⊎ (Absent g.locals id × Sole g.tops id v)

-- an expression of this type, for whose code there is room
abbrev pub Fits : Scope → ℕ → ℕ → Ty → Expr → Type 0
Fits g d n t e = Has g n t e × (peak_of g e d ≤ n)

-- an initial value of this type, if there is one
abbrev pub InitialFits : Scope → ℕ → ℕ → Ty → Option Expr → Type 0
InitialFits g d n t None = Unit {0}
InitialFits g d n t (Some e) = Fits g d n t e

-- a path, whose offset is in the cell o, leads from a value of this type to one of that type
abbrev pub AlongFits : Scope → ℕ → ℕ → Ty → List Access → Ty → Type 0
AlongFits g o n ty [] t = ty ≡ t
AlongFits g o n ty (Index e p ∷ path) t =
    (m : ℕ) × (u : Ty) × (w : Base) × (ty ≡ array_of m u) × IsWholeType w × Fits g (o + 1) n (plain w) e × AlongFits g o n u path t
AlongFits g o n ty (Slice e k p ∷ path) t =
    (m : ℕ) × (u : Ty) × (w : Base) × (ty ≡ array_of m u) × IsWholeType w × Fits g (o + 1) n (plain w) e × AlongFits g o n (array_of k u) path t
AlongFits g o n ty (Part name k p ∷ path) t = (u : Ty) × PartFits g.structs ty k u × AlongFits g o n u path t

abbrev mutual
  -- a statement is well typed in n cells, those from d on being free
  pub Fine : Scope → ℕ → ℕ → Stmt → Type 0
  Fine g d n (VarStmt v) =
      (t : Ty) × (type_of v.ty ≡ t) × StructsBefore (length g.structs) t.base × (d + cells_for g t ≤ n) × InitialFits g d n t v.initial
  Fine g d n (Assign name path e) =
      (t : Ty) × (v : Holder) × (variable g name.id ≡ Some v) × SoleIn g name.id v × HolderFits g n v × Fits g d n t e ×
      AlongFits g (d + cells_for g t) n v.ty path t × (storing_peak g (Some v) path d (cells_for g t) ≤ n)
  Fine g d n (Call name k es) =
      (f : Signature) × (g.funs k ≡ Some f) × AllFit g n f.params es × (max (peak_of_all g es d) (d + max (cells_for g f.result) f.needs) ≤ n)
  Fine g d n (Error text p) = Unit {0}
  Fine g d n (If' e _ a p) = Fits g d n (plain BoolTy) e × FineRow g d n a
  Fine g d n (IfElse' e _ a _ b p) = Fits g d n (plain BoolTy) e × FineRow g d n a × FineRow g d n b
  Fine g d n (While' e _ a p) = Fits g d n (plain BoolTy) e × FineRow g d n a
  Fine g d n (For' name a k _ b p) = Fits g d n (plain Int32) a × Fits g (d + 1) n (plain Int32) k × (d + 2 ≤ n) × FineRow (with_index g d name.id) (d + 1) n b

  -- statements are well typed, each over what is in scope after those before it
  pub FineRow : {k : _} → Scope → ℕ → ℕ → Row_of-Stmt k → Type 0
  FineRow g d n end_of-Stmt = Unit {0}
  FineRow g d n (more_of-Stmt a row) = Fine g d n a × FineRow (scope_after g d a) (free_after g d a) n row

-- what statements leave: what is in scope then, and the cells between the top variables and those of the body the same
pub record Went (top base d n : ℕ) (g : Scope) (m m' : Memory) (s' : State) : Type 0 where
  pub holds : Holds top base d n g m' s'
  pub same : (i : ℕ) → top ≤ i → i < base → slice_index_or m'.cells i (pos 0) ≡ slice_index_or m.cells i (pos 0)
  pub size : length m'.cells ≡ length m.cells

-- what a trap in statements leaves
pub record Stopped (top base : ℕ) (structs : List StructDef) (tops : List Holder) (m m' : Memory) (s' : State) : Type 0 where
  pub tops_held : Hold structs m'.cells base tops s'.store.tops
  pub same : (i : ℕ) → top ≤ i → i < base → slice_index_or m'.cells i (pos 0) ≡ slice_index_or m.cells i (pos 0)
  pub size : length m'.cells ≡ length m.cells
  pub used : m'.used ≡ s'.ticks
  pub limit : m'.limit ≡ s'.ticks + s'.left

-- code of statements ends as they mean
abbrev pub AgreesStmt : ℕ → ℕ → ℕ → ℕ → Scope → Memory → Eval → Ran → Type 0
AgreesStmt top base d n g m r q = Ends (λ v s' m'. Went top base d n g m m' s') (λ s' m'. Stopped top base g.structs g.tops m m' s') r q
