-- What proofs over components take from what stands below them: a relation of scopes, and the entries of instances.
use Rattle.std.specs.Prelude.{ℕ, ◌+◌, ◌≤◌, List, [], ◌∷◌, Option, Some, None, false, ◌≡◌, length, slice_get}
use Rattle.zir_tree.specs.declared.types.Ty.{Ty}
use Rattle.zir_tree.specs.declared.expr.Expr.{Expr}
use Rattle.zir_tree.specs.declared.stmt.Body.{Body}
use Rattle.zir_tree.specs.declared.program.Instance.{Instance}
use Rattle.zir_types.specs.declared.scope.Signature.{Signature}
use Rattle.zir_types.specs.Scope.{Visible, declare, variable}
use Rattle.zir_types.specs.Typing.{Has}
use Rattle.zir_shapes.specs.Shapes.{StructsBefore}
use Rattle.zir_code.specs.declared.scope.Signature.{Signature as CodeSignature}
use Rattle.zir_code.specs.Scopes.{Scope}
use Rattle.zir_code.specs.Types.{cells_for}
use Rattle.zir_code.specs.Typing.{Has as CodeHas}
use Rattle.zir_code.specs.Statements.{with_local}
use Rattle.zir_sound.specs.Statements.{IsBody, param_types}
use Rattle.zir_flow.specs.Kinds.{Entry, Setting, body_type}
use Rattle.zir_flow.specs.Fitting.{Distinct, Apart, DoFits}
use Rattle.zir_flat.specs.Needs.{do_peak}
use Rattle.zir_sound.specs.Laws.{is_in}
use Rattle.zir_typed_code.specs.Forming.{IsFilled, FormedBody}

-- a type of the first n structs
abbrev pub Known : ℕ → Ty → Type 0
Known n t = StructsBefore n t.base

-- a function with the code that its calls need
pub record FunctionFound (n : ℕ) (sc : Scope) (k : ℕ) (s : Signature) : Type 0 where
  pub is : CodeSignature
  pub found : sc.funs k ≡ Some is
  pub params : is.params ≡ s.params
  pub result : is.result ≡ s.result
  pub known : Known n s.result

-- a type that is known, if there is one
abbrev pub KnownIfAny : ℕ → Option Ty → Type 0
KnownIfAny n None = Unit {0}
KnownIfAny n (Some t) = Known n t

-- what a relation between what types see and what code sees keeps and gives, where code has the cells from some place on free
pub record Relates (n : ℕ) (R : List ℕ → Visible → Scope → ℕ → Type 0) : Type 0 where
  pub later : (ids : List ℕ) (g : Visible) (sc : Scope) (d d' : ℕ) → d ≤ d' → R ids g sc d → R ids g sc d'
  pub local : (ids : List ℕ) (g : Visible) (sc : Scope) (d id : ℕ) (t : Ty) → R ids g sc d → Known n t → is_in ids id ≡ false →
      R (id ∷ ids) (declare (variable id t ∷ []) g) (with_local sc d id t) (d + cells_for sc t)
  pub structs : (ids : List ℕ) (g : Visible) (sc : Scope) (d : ℕ) → R ids g sc d → n ≡ length sc.structs
  pub distinct : (ids : List ℕ) (g : Visible) (sc : Scope) (d : ℕ) → R ids g sc d → Distinct sc.tops × Distinct sc.locals × Apart sc.locals sc.tops
  pub expression : (ids : List ℕ) (g : Visible) (sc : Scope) (d : ℕ) (t : Ty) (e : Expr) → R ids g sc d → IsFilled e → Has g t e →
      CodeHas sc d t e × Known n t
  pub function : (ids : List ℕ) (g : Visible) (sc : Scope) (d k : ℕ) (s : Signature) → R ids g sc d → slice_get g.functions k ≡ Some s →
      FunctionFound n sc k s
  pub body : (ids : List ℕ) (g : Visible) (sc : Scope) (d : ℕ) (t : Ty) (b : Body) → R ids g sc d → FormedBody n ids b → IsBody g t b →
      (body_type sc d b ≡ t) × Known n t
  pub body_fits : (ids : List ℕ) (g : Visible) (sc : Scope) (d k : ℕ) (t : Ty) (b : Body) → R ids g sc d → FormedBody n ids b → IsBody g t b → d ≤ k →
      do_peak sc d b ≤ k → DoFits sc d k b

-- an instance with the entry that its calls need
pub record EntryFound (n : ℕ) (st : Setting) (k : ℕ) (i : Instance) : Type 0 where
  pub is : Entry
  pub found : st.entries k ≡ Some is
  pub params : is.params ≡ param_types i.params
  pub input : is.input ≡ i.input
  pub emits : is.emits ≡ i.emits
  pub value : is.value ≡ i.value
  pub emits_known : KnownIfAny n i.emits
  pub value_known : KnownIfAny n i.value

-- these instances have their entries
abbrev pub HaveAll : ℕ → Setting → List Instance → Type 0
HaveAll n st is = (k : ℕ) (i : Instance) → slice_get is k ≡ Some i → EntryFound n st k i

-- what components stand on
pub record Ground (n : ℕ) (R : List ℕ → Visible → Scope → ℕ → Type 0) : Type 0 where
  pub relates : Relates n R
  pub st : Setting
  pub instances : List Instance
  pub entries : HaveAll n st instances
