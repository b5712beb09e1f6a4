-- That what typing accepts is what the laws of code ask for: expressions, statements and bodies.
use Rattle.std.specs.Prelude.{◌≡◌, ◌≤◌, ◌+◌, ℕ, List, [], ◌∷◌, map, false, Option, Some, None, length}
use Rattle.zir_tree.specs.declared.types.Ty.{Ty}
use Rattle.zir_tree.specs.declared.types.Field.{Field}
use Rattle.zir_tree.specs.declared.expr.Expr.{Expr}
use Rattle.zir_tree.specs.declared.stmt.Stmt.{Stmt}
use Rattle.zir_tree.specs.declared.stmt.Return.{Return}
use Rattle.zir_tree.specs.declared.stmt.Body.{Body}
use Rattle.zir_tree.specs.declared.comp.Comp.{Comp}
use Rattle.zir_tree.specs.declared.program.Instance.{Instance}
use Rattle.zir_tree.specs.declared.types.Base.TheVariants.{Unit as UnitTy}
use Rattle.zir_types.specs.Scope.{Visible, declare, variable}
use Rattle.zir_types.specs.Typing as types
use Rattle.zir_shapes.specs.Shapes.{StructsBefore}
use Rattle.zir_shapes.specs.Offsets.{plain_type as plain}
use Rattle.zir_code.specs.Scopes.{Scope}
use Rattle.zir_code.specs.Types.{cells_for, size_in}
use Rattle.zir_code.specs.Peaks.{peak_of}
use Rattle.zir_code.specs.Typing.{Has, AllFit}
use Rattle.zir_code.specs.Statements.{with_local}
use Rattle.zir_code.specs.Fine.{Fits}
use Rattle.zir_code.specs.Needs.{all_peak}
use Rattle.zir_code.specs.Bodies.{inside, cells_of_all, scope_after_all, free_after_all, FineAll, ParametersKnown}
use Rattle.zir_sound.specs.Statements.{AreStmtsOf, Each, IsBody, behind, param_of}
use Rattle.zir_sound.specs.Components.{IsComp}
use Rattle.zir_sound.specs.Laws.{is_in}
use Rattle.zir_typed_code.specs.Forming.{IsFilled, AllFilled, KnownType, FormedAll, FormedBody, FormedParams, FormedComp, FormedInstances}
use Rattle.zir_typed_code.specs.Forming.{numbers_behind, with_params}
use Rattle.zir_typed_code.specs.Scopes.{SameScope}

-- A typed expression has its type in code too, where its array literals have elements.
abbrev pub ExpressionsFit : Type 0
ExpressionsFit =
    (xs : List ℕ) (v : Visible) (g : Scope) (n : ℕ) → SameScope xs v g n →
    (t : Ty) (e : Expr) → IsFilled e → types.Has v t e → Has g n t e

-- The same of expressions one for one.
abbrev pub ListsFit : Type 0
ListsFit =
    (xs : List ℕ) (v : Visible) (g : Scope) (n : ℕ) → SameScope xs v g n →
    (ts : List Ty) (es : List Expr) → AllFilled es → Each v ts es → AllFit g n ts es

-- A typed expression has as many cells as its type, and names structs that are there.
abbrev pub ValuesAreKnown : Type 0
ValuesAreKnown =
    (xs : List ℕ) (v : Visible) (g : Scope) (n : ℕ) → SameScope xs v g n →
    (t : Ty) (e : Expr) → IsFilled e → types.Has v t e → (size_in g e ≡ cells_for g t) × StructsBefore (length g.structs) t.base

-- A variable with a new number and of a known type comes into scope on both sides, where there is room for it.
abbrev pub LocalsComeIn : Type 0
LocalsComeIn =
    (xs : List ℕ) (v : Visible) (g : Scope) (n : ℕ) → SameScope xs v g n →
    (d id : ℕ) (t : Ty) → is_in xs id ≡ false → StructsBefore (length g.structs) t.base → d + cells_for g t ≤ n →
    SameScope (id ∷ xs) (declare (variable id t ∷ []) v) (with_local g d id t) n

-- Parameters come into scope on both sides, where there is room for them and no other name is in scope inside the body.
abbrev pub ParametersComeIn : Type 0
ParametersComeIn =
    (xs : List ℕ) (v : Visible) (g : Scope) (n : ℕ) → SameScope xs v g n → g.locals ≡ [] →
    (ps : List Field) → FormedParams (length g.structs) xs ps → cells_of_all g ps ≤ n →
    SameScope (with_params xs ps) (declare (map param_of ps) v) (inside g ps) n

-- Typed statements are what code asks for, where there is room for all that they use.
abbrev pub StatementsFit : Type 0
StatementsFit =
    (xs : List ℕ) (v : Visible) (g : Scope) (n : ℕ) → SameScope xs v g n →
    (d : ℕ) (ss : List Stmt) → FormedAll (length g.structs) xs ss → AreStmtsOf v ss → all_peak g d ss ≤ n → FineAll g d n ss

-- Behind typed statements both sides have the same in scope.
abbrev pub ScopesGoOn : Type 0
ScopesGoOn =
    (xs : List ℕ) (v : Visible) (g : Scope) (n : ℕ) → SameScope xs v g n →
    (d : ℕ) (ss : List Stmt) → FormedAll (length g.structs) xs ss → AreStmtsOf v ss → all_peak g d ss ≤ n →
    SameScope (numbers_behind xs ss) (behind v ss) (scope_after_all g d ss) n

-- The first cell behind all that the code of a body's value uses.
abbrev pub return_peak : Scope → ℕ → Option Return → ℕ
return_peak g d None = d
return_peak g d (Some r) = peak_of g r.value d

-- The value of a body has this type, where those of its cells from d on are free; without one it is unit.
abbrev pub ValueFits : Scope → ℕ → ℕ → Ty → Option Return → Type 0
ValueFits g d n t None = t ≡ plain UnitTy
ValueFits g d n t (Some r) = Fits g d n t r.value

-- A typed body is what code asks for, where there is room for all that it uses.
abbrev pub BodiesFit : Type 0
BodiesFit =
    (xs : List ℕ) (v : Visible) (g : Scope) (n : ℕ) → SameScope xs v g n →
    (d : ℕ) (t : Ty) (b : Body) → FormedBody (length g.structs) xs b → IsBody v t b → all_peak g d b.statements ≤ n →
    return_peak (scope_after_all g d b.statements) (free_after_all g d b.statements) b.result ≤ n →
    FineAll g d n b.statements × ValueFits (scope_after_all g d b.statements) (free_after_all g d b.statements) n t b.result

-- Well formed parameters are known to code.
abbrev pub ParametersAreKnown : Type 0
ParametersAreKnown = (g : Scope) (xs : List ℕ) (ps : List Field) → FormedParams (length g.structs) xs ps → ParametersKnown g ps

-- What a typed component emits, and its value, name structs that are there, where what it reads does and its instances are well formed.
abbrev pub ComponentsAreKnown : Type 0
ComponentsAreKnown =
    (xs tops : List ℕ) (v : Visible) (g : Scope) (n : ℕ) → SameScope xs v g n →
    (is : List Instance) → FormedInstances (length g.structs) tops is →
    (a : Ty) (c : Comp) (out val : Option Ty) → StructsBefore (length g.structs) a.base → FormedComp (length g.structs) xs c → IsComp v is a c out val →
    KnownType (length g.structs) out × KnownType (length g.structs) val
