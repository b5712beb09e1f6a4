-- The code of a function's body, and what it is for a call of it to agree with what the function means.
use Rattle.std.specs.Prelude.{ℕ, ℤ, ◌+◌, ◌<◌, ◌≤◌, ◌^◌, List, [], ◌∷◌, ◌++◌, Option, Some, None, ◌≡◌, length}
use Rattle.zir_tree.specs.declared.value.Val.{Val}
use Rattle.zir_tree.specs.declared.types.Base.TheVariants.{Unit as UnitTy}
use Rattle.zir_tree.specs.declared.types.Ty.{Ty}
use Rattle.zir_tree.specs.declared.types.StructDef.{StructDef}
use Rattle.zir_tree.specs.declared.types.Field.{Field}
use Rattle.zir_tree.specs.declared.stmt.Stmt.{Stmt}
use Rattle.zir_tree.specs.declared.stmt.Return.{Return}
use Rattle.zir_meaning.specs.Values.{type_of}
use Rattle.zir_meaning.specs.Trace.{State}
use Rattle.zir_meaning.specs.Evaluation.{Eval}
use Rattle.zir_cells.specs.Cells.{cells_of}
use Rattle.zir_cells.specs.Layout.{layout_of}
use Rattle.zir_shapes.specs.Shapes.{Shaped, StructsBefore}
use Rattle.zir_shapes.specs.Offsets.{plain_type as plain}
use Rattle.zir_expr.specs.declared.frame.Spot.TheVariants.{Local}
use Rattle.zir_expr.specs.declared.steps.Step.{Step}
use Rattle.zir_expr.specs.Memory.{Ran, from_base}
use Rattle.zir_expr.specs.Memory.Frames.{Memory}
use Rattle.zir_code.specs.declared.scope.Holder.{Holder}
use Rattle.zir_code.specs.Scopes.{Scope}
use Rattle.zir_code.specs.Types.{cells_for, size_in}
use Rattle.zir_code.specs.Coding.{stands, code_of, settling}
use Rattle.zir_code.specs.Holding.{At, StandsAt, Hold, InOrder, Ends}
use Rattle.zir_code.specs.Statements.{stmt_code, scope_after, free_after}
use Rattle.zir_code.specs.Fine.{Fine, Fits, Stopped}

-- the code of a list of statements
abbrev pub all_code : Scope → ℕ → List Stmt → List Step
all_code g d [] = []
all_code g d (a ∷ more) = stmt_code g d a ++ all_code (scope_after g d a) (free_after g d a) more

-- what is in scope after a list of statements
abbrev pub scope_after_all : Scope → ℕ → List Stmt → Scope
scope_after_all g d [] = g
scope_after_all g d (a ∷ more) = scope_after_all (scope_after g d a) (free_after g d a) more

-- the first free cell after a list of statements
abbrev pub free_after_all : Scope → ℕ → List Stmt → ℕ
free_after_all g d [] = d
free_after_all g d (a ∷ more) = free_after_all (scope_after g d a) (free_after g d a) more

-- statements are well typed, each over what is in scope after those before it
abbrev pub FineAll : Scope → ℕ → ℕ → List Stmt → Type 0
FineAll g d n [] = Unit {0}
FineAll g d n (a ∷ more) = Fine g d n a × FineAll (scope_after g d a) (free_after g d a) n more

-- the parameters of a function, one behind the other from a cell on
abbrev pub parameters : Scope → ℕ → List Field → List Holder
parameters g i [] = []
parameters g i (p ∷ ps) =
    record { id = p.name.id; spot = Local i; cells = cells_for g (type_of p.ty); ty = type_of p.ty } ∷ parameters g (i + cells_for g (type_of p.ty)) ps

-- the cells of all parameters
abbrev pub cells_of_all : Scope → List Field → ℕ
cells_of_all g [] = 0
cells_of_all g (p ∷ ps) = cells_for g (type_of p.ty) + cells_of_all g ps

-- a body sees the top variables and its parameters
abbrev pub inside : Scope → List Field → Scope
inside g ps = record g { locals = parameters g 0 ps }

-- the code of the value of a body, if it has one, which goes to the first cells of the body
abbrev pub result_code : Scope → ℕ → Option Return → List Step
result_code g d None = []
result_code g d (Some r) = code_of g r.value d ++ settling (stands g r.value d) 0 (size_in g r.value)

-- the code of a body
abbrev pub body_code : Scope → List Field → List Stmt → Option Return → List Step
body_code g ps statements r =
    let g1 = inside g ps in
    let d = cells_of_all g ps in
    all_code g1 d statements ++ result_code (scope_after_all g1 d statements) (free_after_all g1 d statements) r

-- the value of a body has this type, and there is room for it; without one it is unit
abbrev pub ResultFits : Scope → ℕ → ℕ → Ty → Option Return → Type 0
ResultFits g d n t None = t ≡ plain UnitTy
ResultFits g d n t (Some r) = Fits g d n t r.value × (cells_for g t ≤ n)

-- these parameters have known types
abbrev pub ParametersKnown : Scope → List Field → Type 0
ParametersKnown g [] = Unit {0}
ParametersKnown g (p ∷ ps) = StructsBefore (length g.structs) (type_of p.ty).base × ParametersKnown g ps

-- a body with a value of this type is well typed in n cells
abbrev pub FineBody : Scope → ℕ → List Field → List Stmt → Option Return → Ty → Type 0
FineBody g n ps statements r t =
    let g1 = inside g ps in
    let d = cells_of_all g ps in
    ParametersKnown g ps × (d ≤ n) × FineAll g1 d n statements × ResultFits (scope_after_all g1 d statements) (free_after_all g1 d statements) n t r

-- arguments stand one behind the other from an index on, each of its parameter's type
abbrev pub ArgumentsAt : List StructDef → List ℤ → ℕ → List Field → List Val → Type 0
ArgumentsAt structs cells i [] [] = Unit {0}
ArgumentsAt structs cells i [] (v ∷ vs) = ⊥
ArgumentsAt structs cells i (p ∷ ps) [] = ⊥
ArgumentsAt structs cells i (p ∷ ps) (v ∷ vs) =
    Shaped structs (type_of p.ty) v × At cells i (cells_of v) × ArgumentsAt structs cells (i + layout_of structs (type_of p.ty)) ps vs

-- what holds where a body with these parameters begins
pub record Begins (top base n : ℕ) (g : Scope) (ps : List Field) (vs : List Val) (m : Memory) (s : State) : Type 0 where
  pub tops : Hold g.structs m.cells base g.tops s.store.tops
  pub tops_in : InOrder base 0 top g.tops
  pub arguments : ArgumentsAt g.structs m.cells base ps vs
  pub fit : cells_of_all g ps ≤ n
  pub used : m.used ≡ s.ticks
  pub limit : m.limit ≡ s.ticks + s.left
  pub apart : top ≤ base
  pub room : base + n ≤ length m.cells
  pub small : length m.cells < 2 ^ 63

-- a body ends as it means, with its value in its first cells
abbrev pub AgreesEnd : ℕ → ℕ → List StructDef → List Holder → Ty → Memory → Eval → Ran → Type 0
AgreesEnd top base structs tops t m r q =
    Ends (λ v s' m'. StandsAt structs t v m' (from_base base 0) × Stopped top base structs tops m m' s') (λ s' m'. Stopped top base structs tops m m' s') r q
