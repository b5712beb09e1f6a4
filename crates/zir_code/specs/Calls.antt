-- What it is for the code of functions to do what the functions mean.
use Rattle.std.specs.Prelude.{ℕ, ℤ, ◌+◌, ◌<◌, ◌≤◌, ◌^◌, max, List, [], ◌∷◌, Option, Some, None, ◌≡◌, length}
use Rattle.zir_tree.specs.declared.value.Val.{Val}
use Rattle.zir_tree.specs.declared.types.Ty.{Ty}
use Rattle.zir_tree.specs.declared.types.StructDef.{StructDef}
use Rattle.zir_meaning.specs.Trace.{State}
use Rattle.zir_meaning.specs.Evaluation.{Library}
use Rattle.zir_meaning.specs.Values.{blanks_of}
use Rattle.zir_cells.specs.Cells.{cells_of}
use Rattle.zir_cells.specs.Layout.{layout_of}
use Rattle.zir_shapes.specs.Shapes.{Shaped, Ordered}
use Rattle.zir_expr.specs.declared.frame.Spot.{Spot}
use Rattle.zir_expr.specs.declared.frame.Spot.TheVariants.{Top, Local}
use Rattle.zir_expr.specs.Memory.Frames.{Memory}
use Rattle.zir_expr.specs.Running.{go_all}
use Rattle.zir_code.specs.declared.scope.Holder.{Holder}
use Rattle.zir_code.specs.declared.scope.Signature.{Signature}
use Rattle.zir_code.specs.Scopes.{Scope}
use Rattle.zir_code.specs.Holding.{At, Hold, InOrder, Agrees}

-- values of these types stand one behind the other from an index on
abbrev pub CellsAre : List StructDef → List ℤ → ℕ → List Ty → List Val → Type 0
CellsAre structs cells i [] [] = Unit {0}
CellsAre structs cells i [] (v ∷ vs) = ⊥
CellsAre structs cells i (t ∷ ts) [] = ⊥
CellsAre structs cells i (t ∷ ts) (v ∷ vs) = Shaped structs t v × At cells i (cells_of v) × CellsAre structs cells (i + layout_of structs t) ts vs

-- a top variable's spot
abbrev pub IsTop : Spot → Type 0
IsTop (Top o) = Unit {0}
IsTop (Local o) = ⊥

-- these are top variables
abbrev pub AllTop : List Holder → Type 0
AllTop [] = Unit {0}
AllTop (d ∷ ds) = IsTop d.spot × AllTop ds

-- top variables alone are in scope
abbrev pub bare : List StructDef → List Holder → Scope
bare structs tops = record { structs = structs; tops = tops; locals = []; funs = λ k. None }

-- what holds where the code of a function begins
pub record CallBegins (top base : ℕ) (structs : List StructDef) (f : Signature) (tops : List Holder) (vs : List Val) (m : Memory) (s : State) : Type 0 where
  pub tops_held : Hold structs m.cells base tops s.store.tops
  pub tops_in : InOrder base 0 top tops
  pub arguments : CellsAre structs m.cells base f.params vs
  pub used : m.used ≡ s.ticks
  pub limit : m.limit ≡ s.ticks + s.left
  pub apart : top ≤ base
  pub room : base + max (layout_of structs f.result) f.needs ≤ length m.cells
  pub small : length m.cells < 2 ^ 63

-- the code of each function that may be called does what the function means, and leaves the value in its first cells; the structs are in order, and
-- the library has their blank values
pub record Calls (top : ℕ) (l : Library) (structs : List StructDef) (tops : List Holder) (funs : ℕ → Option Signature) : Type 0 where
  pub all_top : AllTop tops
  pub ordered : Ordered structs
  pub blanks : l.blanks ≡ blanks_of structs
  pub agree : (k : ℕ) (f : Signature) → funs k ≡ Some f → (base : ℕ) (vs : List Val) (m : Memory) (s : State) →
      CallBegins top base structs f tops vs m s →
      Agrees top base 0 (bare structs tops) f.result (Local 0) m s (l.funs k vs s) (go_all f.code.steps base m)
