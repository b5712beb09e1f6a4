-- How cells hold what is in scope, and what it is for code to agree with a meaning.
use Rattle.std.specs.Prelude.{ℕ, ℤ, pos, ◌+◌, ◌<◌, ◌≤◌, ◌^◌, List, [], ◌∷◌, ◌≡◌, ◌⊎◌, length, slice_index_or}
use Rattle.zir_tree.specs.declared.value.Val.{Val}
use Rattle.zir_tree.specs.declared.value.Slot.{Slot}
use Rattle.zir_tree.specs.declared.types.Ty.{Ty}
use Rattle.zir_tree.specs.declared.types.StructDef.{StructDef}
use Rattle.zir_meaning.specs.Trace.{State}
use Rattle.zir_meaning.specs.Evaluation.{Eval, Got, Traps, RunsOut}
use Rattle.zir_cells.specs.Cells.{cells_of}
use Rattle.zir_cells.specs.Layout.{layout_of}
use Rattle.zir_shapes.specs.Shapes.{Shaped}
use Rattle.zir_expr.specs.declared.frame.Spot.{Spot}
use Rattle.zir_expr.specs.Memory.{Ran, Done, Trapped, Out, place_of}
use Rattle.zir_expr.specs.Memory.Frames.{Memory}
use Rattle.zir_code.specs.declared.scope.Holder.{Holder}
use Rattle.zir_code.specs.Scopes.{Scope}

-- the cells from an index on are these
abbrev pub At : List ℤ → ℕ → List ℤ → Type 0
At cells i [] = Unit {0}
At cells i (x ∷ xs) = (i < length cells) × (slice_index_or cells i (pos 0) ≡ x) × At cells (i + 1) xs

-- a variable's value stands in its cells
pub record HoldsOne (structs : List StructDef) (held : List ℤ) (base : ℕ) (d : Holder) (s : Slot) : Type 0 where
  pub id : d.id ≡ s.id
  pub cells : At held (place_of base d.spot) (cells_of s.value)
  pub shape : Shaped structs d.ty s.value
  pub size : d.cells ≡ layout_of structs d.ty

-- the cells hold these variables
abbrev pub Hold : List StructDef → List ℤ → ℕ → List Holder → List Slot → Type 0
Hold structs cells base [] [] = Unit {0}
Hold structs cells base [] (s ∷ slots) = ⊥
Hold structs cells base (d ∷ ds) [] = ⊥
Hold structs cells base (d ∷ ds) (s ∷ slots) = HoldsOne structs cells base d s × Hold structs cells base ds slots

-- these variables stand one after the other, from an index on and before another
abbrev pub InOrder : ℕ → ℕ → ℕ → List Holder → Type 0
InOrder base low high [] = low ≤ high
InOrder base low high (d ∷ ds) = (low ≤ place_of base d.spot) × InOrder base (place_of base d.spot + d.cells) high ds

-- memory and a state: the top variables stand before top, the names of the body that runs from base on and before base + d, of its n cells
pub record Holds (top base d n : ℕ) (g : Scope) (m : Memory) (s : State) : Type 0 where
  pub tops : Hold g.structs m.cells base g.tops s.store.tops
  pub locals : Hold g.structs m.cells base g.locals s.store.locals
  pub tops_in : InOrder base 0 top g.tops
  pub locals_in : InOrder base base (base + d) g.locals
  pub used : m.used ≡ s.ticks
  pub limit : m.limit ≡ s.ticks + s.left
  pub apart : top ≤ base
  pub room : base + n ≤ length m.cells
  pub small : length m.cells < 2 ^ 63

-- an index is in the cells of none of these variables
abbrev pub Outside : ℕ → List Holder → ℕ → Type 0
Outside base [] i = Unit {0}
Outside base (d ∷ ds) i = ((i < place_of base d.spot) ⊎ (place_of base d.spot + d.cells ≤ i)) × Outside base ds i

-- cells from top on and before base + d that belong to no name of the body are the same
abbrev pub Spares : ℕ → ℕ → ℕ → Scope → Memory → Memory → Type 0
Spares top base d g m m' =
    (i : ℕ) → top ≤ i → i < base + d → Outside base g.locals i → slice_index_or m'.cells i (pos 0) ≡ slice_index_or m.cells i (pos 0)

-- what code leaves: the cells from top on and before base + d are the same
pub record Kept (top base d : ℕ) (g : Scope) (m m' : Memory) (s s' : State) : Type 0 where
  pub tops : Hold g.structs m'.cells base g.tops s'.store.tops
  pub tops_in : InOrder base 0 top g.tops
  pub locals : s'.store.locals ≡ s.store.locals
  pub same : (i : ℕ) → top ≤ i → i < base + d → slice_index_or m'.cells i (pos 0) ≡ slice_index_or m.cells i (pos 0)
  pub size : length m'.cells ≡ length m.cells
  pub used : m'.used ≡ s'.ticks
  pub limit : m'.limit ≡ s'.ticks + s'.left

-- a value of this type stands in the cells from a spot on
pub record StandsAt (structs : List StructDef) (t : Ty) (v : Val) (m : Memory) (at : ℕ) : Type 0 where
  pub shape : Shaped structs t v
  pub cells : At m.cells at (cells_of v)

-- code ends as the meaning says: with a value that is so, or by the same trap, with what then holds
abbrev pub Ends : (Val → State → Memory → Type 0) → (State → Memory → Type 0) → Eval → Ran → Type 0
Ends P Q (Got v s') (Done m') = P v s' m'
Ends P Q (Got v s') (Trapped u m') = ⊥
Ends P Q (Got v s') Out = ⊥
Ends P Q (Traps u s') (Done m') = ⊥
Ends P Q (Traps u s') (Trapped w m') = (u ≡ w) × Q s' m'
Ends P Q (Traps u s') Out = ⊥
Ends P Q RunsOut (Done m') = ⊥
Ends P Q RunsOut (Trapped w m') = ⊥
Ends P Q RunsOut Out = Unit {0}

-- code ends as the meaning says, with the value in the cells from a spot on
abbrev pub Agrees : ℕ → ℕ → ℕ → Scope → Ty → Spot → Memory → State → Eval → Ran → Type 0
Agrees top base d g t spot m s r q =
    Ends (λ v s' m'. StandsAt g.structs t v m' (place_of base spot) × Kept top base d g m m' s s') (λ s' m'. Kept top base d g m m' s s') r q
