-- The cells of variables in scope are those of their types.
use Rattle.std.specs.Prelude.{ℕ, ℤ, ◌+◌, ◌≤◌, List, [], ◌∷◌, Bool, true, false, Option, Some, None, ◌≡◌, if◌then◌else◌, nat_eq, length}
use Rattle.std.proofs.Common.{subst, sym, ◌∙◌, arith}
use Rattle.zir_tree.specs.declared.types.StructDef.{StructDef}
use Rattle.zir_tree.specs.declared.value.Slot.{Slot}
use Rattle.zir_tree.specs.declared.value.Val.{Val}
use Rattle.zir_meaning.specs.Store.{look_up}
use Rattle.zir_meaning.specs.Trace.{State}
use Rattle.zir_cells.specs.Cells.{cells_of}
use Rattle.zir_cells.specs.Layout.{layout_of}
use Rattle.zir_shapes.proofs.Fitting.{sizes-fit}
use Rattle.zir_expr.specs.Memory.{place_of}
use Rattle.zir_expr.specs.Memory.Frames.{Memory}
use Rattle.zir_code.specs.declared.scope.Holder.{Holder}
use Rattle.zir_code.specs.Scopes.{Scope, found_among, variable}
use Rattle.zir_code.specs.Holding.{At, Hold, Holds}
use Rattle.zir_code.proofs.Kept.{variable_found, Found}

size_here : (b : Bool) (structs : List StructDef) (d e : Holder) (other : Option Holder) → d.cells ≡ layout_of structs d.ty →
    (other ≡ Some e → e.cells ≡ layout_of structs e.ty) → (if b then Some d else other) ≡ Some e → e.cells ≡ layout_of structs e.ty
size_here true structs d e other h k q = let same : d ≡ e = cc in subst (λ (x : Holder). x.cells ≡ layout_of structs x.ty) same h
size_here false structs d e other h k q = k q

-- the cells of a variable that is found among these are those of its type
sized : (structs : List StructDef) (cells : List ℤ) (base : ℕ) (ds : List Holder) (slots : List Slot) (other : Option Holder) (id : ℕ) (e : Holder) →
    Hold structs cells base ds slots → (other ≡ Some e → e.cells ≡ layout_of structs e.ty) → found_among other ds id ≡ Some e →
    e.cells ≡ layout_of structs e.ty
sized structs cells base [] slots other id e h k q = k q
sized structs cells base (d ∷ ds) [] other id e h k q = absurd h
sized structs cells base (d ∷ ds) (s ∷ slots) other id e h k q =
    size_here (nat_eq d.id id) structs d e (found_among other ds id) h.0.size (λ r. sized structs cells base ds slots other id e h.1 k r) q

-- a variable in scope stands in its cells, as many as its value has
pub record Stands (base high : ℕ) (m : Memory) (v : Holder) (w : Val) : Type 0 where
  pub cells : At m.cells (place_of base v.spot) (cells_of w)
  pub size : length (cells_of w) ≡ v.cells
  pub before : place_of base v.spot + v.cells ≤ high

pub variable_stands : (top base d n : ℕ) (g : Scope) (m : Memory) (s : State) (id : ℕ) (v : Holder) → Holds top base d n g m s →
    variable g id ≡ Some v → Stands base (base + d) m v (look_up s.store id)
variable_stands top base d n g m s id v h q =
    let f : Found g.structs m.cells base (base + d) v (look_up s.store id) = variable_found top base d n g m s id v h q in
    let own : v.cells ≡ layout_of g.structs v.ty = sized g.structs m.cells base g.locals s.store.locals (found_among None g.tops id) id v h.locals
    (λ r. sized g.structs m.cells base g.tops s.store.tops None id v h.tops (λ x. absurd (nothing x)) r) q in
    let same = sizes-fit g.structs v.ty (look_up s.store id) f.shape in
    let before = f.before in
    record { cells = f.cells; size = same ∙ sym own; before = omega (arith, same, own, before) } where
      nothing : None ≡ Some v → ⊥
      nothing x = cc
