-- Single variables in the cells.
use Rattle.std.specs.Prelude.{ℕ, ℤ, ◌+◌, ◌<◌, ◌≤◌, ◌^◌, ◌%◌, ◌≡◌, List, true, Option, Some, length}
use Rattle.std.proofs.Common.{ap, sym, subst, ◌∙◌, arith}
use Rattle.zir_meaning.specs.Store.{look_up}
use Rattle.zir_meaning.specs.Statements.{assign}
use Rattle.zir_cells.specs.Cells.{cells_of}
use Rattle.zir_expr.specs.Memory.{cell_at, place_of}
use Rattle.zir_expr.specs.Memory.Frames.{Memory}
use Rattle.zir_code.specs.declared.scope.Holder.{Holder}
use Rattle.zir_code.specs.Scopes.{Scope, variable}
use Rattle.zir_code.specs.Holding.{At, Holds}
use Rattle.zir_code.proofs.Kept.{Changed}
use Rattle.zir_code.proofs.Stores.{assigned_holds}
use Rattle.zir_eval.specs.Cells.{AreAt, put_all}
use Rattle.zir_eval.specs.Ends.{Reads, Writes, SpotOf}
use Rattle.zir_eval.proofs.Copying.{same_cells, put_changed, put_stands}
use Rattle.zir_eval.proofs.Sizes.{variable_stands, Stands}
use Rattle.zir_expr.specs.declared.frame.Spot.{Spot}

-- the cells of a variable are read
pub reads_cells : (g : Scope) (id base : ℕ) (m : Memory) (old new : List ℤ) (spot : Spot) → SpotOf (variable g id) (length old) (Some spot) →
    length new ≡ length old → AreAt m (place_of base spot) new → Reads g id base m true old new
reads_cells g id base m old new spot f l r = λ top d n s holds le.
    let v : Holder = f.0 in
    let p = place_of base v.spot in
    let st : Stands base (base + d) m v (look_up s.store id) = variable_stands top base d n g m s id v holds f.1 in
    let size : length (cells_of (look_up s.store id)) ≡ length new = st.size ∙ f.2 ∙ sym l in
    let at : place_of base spot ≡ p = ap (place_of base) f.3 in
    let before : p + v.cells ≤ base + d = st.before in
    let cells : v.cells ≡ length new = f.2 ∙ sym l in
    let room : base + n ≤ length m.cells = holds.room in
    let small : length m.cells < 2 ^ 63 = holds.small in
    same_cells m p (cells_of (look_up s.store id)) new size st.cells
    (λ k lt. r k lt ∙ ap (λ i. cell_at ((i + k) % 2 ^ 64) m) at
    ∙ ap (λ i. cell_at i m) (let e : (p + k) % 2 ^ 64 ≡ p + k = omega (arith, before, cells, room, small, lt, le) in e))

-- and written
pub writes_cells : (g : Scope) (id base : ℕ) (cells : List ℤ) (m : Memory) (spot : Spot) → SpotOf (variable g id) (length cells) (Some spot) →
    Writes g id base cells m true (put_all (place_of base spot) cells m)
writes_cells g id base cells m spot f = λ top d n v w s holds le is sole shape same.
    let u : Holder = f.0 in
    let one : u ≡ v = same_holder u v (variable g id) f.1 is in
    let at : place_of base spot ≡ place_of base v.spot = ap (place_of base) f.3 ∙ ap (λ (x : Holder). place_of base x.spot) one in
    let p = place_of base v.spot in
    let size : v.cells ≡ length cells = sym (ap (λ (x : Holder). x.cells) one) ∙ f.2 in
    let st : Stands base (base + d) m v (look_up s.store id) = variable_stands top base d n g m s id v holds is in
    let before : p + v.cells ≤ base + d = st.before in
    let room : base + n ≤ length m.cells = holds.room in
    let small : length m.cells < 2 ^ 63 = holds.small in
    let lt : p + length cells < 2 ^ 64 = omega arith in
    let stands : At (put_all p cells m).cells p (cells_of w) =
    subst (At (put_all p cells m).cells p) (sym same) (put_stands p cells m lt (omega arith)) in
    let changed : Changed p (p + v.cells) m (put_all p cells m) =
    subst (λ n. Changed p (p + n) m (put_all p cells m)) (sym size) (put_changed p cells m lt) in
    subst (λ q. Holds top base d n g (put_all q cells m) (assign id w s)) (sym at)
    (assigned_holds top base d n g m (put_all p cells m) s id v w sole shape stands changed holds) where
      same_holder : (u v : Holder) (o : Option Holder) → o ≡ Some u → o ≡ Some v → u ≡ v
      same_holder u v o a b = cc
