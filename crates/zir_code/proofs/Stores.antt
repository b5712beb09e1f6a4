-- Variables in the cells after a change of some, with one more name, and with fewer.
use Rattle.std.specs.Prelude.{ℕ, suc, ℤ, ◌+◌, ◌<◌, ◌≤◌, ◌^◌, List, [], ◌∷◌, ◌++◌, Bool, true, false, if◌then◌else◌, nat_eq, ◌≡◌, refl, length, take, ◌⊎◌}
use Rattle.std.proofs.Common.{ap, ◌∙◌, sym, subst, arith, inl, inr}
use Rattle.zir_tree.specs.declared.value.Val.{Val}
use Rattle.zir_tree.specs.declared.value.Slot.{Slot}
use Rattle.zir_tree.specs.declared.types.Ty.{Ty}
use Rattle.zir_tree.specs.declared.types.StructDef.{StructDef}
use Rattle.zir_meaning.specs.Store.{put}
use Rattle.zir_meaning.specs.Trace.{State}
use Rattle.zir_meaning.specs.Statements.{bind, assign}
use Rattle.zir_cells.specs.Cells.{cells_of}
use Rattle.zir_shapes.specs.Shapes.{Shaped}
use Rattle.zir_expr.specs.declared.frame.Spot.TheVariants.{Local}
use Rattle.zir_expr.specs.Memory.{from_base, place_of}
use Rattle.zir_expr.specs.Memory.Frames.{Memory}
use Rattle.zir_code.specs.declared.scope.Holder.{Holder}
use Rattle.zir_code.specs.Scopes.{Scope}
use Rattle.zir_code.specs.Types.{cells_for}
use Rattle.zir_code.specs.Holding.{At, HoldsOne, Hold, InOrder, Holds, Spares}
use Rattle.zir_code.specs.Statements.{with_local}
use Rattle.zir_code.specs.Fine.{Absent, Sole, SoleIn}
use Rattle.zir_code.proofs.Sparing.{outside_sole}
use Rattle.zir_code.proofs.Cells.{cell}
use Rattle.zir_code.proofs.Kept.{low_place, order_ends, same_one, same_hold, Changed}

pub hold_length : (structs : List StructDef) (cells : List ℤ) (base : ℕ) (ds : List Holder) (slots : List Slot) → Hold structs cells base ds slots →
    length slots ≡ length ds
hold_length structs cells base [] [] h = refl
hold_length structs cells base [] (s ∷ slots) h = absurd h
hold_length structs cells base (d ∷ ds) [] h = absurd h
hold_length structs cells base (d ∷ ds) (s ∷ slots) h = ap suc (hold_length structs cells base ds slots h.1)

pub hold_more : (structs : List StructDef) (cells : List ℤ) (base : ℕ) (ds : List Holder) (slots : List Slot) (d : Holder) (s : Slot) →
    Hold structs cells base ds slots → HoldsOne structs cells base d s → Hold structs cells base (ds ++ d ∷ []) (slots ++ s ∷ [])
hold_more structs cells base [] [] d s h o = (o, tt)
hold_more structs cells base [] (s' ∷ slots) d s h o = absurd h
hold_more structs cells base (d' ∷ ds) [] d s h o = absurd h
hold_more structs cells base (d' ∷ ds) (s' ∷ slots) d s h o = (h.0, hold_more structs cells base ds slots d s h.1 o)

pub hold_front : (structs : List StructDef) (cells : List ℤ) (base : ℕ) (ds es : List Holder) (slots : List Slot) →
    Hold structs cells base (ds ++ es) slots → Hold structs cells base ds (take (length ds) slots)
hold_front structs cells base [] es slots h = tt
hold_front structs cells base (d ∷ ds) es [] h = absurd h
hold_front structs cells base (d ∷ ds) es (s ∷ slots) h = (h.0, hold_front structs cells base ds es slots h.1)

order_append : (base low high : ℕ) (ds : List Holder) (d : Holder) → InOrder base low high ds → high ≤ place_of base d.spot →
    InOrder base low (place_of base d.spot + d.cells) (ds ++ d ∷ [])
order_append base low high [] d o le = (omega (arith, o), omega arith)
order_append base low high (e ∷ ds) d o le = (o.0, order_append base (place_of base e.spot + e.cells) high ds d o.1 le)

-- a change elsewhere
pub hold_other : (structs : List StructDef) (base low high a b : ℕ) (m m' : Memory) (ds : List Holder) (slots : List Slot) → Changed a b m m' →
    (high ≤ a) ⊎ (b ≤ low) → InOrder base low high ds → Hold structs m.cells base ds slots → Hold structs m'.cells base ds slots
hold_other structs base low high a b m m' ds slots c out o h =
    same_hold structs m.cells m'.cells base low high ds slots c.size
    (λ i p q. c.others i (elim out [ inl l ↦ inl (omega arith) | inr l ↦ inr (omega arith) ])) o h

put_head : (b : Bool) (s : Slot) (v : Val) → b ≡ false → (if b then record s { value = v } else s) ≡ s
put_head true s v e = cc
put_head false s v e = refl

put_here : (b : Bool) (s : Slot) (v : Val) → b ≡ true → (if b then record s { value = v } else s) ≡ record s { value = v }
put_here true s v e = refl
put_here false s v e = cc

pub absent_put : (structs : List StructDef) (cells : List ℤ) (base : ℕ) (ds : List Holder) (slots : List Slot) (id : ℕ) (v : Val) →
    Hold structs cells base ds slots → Absent ds id → put id v slots ≡ slots
absent_put structs cells base [] [] id v h a = refl
absent_put structs cells base [] (s ∷ slots) id v h a = absurd h
absent_put structs cells base (d ∷ ds) [] id v h a = absurd h
absent_put structs cells base (d ∷ ds) (s ∷ slots) id v h a =
    ap (λ x. x ∷ put id v slots) (put_head (nat_eq s.id id) s v (subst (λ i. nat_eq i id ≡ false) h.0.id a.0))
    ∙ ap (λ xs. s ∷ xs) (absent_put structs cells base ds slots id v h.1 a.1)

pub sole_within : (base low high : ℕ) (ds : List Holder) (id : ℕ) (v : Holder) → InOrder base low high ds → Sole ds id v →
    (low ≤ place_of base v.spot) × (place_of base v.spot + v.cells ≤ high)
sole_within base low high [] id v o s = absurd s
sole_within base low high (d ∷ ds) id v o s = elim s [
  | inl a ↦ subst (λ v. (low ≤ place_of base v.spot) × (place_of base v.spot + v.cells ≤ high)) a.1
      (o.0, order_ends base (place_of base d.spot + d.cells) high ds o.1)
  | inr a ↦ (let r = sole_within base (place_of base d.spot + d.cells) high ds id v o.1 a.1 in let l = o.0 in let x = r.0 in (omega arith, r.1))
]

-- the cells of a variable are others
pub sole_put : (structs : List StructDef) (base low high : ℕ) (m m' : Memory) (ds : List Holder) (slots : List Slot) (id : ℕ) (v : Holder) (w : Val) →
    Hold structs m.cells base ds slots → InOrder base low high ds → Sole ds id v →
    Changed (place_of base v.spot) (place_of base v.spot + v.cells) m m' → Shaped structs v.ty w → At m'.cells (place_of base v.spot) (cells_of w) →
    Hold structs m'.cells base ds (put id w slots)
sole_put structs base low high m m' [] slots id v w h o s c f a = absurd s
sole_put structs base low high m m' (d ∷ ds) [] id v w h o s c f a = absurd h
sole_put structs base low high m m' (d ∷ ds) (s' ∷ slots) id v w h o s c f a = elim s [
  | inl k ↦ here k
  | inr k ↦ there k (sole_put structs base (place_of base d.spot + d.cells) high m m' ds slots id v w h.1 o.1 k.1 c f a)
] where
  here : (nat_eq d.id id ≡ true) × (d ≡ v) × Absent ds id → Hold structs m'.cells base (d ∷ ds) (put id w (s' ∷ slots))
  here k =
      let e : put id w (s' ∷ slots) ≡ record s' { value = w } ∷ slots =
      ap (λ y. y ∷ put id w slots) (put_here (nat_eq s'.id id) s' w (subst (λ i. nat_eq i id ≡ true) h.0.id k.0))
      ∙ ap (λ xs. record s' { value = w } ∷ xs) (absent_put structs m.cells base ds slots id w h.1 k.2) in
      let p : place_of base d.spot ≡ place_of base v.spot = ap (λ (u : Holder). place_of base u.spot) k.1 in
      let n : d.cells ≡ v.cells = ap (λ (u : Holder). u.cells) k.1 in
      subst (Hold structs m'.cells base (d ∷ ds)) (sym e) (
        record {
          id = h.0.id;
          cells = subst (λ (u : Holder). At m'.cells (place_of base u.spot) (cells_of w)) (sym k.1) a;
          shape = subst (λ (u : Holder). Shaped structs u.ty w) (sym k.1) f;
          size = h.0.size;
        },
        hold_other structs base (place_of base d.spot + d.cells) high (place_of base v.spot) (place_of base v.spot + v.cells) m m' ds slots c
            (inr (omega arith)) o.1 h.1,
      )

  there : (nat_eq d.id id ≡ false) × Sole ds id v → Hold structs m'.cells base ds (put id w slots) →
      Hold structs m'.cells base (d ∷ ds) (put id w (s' ∷ slots))
  there k rest =
      let e : put id w (s' ∷ slots) ≡ s' ∷ put id w slots =
      ap (λ y. y ∷ put id w slots) (put_head (nat_eq s'.id id) s' w (subst (λ i. nat_eq i id ≡ false) h.0.id k.0)) in
      let r = sole_within base (place_of base d.spot + d.cells) high ds id v o.1 k.1 in
      let q = r.0 in
      subst (Hold structs m'.cells base (d ∷ ds)) (sym e) (
        same_one structs m.cells m'.cells base low (place_of base d.spot + d.cells) d s' c.size (λ i a b. c.others i (inl (omega arith))) o.0
            (omega arith) h.0,
        rest,
      )

-- a name comes into scope, in the first free cells
pub bound_holds : (top base d n : ℕ) (g : Scope) (m m' : Memory) (s : State) (id : ℕ) (ty : Ty) (v : Val) → d + cells_for g ty ≤ n →
    Shaped g.structs ty v → At m'.cells (base + d) (cells_of v) → Changed (base + d) (base + d + cells_for g ty) m m' → Holds top base d n g m s →
    Holds top base (d + cells_for g ty) n (with_local g d id ty) m' (bind id v s)
bound_holds top base d n g m m' s id ty v le f a c h =
    let room : base + n ≤ length m.cells = h.room in
    let small : length m.cells < 2 ^ 63 = h.small in
    let apart : top ≤ base = h.apart in
    let q : from_base base d ≡ base + d = low_place base d (omega arith) in
    record {
      tops = hold_other g.structs base 0 top (base + d) (base + d + cells_for g ty) m m' g.tops s.store.tops c (inl (omega arith)) h.tops_in h.tops;
      locals = hold_more g.structs m'.cells base g.locals s.store.locals _ _
          (hold_other g.structs base base (base + d) (base + d) (base + d + cells_for g ty) m m' g.locals s.store.locals c (inl (omega arith))
          h.locals_in h.locals)
          (record { id = refl; cells = subst (λ p. At m'.cells p (cells_of v)) (sym q) a; shape = f; size = refl });
      tops_in = h.tops_in;
      locals_in = subst (λ k. InOrder base base k (with_local g d id ty).locals)
          (let f : from_base base d + cells_for g ty ≡ base + (d + cells_for g ty) = omega arith in f)
          (order_append base base (base + d) g.locals (record { id = id; spot = Local d; cells = cells_for g ty; ty = ty }) h.locals_in (omega arith));
      used = c.used ∙ h.used;
      limit = c.limit ∙ h.limit;
      apart = apart;
      room = rw c.size room;
      small = rw c.size small;
    }

-- a variable in scope is assigned
pub assigned_holds : (top base d n : ℕ) (g : Scope) (m m' : Memory) (s : State) (id : ℕ) (v : Holder) (w : Val) → SoleIn g id v →
    Shaped g.structs v.ty w → At m'.cells (place_of base v.spot) (cells_of w) →
    Changed (place_of base v.spot) (place_of base v.spot + v.cells) m m' → Holds top base d n g m s → Holds top base d n g m' (assign id w s)
assigned_holds top base d n g m m' s id v w sole f a c h = elim sole [
  | inl k ↦ in_locals k
  | inr k ↦ in_tops k
] where
  in_locals : Sole g.locals id v × Absent g.tops id → Holds top base d n g m' (assign id w s)
  in_locals k =
      let low = (sole_within base base (base + d) g.locals id v h.locals_in k.0).0 in
      let apart : top ≤ base = h.apart in
      record {
        tops = rw (absent_put g.structs m.cells base g.tops s.store.tops id w h.tops k.1)
            (hold_other g.structs base 0 top (place_of base v.spot) (place_of base v.spot + v.cells) m m' g.tops s.store.tops c (inl (omega arith))
            h.tops_in h.tops);
        locals = sole_put g.structs base base (base + d) m m' g.locals s.store.locals id v w h.locals h.locals_in k.0 c f a;
        tops_in = h.tops_in;
        locals_in = h.locals_in;
        used = c.used ∙ h.used;
        limit = c.limit ∙ h.limit;
        apart = apart;
        room = rw c.size h.room;
        small = rw c.size h.small;
      }

  in_tops : Absent g.locals id × Sole g.tops id v → Holds top base d n g m' (assign id w s)
  in_tops k =
      let high = (sole_within base 0 top g.tops id v h.tops_in k.1).1 in
      let apart : top ≤ base = h.apart in
      record {
        tops = sole_put g.structs base 0 top m m' g.tops s.store.tops id v w h.tops h.tops_in k.1 c f a;
        locals = rw (absent_put g.structs m.cells base g.locals s.store.locals id w h.locals k.0)
            (hold_other g.structs base base (base + d) (place_of base v.spot) (place_of base v.spot + v.cells) m m' g.locals s.store.locals c
            (inr (omega arith)) h.locals_in h.locals);
        tops_in = h.tops_in;
        locals_in = h.locals_in;
        used = c.used ∙ h.used;
        limit = c.limit ∙ h.limit;
        apart = apart;
        room = rw c.size h.room;
        small = rw c.size h.small;
      }

-- a change of a variable in scope changes no cell between the top variables and those of the body
pub assigned_same : (top base d n : ℕ) (g : Scope) (m m' : Memory) (s : State) (id : ℕ) (v : Holder) (k : ℕ) → SoleIn g id v →
    Changed (place_of base v.spot) (place_of base v.spot + v.cells) m m' → Holds top base d n g m s → top ≤ k → k < base →
    cell m'.cells k ≡ cell m.cells k
assigned_same top base d n g m m' s id v k sole c h a b = c.others k (elim sole [
  | inl z ↦ (let r = (sole_within base base (base + d) g.locals id v h.locals_in z.0).0 in inl (omega arith))
  | inr z ↦ (let r = (sole_within base 0 top g.tops id v h.tops_in z.1).1 in inr (omega arith))
])

-- nor any cell of no variable in scope
pub assigned_spares : (top base d n : ℕ) (g : Scope) (m m' : Memory) (s : State) (id : ℕ) (v : Holder) → SoleIn g id v →
    Changed (place_of base v.spot) (place_of base v.spot + v.cells) m m' → Holds top base d n g m s → Spares top base d g m m'
assigned_spares top base d n g m m' s id v sole c h i a b o = c.others i (elim sole [
  | inl z ↦ outside_sole base g.locals id v i z.0 o
  | inr z ↦ (let r = (sole_within base 0 top g.tops id v h.tops_in z.1).1 in inr (omega arith))
])
