-- Variables stay held in memory that changes elsewhere.
use Rattle.std.specs.Prelude.{ℕ, ℤ, ◌+◌, ◌<◌, ◌≤◌, List, [], ◌∷◌, ◌≡◌, ◌⊎◌, length}
use Rattle.std.proofs.Common.{◌∙◌, arith, inl, inr}
use Rattle.zir_tree.specs.declared.value.Slot.{Slot}
use Rattle.zir_tree.specs.declared.types.StructDef.{StructDef}
use Rattle.zir_meaning.specs.Trace.{State}
use Rattle.zir_expr.specs.Memory.{place_of}
use Rattle.zir_expr.specs.Memory.Frames.{Memory}
use Rattle.zir_code.specs.declared.scope.Holder.{Holder}
use Rattle.zir_code.specs.Scopes.{Scope}
use Rattle.zir_code.specs.Holding.{At, Hold, InOrder, Holds, Outside}
use Rattle.zir_code.proofs.Cells.{cell, at_same}
use Rattle.zir_code.proofs.Kept.{order_ends, same_one, Changed}
use Rattle.zir_code.proofs.Locating.{in_room}

-- an index is in the cells of one of these variables
abbrev pub Inside : ℕ → List Holder → ℕ → Type 0
Inside base [] i = ⊥
Inside base (d ∷ ds) i = ((place_of base d.spot ≤ i) × (i < place_of base d.spot + d.cells)) ⊎ Inside base ds i

-- not of one of them and of none
pub not_both : (base : ℕ) (ds : List Holder) (i : ℕ) → Inside base ds i → Outside base ds i → ⊥
not_both base [] i a o = a
not_both base (d ∷ ds) i a o = elim a [
  | inl h ↦ (let l = h.0 in let k = h.1 in elim o.0 [ inl b ↦ omega arith | inr b ↦ omega arith ])
  | inr h ↦ not_both base ds i h o.1
]

-- the cells of variables in order are between their ends
pub inside_order : (base low high : ℕ) (ds : List Holder) (i : ℕ) → InOrder base low high ds → Inside base ds i → (low ≤ i) × (i < high)
inside_order base low high [] i o a = absurd a
inside_order base low high (d ∷ ds) i o a =
    let l = o.0 in
    let e = order_ends base (place_of base d.spot + d.cells) high ds o.1 in
    elim a [
      | inl h ↦ (let p = h.0 in let k = h.1 in (omega arith, omega arith))
      | inr h ↦ (let r = inside_order base (place_of base d.spot + d.cells) high ds i o.1 h in let p = r.0 in (omega arith, r.1))
    ]

-- a cell before their first end or from their last end on is of none
pub outside_order : (base low high : ℕ) (ds : List Holder) (i : ℕ) → InOrder base low high ds → (i < low) ⊎ (high ≤ i) → Outside base ds i
outside_order base low high [] i o a = tt
outside_order base low high (d ∷ ds) i o a =
    let l = o.0 in
    let e = order_ends base (place_of base d.spot + d.cells) high ds o.1 in (
      elim a [ inl b ↦ inl (omega arith) | inr b ↦ inr (omega arith) ],
      outside_order base (place_of base d.spot + d.cells) high ds i o.1 (elim a [ inl b ↦ inl (omega arith) | inr b ↦ inr b ]),
    )

-- cells stay what they are where others change
pub at_other : (low high p : ℕ) (xs : List ℤ) (m m' : Memory) → Changed low high m m' → (p + length xs ≤ low) ⊎ (high ≤ p) → At m.cells p xs →
    At m'.cells p xs
at_other low high p xs m m' c out a = at_same m.cells m'.cells p (p + length xs) p xs c.size
    (λ i b e. c.others i (elim out [ inl l ↦ inl (omega arith) | inr l ↦ inr (omega arith) ])) (omega arith) (omega arith) a

-- variables are held where the cells of each of them are the same in other cells
pub hold_inside : (structs : List StructDef) (cells cells' : List ℤ) (base : ℕ) (ds : List Holder) (slots : List Slot) → length cells' ≡ length cells →
    ((i : ℕ) → Inside base ds i → cell cells' i ≡ cell cells i) → Hold structs cells base ds slots → Hold structs cells' base ds slots
hold_inside structs cells cells' base [] [] l same h = tt
hold_inside structs cells cells' base [] (s ∷ slots) l same h = absurd h
hold_inside structs cells cells' base (d ∷ ds) [] l same h = absurd h
hold_inside structs cells cells' base (d ∷ ds) (s ∷ slots) l same h = (
  same_one structs cells cells' base (place_of base d.spot) (place_of base d.spot + d.cells) d s l (λ i a b. same i (inl (a, b))) (omega arith)
      (omega arith) h.0,
  hold_inside structs cells cells' base ds slots l (λ i a. same i (inr a)) h.1,
)

-- what is in scope is held in memory whose cells of each variable are the same
pub holds_inside : (top base d n : ℕ) (g : Scope) (m m' : Memory) (s : State) →
    ((i : ℕ) → Inside base g.tops i → cell m'.cells i ≡ cell m.cells i) → ((i : ℕ) → Inside base g.locals i → cell m'.cells i ≡ cell m.cells i) →
    length m'.cells ≡ length m.cells → m'.used ≡ m.used → m'.limit ≡ m.limit → Holds top base d n g m s → Holds top base d n g m' s
holds_inside top base d n g m m' s tops locals size used limit h = record {
  tops = hold_inside g.structs m.cells m'.cells base g.tops s.store.tops size tops h.tops;
  locals = hold_inside g.structs m.cells m'.cells base g.locals s.store.locals size locals h.locals;
  tops_in = h.tops_in;
  locals_in = h.locals_in;
  used = used ∙ h.used;
  limit = limit ∙ h.limit;
  apart = h.apart;
  room = rw size h.room;
  small = rw size h.small;
}

-- and where cells from top on are others that belong to no variable of the body
pub holds_spare : (top base d low high n : ℕ) (g : Scope) (m m' : Memory) (s : State) → top ≤ low →
    ((i : ℕ) → low ≤ i → i < high → Outside base g.locals i) → Changed low high m m' → Holds top base d n g m s → Holds top base d n g m' s
holds_spare top base d low high n g m m' s after spare c h = holds_inside top base d n g m m' s
    (λ i a. c.others i (inl (let r = (inside_order base 0 top g.tops i h.tops_in a).1 in omega arith)))
    (λ i a. c.others i (elsewhere i a (in_room i low) (in_room i high))) c.size c.used c.limit h where
      elsewhere : (i : ℕ) → Inside base g.locals i → (i < low) ⊎ (low ≤ i) → (i < high) ⊎ (high ≤ i) → (i < low) ⊎ (high ≤ i)
      elsewhere i a (inl lt) q = inl lt
      elsewhere i a (inr ge) (inr end) = inr end
      elsewhere i a (inr ge) (inl lt) = absurd (not_both base g.locals i a (spare i ge lt))

-- and where cells from base + d on are others
pub holds_past : (top base d low high n : ℕ) (g : Scope) (m m' : Memory) (s : State) → base + d ≤ low → Changed low high m m' →
    Holds top base d n g m s → Holds top base d n g m' s
holds_past top base d low high n g m m' s le c h =
    let apart = h.apart in
    holds_spare top base d low high n g m m' s (omega arith)
    (λ i a b. outside_order base base (base + d) g.locals i h.locals_in (inr (omega arith))) c h
