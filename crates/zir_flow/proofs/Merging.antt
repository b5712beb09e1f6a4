-- Cells that the left side of a composition brings back: the variables that it assigns, over the cells of the right side.
use Rattle.std.proofs.Common.{◌≡◌, ◌∙◌, ◌+◌, ◌<◌, ◌≤◌, ◌^◌, ◌⊎◌, ℕ, zero, suc, ℤ, List, [], ◌∷◌, ◌++◌, Bool, true, false, if◌then◌else◌, nat_eq, length, take, ap, sym, subst, refl, arith, inl, inr}
use Rattle.std.proofs.lemmas.Bool.{eq-eqb}
use Rattle.std.proofs.lemmas.Bool.Decides.{eqb_tells}
use Rattle.zir_tree.specs.declared.value.Val.{Val}
use Rattle.zir_tree.specs.declared.value.Slot.{Slot}
use Rattle.zir_tree.specs.declared.types.StructDef.{StructDef}
use Rattle.zir_meaning.specs.Store.{Store, among, found_or, merge_slots}
use Rattle.zir_cells.specs.Cells.{cells_of}
use Rattle.zir_expr.specs.Memory.{cell_at, put_cell, after, place_of}
use Rattle.zir_expr.specs.Memory.Frames.{Memory}
use Rattle.zir_code.specs.declared.scope.Holder.{Holder}
use Rattle.zir_code.specs.Scopes.{Scope}
use Rattle.zir_shapes.specs.Shapes.{Shaped}
use Rattle.zir_code.specs.Holding.{At, HoldsOne, Hold, InOrder, Outside}
use Rattle.zir_code.specs.Fine.{Absent}
use Rattle.zir_code.proofs.Cells.{cell, at_moved}
use Rattle.zir_code.proofs.Kept.{order_ends, held_size, same_one, same_hold, Changed, changed_both, changed_cell, cell_written}
use Rattle.zir_code.proofs.Stores.{hold_other}
use Rattle.zir_code.proofs.Blank.{no_change}
use Rattle.zir_flow.specs.declared.instruction.Back.{Back}
use Rattle.zir_flow.specs.Threads.{cells_from, written}
use Rattle.zir_flow.specs.Stages.{brought_back}
use Rattle.zir_flow.specs.Flowing.{back_if, back_among, back_of}
use Rattle.zir_flow.specs.Fitting.{Distinct}
use Rattle.zir_flow.proofs.Straight.{locals_all}

-- CELLS OVER OTHERS

-- a memory has the cells of one from an index on and before another, and all others of a second one
pub record Over (low high : ℕ) (l r m : Memory) : Type 0 where
  pub inside : (i : ℕ) → low ≤ i → i < high → cell m.cells i ≡ cell l.cells i
  pub changed : Changed low high r m

low_or_higher : (i k : ℕ) → i ≤ k → (k ≡ i) ⊎ (i + 1 ≤ k)
low_or_higher i k le = grind arith

written_more : (n i : ℕ) (l r m : Memory) → i < length r.cells → Over (i + 1) (i + 1 + n) l (put_cell i (cell_at i l) r) m → Over i (i + suc n) l r m
written_more n i l r m lt o =
    let r1 : Memory = put_cell i (cell_at i l) r in
    let one : Changed i (i + 1) r r1 = changed_cell i (cell_at i l) r in
    record {
      inside = λ k a b. elim (low_or_higher i k a) [
        | inl e ↦ ap (cell m.cells) e ∙ o.changed.others i (inl (omega arith)) ∙ cell_written i (cell_at i l) r lt ∙ ap (cell l.cells) (sym e)
        | inr e ↦ o.inside k e (omega arith)
      ];
      changed = changed_both i (i + 1) (i + 1) (i + 1 + n) i (i + suc n) r r1 m (omega arith) (omega arith) (omega arith) (omega arith) one o.changed;
    }

-- cells of a memory are written over the same ones of another
pub written_over : (n i : ℕ) (l r : Memory) → i + n ≤ length r.cells → length r.cells < 2 ^ 63 → Over i (i + n) l r (written i (cells_from n i l) r)
written_over zero i l r le small = record { inside = λ k a b. absurd (omega arith); changed = no_change i (i + 0) r }
written_over (suc n) i l r le small =
    let r1 : Memory = put_cell i (cell_at i l) r in
    let size : length r1.cells ≡ length r.cells = (changed_cell i (cell_at i l) r).size in
    let e : after i ≡ i + 1 = omega arith in
    written_more n i l r (written (after i) (cells_from n (after i) l) r1) (omega arith)
    (subst (λ q. Over q (q + n) l r1 (written (after i) (cells_from n (after i) l) r1)) e (written_over n (after i) l r1 (omega arith) (omega arith)))

-- VARIABLES

-- all that come later are brought back behind these
brought_append : (xs ys : List Back) (base : ℕ) (l r : Memory) → brought_back (xs ++ ys) base l r ≡ brought_back ys base l (brought_back xs base l r)
brought_append [] ys base l r = refl
brought_append (b ∷ xs) ys base l r = brought_append xs ys base l (written (place_of base b.at) (cells_from b.cells (place_of base b.at) l) r)

pub outside_below : (base low high i : ℕ) (ds : List Holder) → InOrder base low high ds → i < low → Outside base ds i
outside_below base low high i [] o h = tt
outside_below base low high i (d ∷ ds) o h =
    let a = o.0 in (inl (omega arith), outside_below base (place_of base d.spot + d.cells) high i ds o.1 (omega arith))

pub outside_above : (base low high i : ℕ) (ds : List Holder) → InOrder base low high ds → high ≤ i → Outside base ds i
outside_above base low high i [] o h = tt
outside_above base low high i (d ∷ ds) o h =
    let e = order_ends base (place_of base d.spot + d.cells) high ds o.1 in
    (inr (omega arith), outside_above base (place_of base d.spot + d.cells) high i ds o.1 h)

-- among all variables each of these is found
abbrev pub AllFound : List Slot → List Slot → Type 0
AllFound all [] = Unit {0}
AllFound all (s ∷ slots) = ((v : Val) → found_or v all s.id ≡ s.value) × AllFound all slots

found_later : (b : Bool) (s : Slot) (v : Val) → b ≡ false → (if b then s.value else v) ≡ v
found_later true s v e = cc
found_later false s v e = refl

found_here : (b : Bool) (s : Slot) (v : Val) → b ≡ true → (if b then s.value else v) ≡ s.value
found_here true s v e = refl
found_here false s v e = cc

differs : (a b : ℕ) → nat_eq a b ≡ false → nat_eq b a ≡ false
differs a b e = elim (eqb_tells b a) [
  | inl h ↦ (let f : nat_eq a b ≡ true = eq-eqb a b (sym h.1) in cc)
  | inr h ↦ h.0
]

found_more : (structs : List StructDef) (cells : List ℤ) (base : ℕ) (ds : List Holder) (slots all : List Slot) (s : Slot) →
    Hold structs cells base ds slots → Absent ds s.id → AllFound all slots → AllFound (s ∷ all) slots
found_more structs cells base [] [] all s h a f = tt
found_more structs cells base [] (t ∷ slots) all s h a f = absurd h
found_more structs cells base (d ∷ ds) [] all s h a f = absurd h
found_more structs cells base (d ∷ ds) (t ∷ slots) all s h a f = (
  λ v. found_later (nat_eq s.id t.id) s (found_or v all t.id) (differs t.id s.id (subst (λ i. nat_eq i s.id ≡ false) h.0.id a.0)) ∙ f.0 v,
  found_more structs cells base ds slots all s h.1 a.1 f.1,
)

-- the first variables of a store whose numbers are distinct
pub all_found : (structs : List StructDef) (cells : List ℤ) (base : ℕ) (ds : List Holder) (all : List Slot) → Distinct ds →
    Hold structs cells base ds (take (length ds) all) → AllFound all (take (length ds) all)
all_found structs cells base [] all a h = tt
all_found structs cells base (d ∷ ds) [] a h = absurd h
all_found structs cells base (d ∷ ds) (s ∷ all) a h = (
  λ v. found_here (nat_eq s.id s.id) s (found_or v all s.id) (eq-eqb s.id s.id refl),
  found_more structs cells base ds (take (length ds) all) all s h.1 (subst (Absent ds) h.0.id a.0) (all_found structs cells base ds all a.1 h.1),
)

pub take_merge : (k : ℕ) (ids : List ℕ) (left right : List Slot) → take k (merge_slots ids left right) ≡ merge_slots ids left (take k right)
take_merge zero ids left right = refl
take_merge (suc k) ids left [] = refl
take_merge (suc k) ids left (s ∷ right) =
    ap (λ xs. (if among ids s.id then record s { value = found_or s.value left s.id } else s) ∷ xs) (take_merge k ids left right)

-- what one variable comes to, of the left side if it is brought back
abbrev either_slot : Bool → Val → Slot → Slot
either_slot b v s = if b then record s { value = v } else s

record One (structs : List StructDef) (base : ℕ) (d : Holder) (b : Bool) (v : Val) (t : Slot) (r m : Memory) : Type 0 where
  pub held : HoldsOne structs m.cells base d (either_slot b v t)
  pub changed : Changed (place_of base d.spot) (place_of base d.spot + d.cells) r m

one_brought : (b : Bool) (structs : List StructDef) (base : ℕ) (d : Holder) (s t : Slot) (v : Val) (l r : Memory) → HoldsOne structs l.cells base d s →
    HoldsOne structs r.cells base d t → v ≡ s.value → place_of base d.spot + d.cells ≤ length r.cells → length r.cells < 2 ^ 63 →
    One structs base d b v t r (brought_back (back_if b d) base l r)
one_brought true structs base d s t v l r hl hr e le small =
    let p : ℕ = place_of base d.spot in
    let m : Memory = written p (cells_from d.cells p l) r in
    let o = written_over d.cells p l r le small in
    let n = held_size structs l.cells base d s hl in
    let size = o.changed.size in
    record {
      held = record {
        id = hr.id;
        cells = subst (λ x. At m.cells p (cells_of x)) (sym e)
            (at_moved l.cells m.cells p p (cells_of s.value) (omega arith) (λ k h. o.inside (p + k) (omega arith) (omega arith)) hl.cells);
        shape = subst (Shaped structs d.ty) (sym e) hl.shape;
        size = hl.size;
      };
      changed = o.changed;
    }
one_brought false structs base d s t v l r hl hr e le small =
    record { held = hr; changed = no_change (place_of base d.spot) (place_of base d.spot + d.cells) r }

-- variables in the right side's cells with those of the left side that are brought back
pub record Merged (structs : List StructDef) (base : ℕ) (ds : List Holder) (slots : List Slot) (r m : Memory) : Type 0 where
  pub held : Hold structs m.cells base ds slots
  pub others : (i : ℕ) → Outside base ds i → cell m.cells i ≡ cell r.cells i
  pub size : length m.cells ≡ length r.cells

merged_more : (structs : List StructDef) (base low high : ℕ) (d : Holder) (ds : List Holder) (b : Bool) (v : Val) (t : Slot) (slots : List Slot)
    (r r1 m : Memory) → InOrder base low high (d ∷ ds) → One structs base d b v t r r1 → Merged structs base ds slots r1 m →
    Merged structs base (d ∷ ds) (either_slot b v t ∷ slots) r m
merged_more structs base low high d ds b v t slots r r1 m o x y =
    let p : ℕ = place_of base d.spot in
    record {
      held = (
        same_one structs r1.cells m.cells base p (p + d.cells) d (either_slot b v t) y.size
            (λ i a h. y.others i (outside_below base (p + d.cells) high i ds o.1 h)) (omega arith) (omega arith) x.held,
        y.held,
      );
      others = λ i h. y.others i h.1 ∙ x.changed.others i h.0;
      size = y.size ∙ x.changed.size;
    }

-- the variables of these numbers are brought back
pub brings : (structs : List StructDef) (ids : List ℕ) (base low high : ℕ) (ds : List Holder) (ls rs all : List Slot) (l r : Memory) →
    InOrder base low high ds → Hold structs l.cells base ds ls → Hold structs r.cells base ds rs → AllFound all ls → high ≤ length r.cells →
    length r.cells < 2 ^ 63 → Merged structs base ds (merge_slots ids all rs) r (brought_back (back_among ids ds) base l r)
brings structs ids base low high [] [] [] all l r o hl hr f le small = record { held = tt; others = λ i h. refl; size = refl }
brings structs ids base low high [] (s ∷ ls) rs all l r o hl hr f le small = absurd hl
brings structs ids base low high [] [] (t ∷ rs) all l r o hl hr f le small = absurd hr
brings structs ids base low high (d ∷ ds) [] rs all l r o hl hr f le small = absurd hl
brings structs ids base low high (d ∷ ds) (s ∷ ls) [] all l r o hl hr f le small = absurd hr
brings structs ids base low high (d ∷ ds) (s ∷ ls) (t ∷ rs) all l r o hl hr f le small =
    let p : ℕ = place_of base d.spot in
    let b : Bool = among ids d.id in
    let v : Val = found_or t.value all t.id in
    let end = order_ends base (p + d.cells) high ds o.1 in
    let same : t.id ≡ s.id = sym hr.0.id ∙ hl.0.id in
    let is : v ≡ s.value = ap (λ k. found_or t.value all k) same ∙ f.0 t.value in
    let r1 : Memory = brought_back (back_if b d) base l r in
    let one : One structs base d b v t r r1 = one_brought b structs base d s t v l r hl.0 hr.0 is (omega arith) small in
    let size = one.changed.size in
    let rest : Merged structs base ds (merge_slots ids all rs) r1 (brought_back (back_among ids ds) base l r1) =
    brings structs ids base (p + d.cells) high ds ls rs all l r1 o.1 hl.1
    (hold_other structs base (p + d.cells) high p (p + d.cells) r r1 ds rs one.changed (inr (omega arith)) o.1 hr.1) f.1 (omega arith) (omega arith) in
    let m : Memory = brought_back (back_among ids ds) base l r1 in
    let whole : Merged structs base (d ∷ ds) (either_slot b v t ∷ merge_slots ids all rs) r m =
    merged_more structs base low high d ds b v t (merge_slots ids all rs) r r1 m o one rest in
    subst (λ x. Merged structs base (d ∷ ds) (merge_slots ids all (t ∷ rs)) r x) (sym (brought_append (back_if b d) (back_among ids ds) base l r))
    (subst (λ c. Merged structs base (d ∷ ds) (either_slot c v t ∷ merge_slots ids all rs) r m) (ap (among ids) hr.0.id) whole)

-- WHAT IS IN SCOPE

-- the variables in scope in the right side's cells with those of the left side that are brought back
pub record Joins (base : ℕ) (g : Scope) (ts ls : List Slot) (r m : Memory) : Type 0 where
  pub tops : Hold g.structs m.cells base g.tops ts
  pub locals : Hold g.structs m.cells base g.locals ls
  pub others : (i : ℕ) → Outside base g.tops i → Outside base g.locals i → cell m.cells i ≡ cell r.cells i
  pub size : length m.cells ≡ length r.cells

-- all variables in scope that have these numbers are brought back
pub joins : (ids : List ℕ) (top base d : ℕ) (g : Scope) (sl : Store) (tops locals : List Slot) (l r : Memory) → InOrder base 0 top g.tops →
    InOrder base base (base + d) g.locals → top ≤ base → Distinct g.tops → Distinct g.locals → Hold g.structs l.cells base g.tops sl.tops →
    Hold g.structs l.cells base g.locals (take (length g.locals) sl.locals) → Hold g.structs r.cells base g.tops tops →
    Hold g.structs r.cells base g.locals locals → base + d ≤ length r.cells → length r.cells < 2 ^ 63 →
    Joins base g (merge_slots ids sl.tops tops) (merge_slots ids sl.locals locals) r (brought_back (back_of ids g) base l r)
joins ids top base d g sl tops locals l r ot ol apart dt dl lt ll rt rl le small =
    let all : take (length g.tops) sl.tops ≡ sl.tops = locals_all g.structs l.cells base g.tops sl.tops lt in
    let found : AllFound sl.tops sl.tops = subst (AllFound sl.tops) all
    (all_found g.structs l.cells base g.tops sl.tops dt (subst (Hold g.structs l.cells base g.tops) (sym all) lt)) in
    let r1 : Memory = brought_back (back_among ids g.tops) base l r in
    let m : Memory = brought_back (back_among ids g.locals) base l r1 in
    let first = brings g.structs ids base 0 top g.tops sl.tops tops sl.tops l r ot lt rt found (omega arith) small in
    let size = first.size in
    let held : Hold g.structs r1.cells base g.locals locals =
    same_hold g.structs r.cells r1.cells base base (base + d) g.locals locals first.size
    (λ i a h. first.others i (outside_above base 0 top i g.tops ot (omega arith))) ol rl in
    let second = brings g.structs ids base base (base + d) g.locals (take (length g.locals) sl.locals) locals sl.locals l r1 ol ll held
    (all_found g.structs l.cells base g.locals sl.locals dl ll) (omega arith) (omega arith) in
    subst (Joins base g (merge_slots ids sl.tops tops) (merge_slots ids sl.locals locals) r)
    (sym (brought_append (back_among ids g.tops) (back_among ids g.locals) base l r))
    (record {
      tops = same_hold g.structs r1.cells m.cells base 0 top g.tops (merge_slots ids sl.tops tops) second.size
          (λ i a h. second.others i (outside_below base base (base + d) i g.locals ol (omega arith))) ot first.held;
      locals = second.held;
      others = λ i a b. second.others i b ∙ first.others i a;
      size = second.size ∙ first.size;
    })
