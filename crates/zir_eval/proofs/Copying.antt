-- Cells that are copied into a frame and out of it.
use Rattle.std.specs.Prelude.{ℕ, suc, ℤ, pos, ◌+◌, ◌<◌, ◌≤◌, ◌^◌, List, [], ◌∷◌, ◌≡◌, refl, length, slice_index_or}
use Rattle.std.proofs.Common.{ap, sym, subst, inl, ◌∙◌, arith}
use Rattle.zir_expr.specs.Memory.{cell_at, put_cell, after}
use Rattle.zir_expr.specs.Memory.Frames.{Memory}
use Rattle.zir_code.specs.Holding.{At}
use Rattle.zir_code.proofs.Kept.{Changed, changed_both, changed_cell, cell_written}
use Rattle.zir_eval.specs.Cells.{put_all}

-- cells that stand somewhere and are read there
pub same_cells : (m : Memory) (p : ℕ) (xs new : List ℤ) → length xs ≡ length new → At m.cells p xs →
    ((k : ℕ) → k < length new → slice_index_or new k (pos 0) ≡ cell_at (p + k) m) → xs ≡ new
same_cells m p [] [] l a r = refl
same_cells m p [] (y ∷ new) l a r = absurd (omega (arith, l))
same_cells m p (x ∷ xs) [] l a r = absurd (omega (arith, l))
same_cells m p (x ∷ xs) (y ∷ new) l a r =
    let here : p + 0 ≡ p = omega arith in
    let head : x ≡ y = sym (r 0 (omega arith) ∙ ap (λ i. cell_at i m) here ∙ a.1) in
    let rest : xs ≡ new = same_cells m (p + 1) xs new (omega (arith, l)) a.2
    (λ k lt. r (suc k) (omega arith) ∙ ap (λ i. cell_at i m) (let e : p + suc k ≡ p + 1 + k = omega arith in e)) in
    ap (λ z. z ∷ xs) head ∙ ap (λ zs. y ∷ zs) rest

next_place : (p : ℕ) → p + 1 < 2 ^ 64 → after p ≡ p + 1
next_place p h = omega arith

-- no others change
pub put_changed : (p : ℕ) (xs : List ℤ) (m : Memory) → p + length xs < 2 ^ 64 → Changed p (p + length xs) m (put_all p xs m)
put_changed p [] m h = record { others = λ i o. refl; size = refl; used = refl; limit = refl }
put_changed p (x ∷ xs) m h =
    let e : after p ≡ p + 1 = next_place p (omega arith) in
    let rest : Changed (p + 1) (p + 1 + length xs) (put_cell p x m) (put_all (after p) xs (put_cell p x m)) =
    subst (λ q. Changed (p + 1) (p + 1 + length xs) (put_cell p x m) (put_all q xs (put_cell p x m))) (sym e)
    (put_changed (p + 1) xs (put_cell p x m) (omega arith)) in
    changed_both p (p + 1) (p + 1) (p + 1 + length xs) p (p + suc (length xs)) m (put_cell p x m) (put_all (after p) xs (put_cell p x m))
    (omega arith) (omega arith) (omega arith) (omega arith) (changed_cell p x m) rest

-- and they stand there
pub put_stands : (p : ℕ) (xs : List ℤ) (m : Memory) → p + length xs < 2 ^ 64 → p + length xs ≤ length m.cells → At (put_all p xs m).cells p xs
put_stands p [] m h le = tt
put_stands p (x ∷ xs) m h le =
    let e : after p ≡ p + 1 = next_place p (omega arith) in
    let m1 = put_cell p x m in
    let size1 : length m1.cells ≡ length m.cells = (changed_cell p x m).size in
    let m2 = put_all (p + 1) xs m1 in
    let c : Changed (p + 1) (p + 1 + length xs) m1 m2 = put_changed (p + 1) xs m1 (omega arith) in
    let size2 : length m2.cells ≡ length m1.cells = c.size in
    let there : At m2.cells p (x ∷ xs) = (
      omega (arith, size1, size2),
      c.others p (inl (omega arith)) ∙ cell_written p x m (omega arith),
      put_stands (p + 1) xs m1 (omega arith) (omega (arith, size1)),
    ) in
    subst (λ q. At (put_all q xs m1).cells p (x ∷ xs)) (sym e) there
