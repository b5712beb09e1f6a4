-- Cells that become 0: the first, and the others each from the one before it.
use Rattle.std.specs.Prelude.{ℕ, zero, suc, ℤ, pos, ◌+◌, ◌<◌, ◌≤◌, ◌^◌, List, ◌≡◌, refl, length}
use Rattle.std.proofs.Common.{ap, ◌∙◌, sym, subst, arith, inl, inr}
use Rattle.zir_shapes.specs.Offsets.{zeros}
use Rattle.zir_expr.specs.Memory.{Done, put_cell, after, moved, from_base}
use Rattle.zir_expr.specs.Memory.Frames.{Memory}
use Rattle.zir_expr.specs.Running.{go_all}
use Rattle.zir_code.specs.Holding.{At}
use Rattle.zir_code.specs.Statements.{blank_code}
use Rattle.zir_code.proofs.Cells.{cell}
use Rattle.zir_code.proofs.Kept.{low_place, Changed, changed_cell, changed_both, cell_written}
use Rattle.zir_code.proofs.Moves.{low_after, first_or_later, Goes}

-- so many cells of 0
zeros_at : (n p : ℕ) (cells : List ℤ) → ((k : ℕ) → k < n → cell cells (p + k) ≡ pos 0) → p + n ≤ length cells → At cells p (zeros n)
zeros_at zero p cells h le = tt
zeros_at (suc n) p cells h le = (
  omega arith,
  ap (cell cells) (let e : p ≡ p + 0 = omega arith in e) ∙ h 0 (omega arith),
  zeros_at n (p + 1) cells (λ k lt. ap (cell cells) (let e : p + 1 + k ≡ p + suc k = omega arith in e) ∙ h (suc k) (omega arith)) (omega arith),
)

-- a cell has been copied to so many behind it
record Spread (n p : ℕ) (x : ℤ) (m m' : Memory) : Type 0 where
  pub filled : (k : ℕ) → k ≤ n → cell m'.cells (p + k) ≡ x
  pub changed : Changed p (p + 1 + n) m m'

pub no_change : (low high : ℕ) (m : Memory) → Changed low high m m
no_change low high m = record { others = λ i o. refl; size = refl; used = refl; limit = refl }

-- one cell, and then the others from it
one_more_spread : (n p : ℕ) (x : ℤ) (m m' : Memory) → cell m.cells p ≡ x → p + 1 < length m.cells → Spread n (p + 1) x (put_cell (p + 1) x m) m' →
    Spread (suc n) p x m m'
one_more_spread n p x m m' here lt r =
    let m1 : Memory = put_cell (p + 1) x m in
    let one : Changed (p + 1) (p + 1 + 1) m m1 = changed_cell (p + 1) x m in
    record {
      filled = λ k le. elim (first_or_later k) [
        | inl e ↦ ap (cell m'.cells) (let z : p + k ≡ p = omega arith in z) ∙ r.changed.others p (inl (omega arith))
            ∙ one.others p (inl (omega arith)) ∙ here
        | inr e ↦ (let a : k ≡ suc e.0 = e.1 in ap (cell m'.cells) (let z : p + k ≡ p + 1 + e.0 = omega arith in z) ∙ r.filled e.0 (omega arith))
      ];
      changed = changed_both (p + 1) (p + 1) (p + 1 + 1) (p + 1 + 1 + n) p (p + 1 + suc n) m m1 m' (omega arith) (omega arith) (omega arith)
          (omega arith) one r.changed;
    }

-- a move of cells to those one behind them
spreads : (n p : ℕ) (x : ℤ) (m : Memory) → cell m.cells p ≡ x → p + n < length m.cells → length m.cells < 2 ^ 63 →
    Spread n p x m (moved n (p + 1) p m)
spreads zero p x m here lt small = record {
  filled = λ k le. ap (cell m.cells) (let z : p + k ≡ p = omega arith in z)
      ∙ here;
  changed = no_change p (p + 1 + 0) m;
}
spreads (suc n) p x m here lt small =
    let m1 : Memory = put_cell (p + 1) x m in
    let size : length m1.cells ≡ length m.cells = (changed_cell (p + 1) x m).size in
    let e : after (p + 1) ≡ p + 1 + 1 = low_after (p + 1) (omega arith) in
    let f : after p ≡ p + 1 = low_after p (omega arith) in
    subst (λ y. Spread (suc n) p x m (moved n (after (p + 1)) (after p) (put_cell (p + 1) y m))) (sym here)
    (subst (λ q. Spread (suc n) p x m (moved n q (after p) m1)) (sym e)
    (subst (λ q. Spread (suc n) p x m (moved n (p + 1 + 1) q m1)) (sym f)
    (one_more_spread n p x m (moved n (p + 1 + 1) (p + 1) m1) here (omega arith)
    (spreads n (p + 1) x m1 (cell_written (p + 1) x m (omega arith)) (omega arith) (omega arith)))))

-- so many cells from an index on are 0, and no others have changed
pub record Blanked (p n : ℕ) (m m' : Memory) : Type 0 where
  pub cells : At m'.cells p (zeros n)
  pub changed : Changed p (p + n) m m'

-- cells become 0
pub blanks_go : (n base d : ℕ) (m : Memory) → base + d + n ≤ length m.cells → length m.cells < 2 ^ 63 →
    Goes (Blanked (base + d) n m) (go_all (blank_code d n) base m)
blanks_go zero base d m room small = record { memory = m; is = refl; so = record { cells = tt; changed = no_change (base + d) (base + d + 0) m } }
blanks_go (suc zero) base d m room small =
    let p : ℕ = base + d in
    let e : from_base base d ≡ p = low_place base d (omega arith) in
    let m' : Memory = put_cell p (pos 0) m in
    let c : Changed p (p + 1) m m' = changed_cell p (pos 0) m in
    let size = c.size in
    record {
      memory = m';
      is = ap (λ q. Done (put_cell q (pos 0) m)) e;
      so = record { cells = (omega arith, cell_written p (pos 0) m (omega arith), tt); changed = c };
    }
blanks_go (suc (suc n)) base d m room small =
    let p : ℕ = base + d in
    let e : from_base base d ≡ p = low_place base d (omega arith) in
    let f : from_base base (d + 1) ≡ p + 1 = low_place base (d + 1) (omega arith) ∙ (let z : base + (d + 1) ≡ p + 1 = omega arith in z) in
    let m1 : Memory = put_cell p (pos 0) m in
    let c : Changed p (p + 1) m m1 = changed_cell p (pos 0) m in
    let size = c.size in
    let m' : Memory = moved (suc n) (p + 1) p m1 in
    let s : Spread (suc n) p (pos 0) m1 m' = spreads (suc n) p (pos 0) m1 (cell_written p (pos 0) m (omega arith)) (omega arith) (omega arith) in
    let size' = s.changed.size in
    record {
      memory = m';
      is = ap (λ q. Done (moved (suc n) (from_base base (d + 1)) q (put_cell q (pos 0) m))) e ∙ ap (λ q. Done (moved (suc n) q p m1)) f;
      so = record {
        cells = zeros_at (suc (suc n)) p m'.cells (λ k lt. s.filled k (omega arith)) (omega arith);
        changed = changed_both p p (p + 1) (p + 1 + suc n) p (p + suc (suc n)) m m1 m' (omega arith) (omega arith) (omega arith)
            (omega arith) c s.changed;
      };
    }
