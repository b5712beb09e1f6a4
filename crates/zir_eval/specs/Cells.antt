-- Cells that are copied into a frame and out of it.
use Rattle.std.specs.Prelude.{ℕ, ℤ, pos, ◌+◌, ◌%◌, ◌^◌, ◌<◌, List, [], ◌∷◌, ◌≡◌, length, slice_index_or}
use Rattle.zir_expr.specs.Memory.{cell_at, put_cell, after}
use Rattle.zir_expr.specs.Memory.Frames.{Memory}

-- these are the cells from an index on
abbrev pub AreAt : Memory → ℕ → List ℤ → Type 0
AreAt m i xs = (k : ℕ) → k < length xs → slice_index_or xs k (pos 0) ≡ cell_at ((i + k) % 2 ^ 64) m

-- cells from an index on become these
abbrev pub put_all : ℕ → List ℤ → Memory → Memory
put_all i [] m = m
put_all i (x ∷ xs) m = put_all (after i) xs (put_cell i x m)
