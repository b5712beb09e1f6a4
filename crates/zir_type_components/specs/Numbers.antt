-- `fun comp`s by their numbers.
use Rattle.std.specs.Prelude.{ℕ, List, [], ◌∷◌, Bool, true, ◌&&◌, Option, Some, None, nat_eq, nat_lt, if◌then◌else◌}
use Rattle.zir_types.specs.Programs.{Prepared}

-- A `fun comp`, and those before it.
pub record Split : Type 0 where
  pub item : Prepared
  pub before : List Prepared

-- The `fun comp` of this number, where the list begins with the last one.
abbrev pub found : List Prepared → ℕ → Option Split
found [] id = None
found (d ∷ ds) id = if nat_eq d.id id then Some (record { item = d; before = ds }) else found ds id

-- Whether the first of these has a lesser number.
abbrev pub head_below : ℕ → List Prepared → Bool
head_below n [] = true
head_below n (d ∷ ds) = nat_lt d.id n

-- Whether the numbers of these fall.
abbrev pub falling : List Prepared → Bool
falling [] = true
falling (d ∷ ds) = head_below d.id ds && falling ds
