-- Where a number comes first in a list.
use Rattle.std.specs.Prelude.{◌≡◌, ℕ, suc, List, [], ◌∷◌, Option, Some, None, nat_eq, slice_get, if◌then◌else◌}

-- The place of the first of these numbers that is this one, where so many stand before them.
abbrev pub place_from : ℕ → List ℕ → ℕ → Option ℕ
place_from n [] id = None
place_from n (x ∷ xs) id = if nat_eq x id then Some n else place_from (suc n) xs id

-- A place, if this number stands there.
abbrev pub if_there : ℕ → ℕ → Option ℕ → Option ℕ
if_there id place None = None
if_there id place (Some x) = if nat_eq x id then Some place else None

-- The place that is noted of a number, if the number stands there.
abbrev pub noted : List ℕ → ℕ → Option ℕ → Option ℕ
noted xs id None = None
noted xs id (Some place) = if_there id place (slice_get xs place)

-- These notes tell the first place of each number, and of each number that is not there that it is not.
abbrev pub AreNoted : List ℕ → (ℕ → Option ℕ) → Type 0
AreNoted xs notes = (id : ℕ) → place_from 0 xs id ≡ noted xs id (notes id)
