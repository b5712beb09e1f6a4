-- Tables by number: the latest entry of a number is the one that counts.
use Rattle.std.specs.Prelude.{ℕ, suc, List, [], ◌∷◌, Option, Some, None, length, nat_eq, if◌then◌else◌, slice_index_or}
use Rattle.zir_names.specs.Touched.{Touched, Called, untouched}

-- Where a number came last, from the first on, in numbers that stand latest first.
abbrev pub last_place : List ℕ → ℕ → Option ℕ
last_place [] n = None
last_place (m ∷ ms) n = if nat_eq m n then Some (length ms) else last_place ms n

-- A place as one number: 0 where there is none.
abbrev pub place_code : Option ℕ → ℕ
place_code None = 0
place_code (Some at) = suc at

-- Functions by their numbers, latest first, with what calls of them touch in the order in which they came.
abbrev pub called_of : List ℕ → List Touched → List Called
called_of [] ts = []
called_of (n ∷ ns) ts = record { id = n; touched = slice_index_or ts (length ns) untouched } ∷ called_of ns ts

-- Whether a call's touches stand in a list at the place where its number came last.
abbrev pub touched_at : List Touched → Option ℕ → Touched
touched_at ts None = untouched
touched_at ts (Some at) = slice_index_or ts at untouched
