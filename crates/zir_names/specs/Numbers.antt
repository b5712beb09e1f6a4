-- Sets of numbers, as ascending lists without repeats.
use Rattle.std.specs.Prelude.{ℕ, Bool, false, ◌||◌, List, [], ◌∷◌, Option, Some, None, nat_eq, nat_lt, if◌then◌else◌}

-- A number put into its place, where it is not there yet.
abbrev pub add : ℕ → List ℕ → List ℕ
add n [] = n ∷ []
add n (m ∷ ms) = if nat_lt n m then n ∷ m ∷ ms else (if nat_eq n m then m ∷ ms else m ∷ add n ms)

-- The numbers of both.
abbrev pub union : List ℕ → List ℕ → List ℕ
union [] ms = ms
union (n ∷ ns) ms = add n (union ns ms)

-- Whether a number is one of these.
abbrev pub among : ℕ → List ℕ → Bool
among n [] = false
among n (m ∷ ms) = nat_eq n m || among n ms

-- Those that are among the others.
abbrev pub kept : List ℕ → List ℕ → List ℕ
kept others [] = []
kept others (n ∷ ns) = if among n others then n ∷ kept others ns else kept others ns

-- Those that are not among the others.
abbrev pub without : List ℕ → List ℕ → List ℕ
without others [] = []
without others (n ∷ ns) = if among n others then without others ns else n ∷ without others ns

-- The least, where there is one.
abbrev pub least : List ℕ → Option ℕ
least [] = None
least (n ∷ ns) = Some n
