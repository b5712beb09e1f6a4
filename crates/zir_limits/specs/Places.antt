-- Where the variable of a number stands first.
use Rattle.std.specs.Prelude.{ℕ, suc, List, [], ◌∷◌, nat_eq, if◌then◌else◌}
use Rattle.zir_types.specs.declared.scope.Seen.{Seen}

-- One more than the place of the first variable of a number, where so many stand before these, or 0.
abbrev pub place_from : ℕ → List Seen → ℕ → ℕ
place_from k [] id = 0
place_from k (v ∷ vs) id = if nat_eq v.id id then suc k else place_from (suc k) vs id
