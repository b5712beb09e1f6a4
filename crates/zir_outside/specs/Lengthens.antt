-- What an append does to the texts of a shelf.
use Rattle.std.specs.Prelude.{ℕ, ◌≡◌, ◌≢◌, ◌⊎◌, List, [], ◌++◌, Option, Some, None, Result, Ok, Err}
use Rattle.std.specs.Option.{unwrap_or}
use Rattle.zir_outside.specs.Loads.{Texts}

-- the text of this name grew by a piece, from no bytes where there was none, and the other texts stay
pub record LongerBy (old new : List ℕ → Option (List ℕ)) (name piece : List ℕ) : Type 0 where
  pub text : new name ≡ Some (unwrap_or (old name) [] ++ piece)
  pub others : (other : List ℕ) → other ≢ name → new other ≡ old other

-- no text changed, or the text of this name grew by a front part of the piece and the other texts stay
abbrev pub LongerByPart : (List ℕ → Option (List ℕ)) → (List ℕ → Option (List ℕ)) → List ℕ → List ℕ → Type 0
LongerByPart old new name piece = (new ≡ old) ⊎ ((front : List ℕ) × (rest : List ℕ) × (piece ≡ front ++ rest) × LongerBy old new name front)

-- what an append answers and leaves, where the texts are told and where they are not
abbrev pub Lengthens : {T E : Type 0} → Texts → Texts → List ℕ → List ℕ → Result T E → Type 0
Lengthens None now name piece result = now ≡ None
Lengthens (Some old) None name piece result = ⊥
Lengthens (Some old) (Some new) name piece (Ok u) = LongerBy old new name piece
Lengthens (Some old) (Some new) name piece (Err e) = LongerByPart old new name piece
