-- The place of a token by its number.
use Rattle.std.proofs.Common.{◌≡◌, ℕ, zero, suc, ◌<◌, ◌≤◌, List, [], ◌∷◌, length, get_or, ap, sym, refl, arith}
use Rattle.zir_tree.specs.declared.place.Place.{Place}
use Rattle.zir_lex.specs.declared.token.Token.{Token}
use Rattle.zir_read.specs.Reading.{token_place}

-- where there is such a token
pub place_of_token : (ts : List Token) (end : Place) (n : ℕ) (t : Token) → n < length ts → t ≡ get_or ts n t → token_place ts end n ≡ t.at
place_of_token [] end n t below is = absurd (omega arith)
place_of_token (u ∷ ts) end zero t below is = ap (λ (v : Token). v.at) (sym is)
place_of_token (u ∷ ts) end (suc n) t below is = place_of_token ts end n t (omega arith) is

-- where there is none
pub place_behind : (ts : List Token) (end : Place) (n : ℕ) → length ts ≤ n → token_place ts end n ≡ end
place_behind [] end n above = refl
place_behind (u ∷ ts) end zero above = absurd (omega arith)
place_behind (u ∷ ts) end (suc n) above = place_behind ts end n (omega arith)
