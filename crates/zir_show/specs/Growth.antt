-- How a text grows.
use Rattle.std.specs.Prelude.{◌≡◌, ℕ, zero, suc, List, [], ◌∷◌, ◌++◌}
use Rattle.zir_lex.specs.declared.token.Token.{Token}
use Rattle.zir_print.specs.Text.{spaced}

-- a text grew by these tokens, with a space before each
pub record Adds (old new : List ℕ) (ts : List Token) : Type 0 where
  pub is : new ≡ old ++ spaced ts

-- the token before a part with this index, where one stands between each two parts
abbrev pub sign_before : ℕ → Token → List Token
sign_before zero between = []
sign_before (suc n) between = between ∷ []
