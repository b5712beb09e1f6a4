-- A text has one reading: its tokens, or its first fault.
use Rattle.std.specs.Prelude.{◌≡◌, ℕ, List}
use Rattle.zir_lex.specs.Tokens.{Lexes, EndsAt, BadByteAt, BadNumberAt}
use Rattle.zir_lex.specs.declared.token.Token.{Token}
use Rattle.zir_tree.specs.declared.place.Place.{Place}

-- a text has at most one list of tokens
abbrev pub HasOneList : Type 0
HasOneList = (text : List ℕ) (a b : List Token) → Lexes text a → Lexes text b → a ≡ b

-- the last token of a text ends at one place
abbrev pub HasOneEnd : Type 0
HasOneEnd = (text : List ℕ) (a b : Place) → EndsAt text a → EndsAt text b → a ≡ b

-- a text with tokens has no fault
abbrev pub HasNoFault : Type 0
HasNoFault = (text : List ℕ) (tokens : List Token) (at : ℕ) → Lexes text tokens → (BadByteAt text at → ⊥) × (BadNumberAt text at → ⊥)

-- a text has at most one fault
abbrev pub HasOneFault : Type 0
HasOneFault = (text : List ℕ) (a b : ℕ) → (BadByteAt text a → BadByteAt text b → a ≡ b) × (BadNumberAt text a → BadNumberAt text b → a ≡ b) × (BadByteAt text a → BadNumberAt text b → ⊥)
