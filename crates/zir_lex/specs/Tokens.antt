-- The tokens of a text, and its first fault.
use Rattle.std.specs.Prelude.{◌≡◌, ◌≢◌, ℕ, ◌≤◌, ◌<◌, ◌^◌, ◌⊎◌, List, [], ◌∷◌, ◌++◌, length, IsTrue, IsFalse}
use Rattle.zir_lex.specs.Classes.{begins_word}
use Rattle.zir_lex.specs.Spelling.{Piece, White, Comment, Word, piece_bytes, IsPiece, text_of}
use Rattle.zir_lex.specs.Places.{place_past, first_place}
use Rattle.zir_lex.specs.declared.lexer.LexError.{LexError}
use Rattle.zir_lex.specs.declared.lexer.LexError.TheVariants as errors
use Rattle.zir_lex.specs.declared.token.Token.{Token}
use Rattle.zir_lex.specs.declared.token.Lexeme.{Lexeme}
use Rattle.zir_lex.specs.declared.token.Lexeme.TheVariants as lexeme
use Rattle.zir_tree.specs.declared.place.Place.{Place}

-- no longer front of what stands there is a piece
abbrev pub IsLongest : Piece → List ℕ → Type 0
IsLongest piece rest = (other : Piece) (after : List ℕ) → IsPiece other → piece_bytes other ++ after ≡ piece_bytes piece ++ rest → length (piece_bytes other) ≤ length (piece_bytes piece)

-- a number is at most 2^63, and no letter, digit or `_` follows it
abbrev pub IsWhole : Lexeme → List ℕ → Type 0
IsWhole (lexeme.Int n) rest = (n ≤ 2 ^ 63) × IsFalse (begins_word rest)
IsWhole _ rest = Unit {0}

-- a piece that is a lexeme is whole
abbrev pub IsSound : Piece → List ℕ → Type 0
IsSound (White b) rest = Unit {0}
IsSound (Comment line) rest = Unit {0}
IsSound (Word word bytes) rest = IsWhole word rest

-- the piece is read by longest match before the rest
pub record Stands (piece : Piece) (rest : List ℕ) : Type 0 where
  pub spelled : IsPiece piece
  pub longest : IsLongest piece rest
  pub sound : IsSound piece rest

-- each piece is read by longest match before those after it and the rest
abbrev pub AreRead : List Piece → List ℕ → Type 0
AreRead [] rest = Unit {0}
AreRead (piece ∷ pieces) rest = Stands piece (text_of pieces ++ rest) × AreRead pieces rest

-- the token of a piece at a place, where the piece is a lexeme
abbrev pub token_of : Place → Piece → List Token
token_of place (White b) = []
token_of place (Comment line) = []
token_of place (Word word bytes) = record { lexeme = word; at = place } ∷ []

-- the tokens of pieces, the first of which stands at a place
abbrev pub tokens_from : Place → List Piece → List Token
tokens_from place [] = []
tokens_from place (piece ∷ pieces) = token_of place piece ++ tokens_from (place_past place (piece_bytes piece)) pieces

-- the place after the last token so far, behind one piece more that stands at a place
abbrev pub end_after : Place → Place → Piece → Place
end_after end place (White b) = end
end_after end place (Comment line) = end
end_after end place (Word word bytes) = place_past place bytes

-- the place after the last byte of the last token of pieces, the first of which stands at a place; and the given one without tokens
abbrev pub end_past : Place → Place → List Piece → Place
end_past end place [] = end
end_past end place (piece ∷ pieces) = end_past (end_after end place piece) (place_past place (piece_bytes piece)) pieces

-- up to an offset the text is read as pieces, and the rest stands there
pub record IsReadTo (text : List ℕ) (pieces : List Piece) (rest : List ℕ) : Type 0 where
  pub whole : text ≡ text_of pieces ++ rest
  pub read : AreRead pieces rest

-- the text is the spellings of the tokens by longest match, with white space and comments between
pub record Lexes (text : List ℕ) (tokens : List Token) : Type 0 where
  pub pieces : List Piece
  pub read : IsReadTo text pieces []
  pub are : tokens ≡ tokens_from first_place pieces

-- the place after the last byte of the text's last token, and 1:1 without tokens
pub record EndsAt (text : List ℕ) (end : Place) : Type 0 where
  pub pieces : List Piece
  pub read : IsReadTo text pieces []
  pub is : end ≡ end_past first_place first_place pieces

-- no front of what stands there is a piece: a byte that begins no token, a `'` without its bit, a `"` whose string does not end
pub record IsBadByte (rest : List ℕ) : Type 0 where
  pub some : 0 < length rest
  pub none : (piece : Piece) (after : List ℕ) → IsPiece piece → rest ≢ piece_bytes piece ++ after

-- a number stands there that is above 2^63, or that a letter, digit or `_` follows at once: `0x` without a digit is a 0 that a letter follows
pub record IsBadNumber (rest : List ℕ) : Type 0 where
  pub value : ℕ
  pub bytes : List ℕ
  pub after : List ℕ
  pub whole : rest ≡ bytes ++ after
  pub spelled : IsPiece (Word (lexeme.Int value) bytes)
  pub longest : IsLongest (Word (lexeme.Int value) bytes) after
  pub fault : (2 ^ 63 < value) ⊎ IsTrue (begins_word after)

-- up to an offset the text is tokens, white space and comments, and there stands a byte that begins none of them
pub record BadByteAt (text : List ℕ) (at : ℕ) : Type 0 where
  pub pieces : List Piece
  pub rest : List ℕ
  pub read : IsReadTo text pieces rest
  pub place : at ≡ length (text_of pieces)
  pub bad : IsBadByte rest

-- up to an offset the text is tokens, white space and comments, and there stands a faulty number
pub record BadNumberAt (text : List ℕ) (at : ℕ) : Type 0 where
  pub pieces : List Piece
  pub rest : List ℕ
  pub read : IsReadTo text pieces rest
  pub place : at ≡ length (text_of pieces)
  pub bad : IsBadNumber rest

-- the cause of a refusal: more than 65,536 bytes, or else the first fault; want of memory has none
abbrev pub IsRefusal : LexError → List ℕ → Type 0
IsRefusal errors.TooLong text = 65536 < length text
IsRefusal (errors.BadByte at) text = (length text ≤ 65536) × BadByteAt text at
IsRefusal (errors.BadNumber at) text = (length text ≤ 65536) × BadNumberAt text at
IsRefusal errors.Memory text = Unit {0}
