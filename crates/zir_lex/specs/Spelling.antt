-- The pieces of a text: white space, comments and tokens, each with its bytes.
use Rattle.std.specs.Prelude.{◌≡◌, ◌≢◌, ℕ, ◌<◌, ◌⊎◌, List, [], ◌∷◌, ◌++◌, length, IsTrue, if◌then◌else◌}
use Rattle.std.specs.List.{list_all, flat_map}
use Rattle.std.specs.Char.{is_ascii_digit, is_ascii_hexdigit}
use Rattle.zir_lex.specs.Classes.{is_white, is_letter, is_word_byte, is_string_byte, is_line_byte, number_of}
use Rattle.zir_lex.specs.Tables.{keyword_bytes, symbol_bytes}
use Rattle.zir_lex.specs.declared.token.Keyword.{Keyword}
use Rattle.zir_lex.specs.declared.token.Lexeme.{Lexeme}
use Rattle.zir_lex.specs.declared.token.Lexeme.TheVariants as lexeme

-- a letter or `_`, then letters, digits and `_`
abbrev pub IsWord : List ℕ → Type 0
IsWord [] = ⊥
IsWord (b ∷ bs) = IsTrue (is_letter b) × IsTrue (list_all is_word_byte bs)

-- one decimal digit or more
pub record IsDecimal (n : ℕ) (bytes : List ℕ) : Type 0 where
  pub some : 0 < length bytes
  pub digits : IsTrue (list_all is_ascii_digit bytes)
  pub value : n ≡ number_of 10 bytes

-- `0x`, then one hexadecimal digit or more
pub record IsHexadecimal (n : ℕ) (bytes : List ℕ) : Type 0 where
  pub after : List ℕ
  pub prefix : bytes ≡ 48 ∷ 120 ∷ after
  pub some : 0 < length after
  pub digits : IsTrue (list_all is_ascii_hexdigit after)
  pub value : n ≡ number_of 16 after

-- the bytes are a spelling of the lexeme
abbrev pub Spells : Lexeme → List ℕ → Type 0
Spells (lexeme.Name name) bytes = (name ≡ bytes) × IsWord bytes × ((keyword : Keyword) → keyword_bytes keyword ≢ bytes)
Spells (lexeme.Keyword keyword) bytes = bytes ≡ keyword_bytes keyword
Spells (lexeme.Int n) bytes = IsDecimal n bytes ⊎ IsHexadecimal n bytes
Spells (lexeme.Bit bit) bytes = bytes ≡ 39 ∷ (if bit then 49 else 48) ∷ []
Spells (lexeme.Text text) bytes = (bytes ≡ 34 ∷ (text ++ 34 ∷ [])) × IsTrue (list_all is_string_byte text)
Spells (lexeme.Symbol symbol) bytes = bytes ≡ symbol_bytes symbol

-- a byte of white space, a comment by what stands after its `--`, or a lexeme with its spelling
pub data Piece : Type 0 where
  White : ℕ → Piece
  Comment : List ℕ → Piece
  Word : Lexeme → List ℕ → Piece

-- the bytes of a piece
abbrev pub piece_bytes : Piece → List ℕ
piece_bytes (White b) = b ∷ []
piece_bytes (Comment line) = 45 ∷ 45 ∷ line
piece_bytes (Word word bytes) = bytes

-- the piece is spelled as it says
abbrev pub IsPiece : Piece → Type 0
IsPiece (White b) = IsTrue (is_white b)
IsPiece (Comment line) = IsTrue (list_all is_line_byte line)
IsPiece (Word word bytes) = Spells word bytes

-- the bytes of pieces in a row
abbrev pub text_of : List Piece → List ℕ
text_of pieces = flat_map piece_bytes pieces
