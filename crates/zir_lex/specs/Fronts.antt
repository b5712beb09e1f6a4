-- What the readers of one piece answer.
use Rattle.std.specs.Prelude.{◌≡◌, ◌≢◌, ℕ, ◌<◌, ◌≤◌, ◌^◌, ◌⊎◌, ◌&&◌, Bool, IsTrue, IsFalse, ◌==◌, get_or, List, [], ◌∷◌, ◌++◌, length, take, drop, Option, Some, None, Result, Ok, Err, if◌then◌else◌}
use Rattle.std.specs.Char.{is_ascii_hexdigit, is_ascii_digit}
use Rattle.zir_lex.specs.Classes.{is_white, is_letter, begins_word}
use Rattle.zir_lex.specs.Tables.{symbol_bytes}
use Rattle.zir_lex.specs.declared.token.Symbol.{Symbol}
use Rattle.zir_lex.specs.Spelling.{Piece, White, Comment, Word, piece_bytes}
use Rattle.zir_lex.specs.Tokens.{Stands, IsBadByte, IsBadNumber}
use Rattle.zir_lex.specs.declared.token.Lexeme.{Lexeme}
use Rattle.zir_lex.specs.declared.front.Front.{Front}
use Rattle.zir_lex.specs.declared.front.FrontError.{FrontError}
use Rattle.zir_lex.specs.declared.front.FrontError.TheVariants as errors
use Rattle.zir_lex.specs.declared.token.Lexeme.TheVariants as lexeme
use Rattle.zir_lex.specs.declared.lexer.LexError.{LexError}
use Rattle.zir_lex.specs.declared.lexer.LexError.TheVariants as refusals
use Rattle.zir_lex.specs.declared.token.Token.{Token}
use Rattle.zir_tree.specs.declared.place.Place.{Place}

-- the lexeme of a piece, if it is one
abbrev pub lexeme_of : Piece → Option Lexeme
lexeme_of (White b) = None
lexeme_of (Comment line) = None
lexeme_of (Word word bytes) = Some word

-- the front of the text is a piece
pub record IsFront (front : Front) (text : List ℕ) : Type 0 where
  pub piece : Piece
  pub bytes : piece_bytes piece ≡ take front.len text
  pub some : 0 < front.len
  pub within : front.len ≤ length text
  pub stands : Stands piece (drop front.len text)
  pub lexeme : front.lexeme ≡ lexeme_of piece

-- the fault stands at the front of the text
abbrev pub IsFault : FrontError → List ℕ → Type 0
IsFault errors.BadByte text = IsBadByte text
IsFault errors.BadNumber text = IsBadNumber text
IsFault errors.Memory text = Unit {0}

-- the front of the text as it was read
abbrev pub Reads : Result Front FrontError → List ℕ → Type 0
Reads (Ok front) text = IsFront front text
Reads (Err error) text = IsFault error text

-- what a first byte begins: white space, a word, a number, a bit, a string, or a comment or sign
pub data Kind : Type 0 where
  OfWhite : Kind
  OfWord : Kind
  OfNumber : Kind
  OfBit : Kind
  OfString : Kind
  OfSign : Kind

-- the kind that a byte begins
abbrev pub kind_of : ℕ → Kind
kind_of b =
    if is_white b then OfWhite
    else (if is_letter b then OfWord
    else (if is_ascii_digit b then OfNumber
    else (if b == 39 then OfBit
    else (if b == 34 then OfString
    else OfSign))))

-- no front of the text is a sign
abbrev pub HasNoSign : List ℕ → Type 0
HasNoSign text = (symbol : Symbol) (after : List ℕ) → text ≢ symbol_bytes symbol ++ after

-- the sign is the longest at the front of the text, and has this many bytes
pub record IsLongestSign (symbol : Symbol) (len : ℕ) (text : List ℕ) : Type 0 where
  pub bytes : symbol_bytes symbol ≡ take len text
  pub some : 0 < len
  pub within : len ≤ length text
  pub longest : (other : Symbol) (after : List ℕ) → text ≡ symbol_bytes other ++ after → length (symbol_bytes other) ≤ len

-- the refusal of a text whose fault stands at an offset
abbrev pub refusal_at : FrontError → ℕ → LexError
refusal_at errors.BadByte at = refusals.BadByte at
refusal_at errors.BadNumber at = refusals.BadNumber at
refusal_at errors.Memory at = refusals.Memory

-- the token of a piece at a place
abbrev pub tokens_at : Place → Option Lexeme → List Token
tokens_at at None = []
tokens_at at (Some word) = record { lexeme = word; at = at } ∷ []

-- the place after the last token so far, where a front ends at a place
abbrev pub end_at : Place → Place → Option Lexeme → Place
end_at end next None = end
end_at end next (Some word) = next

-- the text begins with `0x` and a hexadecimal digit
abbrev pub begins_hexadecimal : List ℕ → Bool
begins_hexadecimal text = (get_or text 0 0 == 48) && ((get_or text 1 0 == 120) && is_ascii_hexdigit (get_or text 2 0))

-- the number is above 2^63, or a letter, digit or `_` follows it
abbrev pub IsFaulty : ℕ → List ℕ → Type 0
IsFaulty value rest = (2 ^ 63 < value) ⊎ IsTrue (begins_word rest)

-- the number before the rest as it was read
abbrev pub ReadsNumber : Result Front FrontError → ℕ → ℕ → List ℕ → Type 0
ReadsNumber (Ok front) value len rest = (front ≡ record { lexeme = Some (lexeme.Int value); len = len }) × (value ≤ 2 ^ 63) × IsFalse (begins_word rest)
ReadsNumber (Err errors.BadNumber) value len rest = IsFaulty value rest
ReadsNumber (Err errors.BadByte) value len rest = ⊥
ReadsNumber (Err errors.Memory) value len rest = ⊥
