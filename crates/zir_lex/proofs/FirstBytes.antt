-- The first byte of a piece tells its kind.
use Rattle.std.proofs.Common.{◌≡◌, ℕ, ◌<◌, ◌≤◌, true, false, cond, List, [], ◌∷◌, ◌++◌, length, get_or, ap, refl, inl, inr, arith}
use Rattle.std.specs.List.{list_all}
use Rattle.std.specs.Char.{is_ascii_digit}
use Rattle.std.proofs.lemmas.Bool.{and_parts}
use Rattle.std.proofs.lemmas.Bool.Decides.{nat_tests}
use Rattle.zir_lex.specs.Classes.{is_white, is_letter}
use Rattle.zir_lex.specs.Tables.{keyword_bytes, symbol_bytes}
use Rattle.zir_lex.specs.Spelling.{Piece, White, Comment, Word, piece_bytes, IsPiece, IsWord, IsDecimal}
use Rattle.zir_lex.specs.Fronts.{Kind, OfWhite, OfWord, OfNumber, OfBit, OfString, OfSign, kind_of}
use Rattle.zir_lex.specs.declared.token.Keyword.{Keyword}
use Rattle.zir_lex.specs.declared.token.Keyword.TheVariants as keywords
use Rattle.zir_lex.specs.declared.token.Symbol.{Symbol}
use Rattle.zir_lex.specs.declared.token.Symbol.TheVariants as symbols
use Rattle.zir_lex.specs.declared.token.Lexeme.TheVariants as lexeme

-- a letter is no white space
pub letter_not_white : (b : ℕ) → is_letter b ≡ true → is_white b ≡ false
letter_not_white b e = grind (arith, nat_tests)

-- a digit is no white space
pub digit_not_white : (b : ℕ) → is_ascii_digit b ≡ true → is_white b ≡ false
digit_not_white b e = grind (arith, nat_tests)

-- a digit is no letter
pub digit_not_letter : (b : ℕ) → is_ascii_digit b ≡ true → is_letter b ≡ false
digit_not_letter b e = grind (arith, nat_tests)

-- the kinds of the classes
pub white_kind : (b : ℕ) → is_white b ≡ true → kind_of b ≡ OfWhite
white_kind b e = rw e refl

pub letter_kind : (b : ℕ) → is_letter b ≡ true → kind_of b ≡ OfWord
letter_kind b e = rw (letter_not_white b e, e) refl

pub digit_kind : (b : ℕ) → is_ascii_digit b ≡ true → kind_of b ≡ OfNumber
digit_kind b e = rw (digit_not_white b e, digit_not_letter b e, e) refl

-- each keyword is a word
pub keyword_is_word : (keyword : Keyword) → IsWord (keyword_bytes keyword)
keyword_is_word keywords.Arr = (refl, refl)
keyword_is_word keywords.Bit = (refl, refl)
keyword_is_word keywords.Bool = (refl, refl)
keyword_is_word keywords.Comp = (refl, refl)
keyword_is_word keywords.Complex16 = (refl, refl)
keyword_is_word keywords.Complex32 = (refl, refl)
keyword_is_word keywords.Do = (refl, refl)
keyword_is_word keywords.Else = (refl, refl)
keyword_is_word keywords.Emit = (refl, refl)
keyword_is_word keywords.Emits = (refl, refl)
keyword_is_word keywords.Error = (refl, refl)
keyword_is_word keywords.False = (refl, refl)
keyword_is_word keywords.Filter = (refl, refl)
keyword_is_word keywords.For = (refl, refl)
keyword_is_word keywords.Fun = (refl, refl)
keyword_is_word keywords.If = (refl, refl)
keyword_is_word keywords.In = (refl, refl)
keyword_is_word keywords.Int = (refl, refl)
keyword_is_word keywords.Int8 = (refl, refl)
keyword_is_word keywords.Int16 = (refl, refl)
keyword_is_word keywords.Int32 = (refl, refl)
keyword_is_word keywords.Int64 = (refl, refl)
keyword_is_word keywords.Let = (refl, refl)
keyword_is_word keywords.Map = (refl, refl)
keyword_is_word keywords.Not = (refl, refl)
keyword_is_word keywords.Read = (refl, refl)
keyword_is_word keywords.Repeat = (refl, refl)
keyword_is_word keywords.Return = (refl, refl)
keyword_is_word keywords.Struct = (refl, refl)
keyword_is_word keywords.Take = (refl, refl)
keyword_is_word keywords.Takes = (refl, refl)
keyword_is_word keywords.Then = (refl, refl)
keyword_is_word keywords.Times = (refl, refl)
keyword_is_word keywords.True = (refl, refl)
keyword_is_word keywords.Try = (refl, refl)
keyword_is_word keywords.Until = (refl, refl)
keyword_is_word keywords.Var = (refl, refl)
keyword_is_word keywords.Viterbi = (refl, refl)
keyword_is_word keywords.While = (refl, refl)
keyword_is_word keywords.With = (refl, refl)
keyword_is_word keywords.Write = (refl, refl)

-- a sign has bytes, the first of which begins a sign
sign_first : (symbol : Symbol) (after : List ℕ) → (0 < length (symbol_bytes symbol)) × (kind_of (get_or (symbol_bytes symbol ++ after) 0 0) ≡ OfSign)
sign_first symbols.ParallelPipe after = (omega arith, refl)
sign_first symbols.Pipe after = (omega arith, refl)
sign_first symbols.ShiftRight after = (omega arith, refl)
sign_first symbols.ShiftLeft after = (omega arith, refl)
sign_first symbols.LeftArrow after = (omega arith, refl)
sign_first symbols.LessEqual after = (omega arith, refl)
sign_first symbols.GreaterEqual after = (omega arith, refl)
sign_first symbols.EqualEqual after = (omega arith, refl)
sign_first symbols.NotEqual after = (omega arith, refl)
sign_first symbols.Assign after = (omega arith, refl)
sign_first symbols.AndAnd after = (omega arith, refl)
sign_first symbols.OrOr after = (omega arith, refl)
sign_first symbols.LeftParenthesis after = (omega arith, refl)
sign_first symbols.RightParenthesis after = (omega arith, refl)
sign_first symbols.LeftBrace after = (omega arith, refl)
sign_first symbols.RightBrace after = (omega arith, refl)
sign_first symbols.LeftBracket after = (omega arith, refl)
sign_first symbols.RightBracket after = (omega arith, refl)
sign_first symbols.Comma after = (omega arith, refl)
sign_first symbols.Semicolon after = (omega arith, refl)
sign_first symbols.Colon after = (omega arith, refl)
sign_first symbols.Dot after = (omega arith, refl)
sign_first symbols.Equal after = (omega arith, refl)
sign_first symbols.Less after = (omega arith, refl)
sign_first symbols.Greater after = (omega arith, refl)
sign_first symbols.Plus after = (omega arith, refl)
sign_first symbols.Minus after = (omega arith, refl)
sign_first symbols.Star after = (omega arith, refl)
sign_first symbols.Slash after = (omega arith, refl)
sign_first symbols.Percent after = (omega arith, refl)
sign_first symbols.Ampersand after = (omega arith, refl)
sign_first symbols.Bar after = (omega arith, refl)
sign_first symbols.Caret after = (omega arith, refl)
sign_first symbols.Tilde after = (omega arith, refl)

-- a comment and a sign are never spelled alike
pub sign_no_comment : (symbol : Symbol) (line : List ℕ) → symbol_bytes symbol ≡ 45 ∷ 45 ∷ line → ⊥
sign_no_comment symbols.ParallelPipe line e = omega (arith, ap (λ l. get_or l 0 0) e, ap (λ l. get_or l 1 0) e)
sign_no_comment symbols.Pipe line e = omega (arith, ap (λ l. get_or l 0 0) e, ap (λ l. get_or l 1 0) e)
sign_no_comment symbols.ShiftRight line e = omega (arith, ap (λ l. get_or l 0 0) e, ap (λ l. get_or l 1 0) e)
sign_no_comment symbols.ShiftLeft line e = omega (arith, ap (λ l. get_or l 0 0) e, ap (λ l. get_or l 1 0) e)
sign_no_comment symbols.LeftArrow line e = omega (arith, ap (λ l. get_or l 0 0) e, ap (λ l. get_or l 1 0) e)
sign_no_comment symbols.LessEqual line e = omega (arith, ap (λ l. get_or l 0 0) e, ap (λ l. get_or l 1 0) e)
sign_no_comment symbols.GreaterEqual line e = omega (arith, ap (λ l. get_or l 0 0) e, ap (λ l. get_or l 1 0) e)
sign_no_comment symbols.EqualEqual line e = omega (arith, ap (λ l. get_or l 0 0) e, ap (λ l. get_or l 1 0) e)
sign_no_comment symbols.NotEqual line e = omega (arith, ap (λ l. get_or l 0 0) e, ap (λ l. get_or l 1 0) e)
sign_no_comment symbols.Assign line e = omega (arith, ap (λ l. get_or l 0 0) e, ap (λ l. get_or l 1 0) e)
sign_no_comment symbols.AndAnd line e = omega (arith, ap (λ l. get_or l 0 0) e, ap (λ l. get_or l 1 0) e)
sign_no_comment symbols.OrOr line e = omega (arith, ap (λ l. get_or l 0 0) e, ap (λ l. get_or l 1 0) e)
sign_no_comment symbols.LeftParenthesis line e = omega (arith, ap (λ l. get_or l 0 0) e, ap (λ l. get_or l 1 0) e)
sign_no_comment symbols.RightParenthesis line e = omega (arith, ap (λ l. get_or l 0 0) e, ap (λ l. get_or l 1 0) e)
sign_no_comment symbols.LeftBrace line e = omega (arith, ap (λ l. get_or l 0 0) e, ap (λ l. get_or l 1 0) e)
sign_no_comment symbols.RightBrace line e = omega (arith, ap (λ l. get_or l 0 0) e, ap (λ l. get_or l 1 0) e)
sign_no_comment symbols.LeftBracket line e = omega (arith, ap (λ l. get_or l 0 0) e, ap (λ l. get_or l 1 0) e)
sign_no_comment symbols.RightBracket line e = omega (arith, ap (λ l. get_or l 0 0) e, ap (λ l. get_or l 1 0) e)
sign_no_comment symbols.Comma line e = omega (arith, ap (λ l. get_or l 0 0) e, ap (λ l. get_or l 1 0) e)
sign_no_comment symbols.Semicolon line e = omega (arith, ap (λ l. get_or l 0 0) e, ap (λ l. get_or l 1 0) e)
sign_no_comment symbols.Colon line e = omega (arith, ap (λ l. get_or l 0 0) e, ap (λ l. get_or l 1 0) e)
sign_no_comment symbols.Dot line e = omega (arith, ap (λ l. get_or l 0 0) e, ap (λ l. get_or l 1 0) e)
sign_no_comment symbols.Equal line e = omega (arith, ap (λ l. get_or l 0 0) e, ap (λ l. get_or l 1 0) e)
sign_no_comment symbols.Less line e = omega (arith, ap (λ l. get_or l 0 0) e, ap (λ l. get_or l 1 0) e)
sign_no_comment symbols.Greater line e = omega (arith, ap (λ l. get_or l 0 0) e, ap (λ l. get_or l 1 0) e)
sign_no_comment symbols.Plus line e = omega (arith, ap (λ l. get_or l 0 0) e, ap (λ l. get_or l 1 0) e)
sign_no_comment symbols.Minus line e = omega (arith, ap (λ l. get_or l 0 0) e, ap (λ l. get_or l 1 0) e)
sign_no_comment symbols.Star line e = omega (arith, ap (λ l. get_or l 0 0) e, ap (λ l. get_or l 1 0) e)
sign_no_comment symbols.Slash line e = omega (arith, ap (λ l. get_or l 0 0) e, ap (λ l. get_or l 1 0) e)
sign_no_comment symbols.Percent line e = omega (arith, ap (λ l. get_or l 0 0) e, ap (λ l. get_or l 1 0) e)
sign_no_comment symbols.Ampersand line e = omega (arith, ap (λ l. get_or l 0 0) e, ap (λ l. get_or l 1 0) e)
sign_no_comment symbols.Bar line e = omega (arith, ap (λ l. get_or l 0 0) e, ap (λ l. get_or l 1 0) e)
sign_no_comment symbols.Caret line e = omega (arith, ap (λ l. get_or l 0 0) e, ap (λ l. get_or l 1 0) e)
sign_no_comment symbols.Tilde line e = omega (arith, ap (λ l. get_or l 0 0) e, ap (λ l. get_or l 1 0) e)

-- a sign at the front of two dashes is one of them
pub sign_in_dashes : (symbol : Symbol) (after line : List ℕ) → symbol_bytes symbol ++ after ≡ 45 ∷ 45 ∷ line → length (symbol_bytes symbol) ≤ 1
sign_in_dashes symbols.ParallelPipe after line e = absurd (omega (arith, ap (λ l. get_or l 0 0) e))
sign_in_dashes symbols.Pipe after line e = absurd (omega (arith, ap (λ l. get_or l 0 0) e))
sign_in_dashes symbols.ShiftRight after line e = absurd (omega (arith, ap (λ l. get_or l 0 0) e))
sign_in_dashes symbols.ShiftLeft after line e = absurd (omega (arith, ap (λ l. get_or l 0 0) e))
sign_in_dashes symbols.LeftArrow after line e = absurd (omega (arith, ap (λ l. get_or l 0 0) e))
sign_in_dashes symbols.LessEqual after line e = absurd (omega (arith, ap (λ l. get_or l 0 0) e))
sign_in_dashes symbols.GreaterEqual after line e = absurd (omega (arith, ap (λ l. get_or l 0 0) e))
sign_in_dashes symbols.EqualEqual after line e = absurd (omega (arith, ap (λ l. get_or l 0 0) e))
sign_in_dashes symbols.NotEqual after line e = absurd (omega (arith, ap (λ l. get_or l 0 0) e))
sign_in_dashes symbols.Assign after line e = absurd (omega (arith, ap (λ l. get_or l 0 0) e))
sign_in_dashes symbols.AndAnd after line e = absurd (omega (arith, ap (λ l. get_or l 0 0) e))
sign_in_dashes symbols.OrOr after line e = absurd (omega (arith, ap (λ l. get_or l 0 0) e))
sign_in_dashes symbols.LeftParenthesis after line e = omega arith
sign_in_dashes symbols.RightParenthesis after line e = omega arith
sign_in_dashes symbols.LeftBrace after line e = omega arith
sign_in_dashes symbols.RightBrace after line e = omega arith
sign_in_dashes symbols.LeftBracket after line e = omega arith
sign_in_dashes symbols.RightBracket after line e = omega arith
sign_in_dashes symbols.Comma after line e = omega arith
sign_in_dashes symbols.Semicolon after line e = omega arith
sign_in_dashes symbols.Colon after line e = omega arith
sign_in_dashes symbols.Dot after line e = omega arith
sign_in_dashes symbols.Equal after line e = omega arith
sign_in_dashes symbols.Less after line e = omega arith
sign_in_dashes symbols.Greater after line e = omega arith
sign_in_dashes symbols.Plus after line e = omega arith
sign_in_dashes symbols.Minus after line e = omega arith
sign_in_dashes symbols.Star after line e = omega arith
sign_in_dashes symbols.Slash after line e = omega arith
sign_in_dashes symbols.Percent after line e = omega arith
sign_in_dashes symbols.Ampersand after line e = omega arith
sign_in_dashes symbols.Bar after line e = omega arith
sign_in_dashes symbols.Caret after line e = omega arith
sign_in_dashes symbols.Tilde after line e = omega arith

-- the kind of a piece
abbrev pub piece_kind : Piece → Kind
piece_kind (White b) = OfWhite
piece_kind (Comment line) = OfSign
piece_kind (Word (lexeme.Name name) bytes) = OfWord
piece_kind (Word (lexeme.Keyword keyword) bytes) = OfWord
piece_kind (Word (lexeme.Int n) bytes) = OfNumber
piece_kind (Word (lexeme.Bit bit) bytes) = OfBit
piece_kind (Word (lexeme.Text text) bytes) = OfString
piece_kind (Word (lexeme.Symbol symbol) bytes) = OfSign

-- a piece has bytes, and its first byte tells its kind
abbrev pub Begins : List ℕ → List ℕ → Kind → Type 0
Begins bytes after kind = (0 < length bytes) × (kind_of (get_or (bytes ++ after) 0 0) ≡ kind)

word_begins : (bytes after : List ℕ) → IsWord bytes → Begins bytes after OfWord
word_begins [] after word = absurd word
word_begins (b ∷ bs) after word = (omega arith, letter_kind b word.0)

decimal_begins : (n : ℕ) (bytes after : List ℕ) → IsDecimal n bytes → Begins bytes after OfNumber
decimal_begins n [] after decimal = absurd (omega (arith, decimal.some))
decimal_begins n (b ∷ bs) after decimal = (omega arith, digit_kind b (and_parts (is_ascii_digit b) (list_all is_ascii_digit bs) decimal.digits).0)

along : (bytes other after : List ℕ) (kind : Kind) → bytes ≡ other → Begins other after kind → Begins bytes after kind
along bytes other after kind e begins = rw e begins

pub begins : (piece : Piece) (after : List ℕ) → IsPiece piece → Begins (piece_bytes piece) after (piece_kind piece)
begins (White b) after piece = (omega arith, white_kind b piece)
begins (Comment line) after piece = (omega arith, refl)
begins (Word (lexeme.Name name) bytes) after piece = word_begins bytes after piece.1
begins (Word (lexeme.Keyword keyword) bytes) after piece = along bytes (keyword_bytes keyword) after OfWord piece (word_begins (keyword_bytes keyword) after (keyword_is_word keyword))
begins (Word (lexeme.Int n) bytes) after piece = elim piece [ inl decimal ↦ decimal_begins n bytes after decimal | inr hexadecimal ↦ along bytes (48 ∷ 120 ∷ hexadecimal.after) after OfNumber hexadecimal.prefix (omega arith, refl) ]
begins (Word (lexeme.Bit bit) bytes) after piece = along bytes (39 ∷ cond bit 49 48 ∷ []) after OfBit piece (omega arith, refl)
begins (Word (lexeme.Text text) bytes) after piece = along bytes (34 ∷ (text ++ 34 ∷ [])) after OfString piece.0 (omega arith, refl)
begins (Word (lexeme.Symbol symbol) bytes) after piece = along bytes (symbol_bytes symbol) after OfSign piece (sign_first symbol after)
