-- The longest piece of each kind at the front of a text.
use Rattle.std.proofs.Common.{◌≡◌, ℕ, ◌+◌, ◌<◌, ◌≤◌, Bool, true, false, cond, List, [], ◌∷◌, ◌++◌, length, get_or, take, drop, sym, ◌∙◌, ap, refl, subst, inl, inr, ◌⊎◌, arith, IsTrue, take-append-drop, length-take-le, append_assoc, length-append, add-one, eqb, eqb-true, true≢false}
use Rattle.std.proofs.Math.Seq.{get_or-append_seam}
use Rattle.std.proofs.lemmas.Bool.{cases_lt}
use Rattle.std.proofs.lemmas.List.Sums.{prefix_len_passes}
use Rattle.std.specs.List.{prefix_len, list_all}
use Rattle.std.specs.Char.{is_ascii_digit, is_ascii_hexdigit}
use Rattle.std.proofs.lemmas.Bool.{and_parts}
use Rattle.zir_lex.specs.Classes.{is_word_byte, is_string_byte, is_line_byte}
use Rattle.zir_lex.specs.Tables.{symbol_bytes}
use Rattle.zir_lex.specs.Spelling.{Piece, White, Comment, Word, piece_bytes, IsPiece, IsWord, IsDecimal, IsHexadecimal}
use Rattle.zir_lex.specs.Tokens.{IsLongest, IsSound, IsBadByte}
use Rattle.zir_lex.specs.Fronts.{OfWhite, OfWord, OfNumber, OfBit, OfString, OfSign, kind_of, IsFront, lexeme_of, begins_hexadecimal}
use Rattle.zir_lex.specs.declared.token.Symbol.{Symbol}
use Rattle.zir_lex.specs.declared.token.Lexeme.TheVariants as lexeme
use Rattle.zir_lex.proofs.FirstBytes.{piece_kind, begins, keyword_is_word}
use Rattle.zir_lex.proofs.Prefixes.{front_within, front_ends}

-- no piece of the kind that the first byte tells has more bytes at the front of the text
abbrev pub Within : List ℕ → ℕ → Type 0
Within text len = (other : Piece) (after : List ℕ) → IsPiece other → text ≡ piece_bytes other ++ after → piece_kind other ≡ kind_of (get_or text 0 0) → length (piece_bytes other) ≤ len

-- the kind of a piece at the front of a text
kind_at : (text : List ℕ) (piece : Piece) (after : List ℕ) → IsPiece piece → text ≡ piece_bytes piece ++ after → piece_kind piece ≡ kind_of (get_or text 0 0)
kind_at text piece after spelled whole = sym (ap (λ l. kind_of (get_or l 0 0)) whole ∙ (begins piece after spelled).1)

-- a piece of the greatest length of its kind is the longest
pub longest_of : (piece : Piece) (len : ℕ) (text : List ℕ) → len ≤ length text → piece_bytes piece ≡ take len text → Within text len → IsLongest piece (drop len text)
longest_of piece len text fits bytes within other after spelled same =
    let whole : piece_bytes piece ++ drop len text ≡ text = ap (λ l. l ++ drop len text) bytes ∙ take-append-drop len text in
    let other_whole : text ≡ piece_bytes other ++ after = sym (same ∙ whole) in
    let bound : length (piece_bytes other) ≤ len = within other after spelled other_whole (kind_at text other after spelled other_whole) in
    let len_is : length (piece_bytes piece) ≡ len = ap length bytes ∙ length-take-le len text fits in
    omega arith

-- a piece of the greatest length of its kind is the front of the text
pub front_of : (piece : Piece) (len : ℕ) (text : List ℕ) → 0 < len → len ≤ length text → piece_bytes piece ≡ take len text → IsPiece piece → IsSound piece (drop len text) → Within text len → IsFront (record { lexeme = lexeme_of piece; len = len }) text
front_of piece len text some fits bytes spelled sound within = record {
  piece = piece;
  bytes = bytes;
  some = some;
  within = fits;
  stands = record { spelled = spelled; longest = longest_of piece len text fits bytes within; sound = sound };
  lexeme = refl;
}

-- where no piece of the kind that the first byte tells stands, none does
pub bad_byte_of : (text : List ℕ) → 0 < length text → ((other : Piece) (after : List ℕ) → IsPiece other → text ≡ piece_bytes other ++ after → piece_kind other ≡ kind_of (get_or text 0 0) → ⊥) → IsBadByte text
bad_byte_of text some none = record {
  some = some;
  none = λ piece after spelled whole. none piece after spelled whole (kind_at text piece after spelled whole);
}

-- white space is read byte by byte
pub within_white : (text : List ℕ) → kind_of (get_or text 0 0) ≡ OfWhite → Within text 1
within_white text kind (White b) after spelled whole same = omega arith
within_white text kind (Comment line) after spelled whole same = absurd cc
within_white text kind (Word (lexeme.Name name) bytes) after spelled whole same = absurd cc
within_white text kind (Word (lexeme.Keyword keyword) bytes) after spelled whole same = absurd cc
within_white text kind (Word (lexeme.Int n) bytes) after spelled whole same = absurd cc
within_white text kind (Word (lexeme.Bit bit) bytes) after spelled whole same = absurd cc
within_white text kind (Word (lexeme.Text string) bytes) after spelled whole same = absurd cc
within_white text kind (Word (lexeme.Symbol symbol) bytes) after spelled whole same = absurd cc

-- the bytes of a word
pub word_bytes : (bytes : List ℕ) → IsWord bytes → list_all is_word_byte bytes ≡ true
word_bytes [] word = absurd word
word_bytes (b ∷ bs) word = rw word.0 word.1

word_within : (text bytes after : List ℕ) → IsWord bytes → text ≡ bytes ++ after → length bytes ≤ prefix_len is_word_byte text
word_within text bytes after word whole = subst (λ (t : List ℕ). length bytes ≤ prefix_len is_word_byte t) (sym whole) (front_within is_word_byte bytes after (word_bytes bytes word))

-- a word is as long as its bytes go on
pub within_word : (text : List ℕ) → kind_of (get_or text 0 0) ≡ OfWord → Within text (prefix_len is_word_byte text)
within_word text kind (White b) after spelled whole same = absurd cc
within_word text kind (Comment line) after spelled whole same = absurd cc
within_word text kind (Word (lexeme.Name name) bytes) after spelled whole same = word_within text bytes after spelled.1 whole
within_word text kind (Word (lexeme.Keyword keyword) bytes) after spelled whole same = word_within text bytes after (subst IsWord (sym spelled) (keyword_is_word keyword)) whole
within_word text kind (Word (lexeme.Int n) bytes) after spelled whole same = absurd cc
within_word text kind (Word (lexeme.Bit bit) bytes) after spelled whole same = absurd cc
within_word text kind (Word (lexeme.Text string) bytes) after spelled whole same = absurd cc
within_word text kind (Word (lexeme.Symbol symbol) bytes) after spelled whole same = absurd cc

-- a bit at the front of a text
pub record HasBit (text bytes : List ℕ) : Type 0 where
  pub two : length bytes ≡ 2
  pub within : 2 ≤ length text
  pub bit : (get_or text 1 0 ≡ 48) ⊎ (get_or text 1 0 ≡ 49)

bit_shape : (text bytes after : List ℕ) (bit : Bool) → bytes ≡ 39 ∷ cond bit 49 48 ∷ [] → text ≡ bytes ++ after → HasBit text bytes
bit_shape text bytes after bit spelled whole =
    let shape : text ≡ 39 ∷ cond bit 49 48 ∷ after = whole ∙ ap (λ l. l ++ after) spelled in
    record {
      two = ap length spelled;
      within = omega (arith, ap length shape);
      bit = elim bit as (λ b. get_or text 1 0 ≡ cond b 49 48 → (get_or text 1 0 ≡ 48) ⊎ (get_or text 1 0 ≡ 49)) [ true ↦ λ e. inr e | false ↦ λ e. inl e ] (ap (λ l. get_or l 1 0) shape);
    }

pub bit_at : (text : List ℕ) → kind_of (get_or text 0 0) ≡ OfBit → (other : Piece) (after : List ℕ) → IsPiece other → text ≡ piece_bytes other ++ after → piece_kind other ≡ kind_of (get_or text 0 0) → HasBit text (piece_bytes other)
bit_at text kind (White b) after spelled whole same = absurd cc
bit_at text kind (Comment line) after spelled whole same = absurd cc
bit_at text kind (Word (lexeme.Name name) bytes) after spelled whole same = absurd cc
bit_at text kind (Word (lexeme.Keyword keyword) bytes) after spelled whole same = absurd cc
bit_at text kind (Word (lexeme.Int n) bytes) after spelled whole same = absurd cc
bit_at text kind (Word (lexeme.Bit bit) bytes) after spelled whole same = bit_shape text bytes after bit spelled whole
bit_at text kind (Word (lexeme.Text string) bytes) after spelled whole same = absurd cc
bit_at text kind (Word (lexeme.Symbol symbol) bytes) after spelled whole same = absurd cc

-- a string at the front of a text: its quote stands where its bytes end
pub record HasString (text bytes : List ℕ) : Type 0 where
  pub len : length bytes ≡ prefix_len is_string_byte (drop 1 text) + 2
  pub within : prefix_len is_string_byte (drop 1 text) + 2 ≤ length text
  pub quote : get_or text (prefix_len is_string_byte (drop 1 text) + 1) 0 ≡ 34

string_shape : (text bytes string after : List ℕ) → bytes ≡ 34 ∷ (string ++ 34 ∷ []) → IsTrue (list_all is_string_byte string) → text ≡ bytes ++ after → HasString text bytes
string_shape text bytes string after spelled all whole =
    let shape : text ≡ 34 ∷ (string ++ (34 ∷ after)) = whole ∙ ap (λ l. l ++ after) spelled ∙ ap (λ l. 34 ∷ l) (append_assoc string (34 ∷ []) after) in
    let ends : prefix_len is_string_byte (drop 1 text) ≡ length string = ap (λ l. prefix_len is_string_byte (drop 1 l)) shape ∙ front_ends is_string_byte string 34 after all refl in
    let long : length text ≡ length (34 ∷ (string ++ (34 ∷ after))) = ap length shape in
    let inside : length (string ++ (34 ∷ after)) ≡ length string + length (34 ∷ after) = length-append string (34 ∷ after) in
    let spelled_long : length bytes ≡ length (34 ∷ (string ++ 34 ∷ [])) = ap length spelled in
    let closed : length (string ++ 34 ∷ []) ≡ length string + 1 = length-append string (34 ∷ []) in
    record {
      len = omega arith;
      within = omega arith;
      quote = ap (λ n. get_or text (n + 1) 0) ends ∙ ap (λ l. get_or l (length string + 1) 0) shape ∙ rw add-one (get_or-append_seam string 34 after 0);
    }

pub string_at : (text : List ℕ) → kind_of (get_or text 0 0) ≡ OfString → (other : Piece) (after : List ℕ) → IsPiece other → text ≡ piece_bytes other ++ after → piece_kind other ≡ kind_of (get_or text 0 0) → HasString text (piece_bytes other)
string_at text kind (White b) after spelled whole same = absurd cc
string_at text kind (Comment line) after spelled whole same = absurd cc
string_at text kind (Word (lexeme.Name name) bytes) after spelled whole same = absurd cc
string_at text kind (Word (lexeme.Keyword keyword) bytes) after spelled whole same = absurd cc
string_at text kind (Word (lexeme.Int n) bytes) after spelled whole same = absurd cc
string_at text kind (Word (lexeme.Bit bit) bytes) after spelled whole same = absurd cc
string_at text kind (Word (lexeme.Text string) bytes) after spelled whole same = string_shape text bytes string after spelled.0 spelled.1 whole
string_at text kind (Word (lexeme.Symbol symbol) bytes) after spelled whole same = absurd cc

-- no comment, and no sign, at the front of the text has more bytes
pub within_sign : (text : List ℕ) (len : ℕ) → kind_of (get_or text 0 0) ≡ OfSign → ((line after : List ℕ) → list_all is_line_byte line ≡ true → text ≡ 45 ∷ 45 ∷ (line ++ after) → length line + 2 ≤ len) → ((symbol : Symbol) (after : List ℕ) → text ≡ symbol_bytes symbol ++ after → length (symbol_bytes symbol) ≤ len) → Within text len
within_sign text len kind comments signs (White b) after spelled whole same = absurd cc
within_sign text len kind comments signs (Comment line) after spelled whole same = let bound : length line + 2 ≤ len = comments line after spelled whole in omega arith
within_sign text len kind comments signs (Word (lexeme.Name name) bytes) after spelled whole same = absurd cc
within_sign text len kind comments signs (Word (lexeme.Keyword keyword) bytes) after spelled whole same = absurd cc
within_sign text len kind comments signs (Word (lexeme.Int n) bytes) after spelled whole same = absurd cc
within_sign text len kind comments signs (Word (lexeme.Bit bit) bytes) after spelled whole same = absurd cc
within_sign text len kind comments signs (Word (lexeme.Text string) bytes) after spelled whole same = absurd cc
within_sign text len kind comments signs (Word (lexeme.Symbol symbol) bytes) after spelled whole same = let bound : length (symbol_bytes symbol) ≤ len = signs symbol after (whole ∙ ap (λ l. l ++ after) spelled) in omega (arith, ap length spelled)

-- where neither a comment nor a sign stands
pub no_sign : (text : List ℕ) → kind_of (get_or text 0 0) ≡ OfSign → ((line after : List ℕ) → text ≡ 45 ∷ 45 ∷ (line ++ after) → ⊥) → ((symbol : Symbol) (after : List ℕ) → text ≡ symbol_bytes symbol ++ after → ⊥) → (other : Piece) (after : List ℕ) → IsPiece other → text ≡ piece_bytes other ++ after → piece_kind other ≡ kind_of (get_or text 0 0) → ⊥
no_sign text kind comments signs (White b) after spelled whole same = cc
no_sign text kind comments signs (Comment line) after spelled whole same = comments line after whole
no_sign text kind comments signs (Word (lexeme.Name name) bytes) after spelled whole same = cc
no_sign text kind comments signs (Word (lexeme.Keyword keyword) bytes) after spelled whole same = cc
no_sign text kind comments signs (Word (lexeme.Int n) bytes) after spelled whole same = cc
no_sign text kind comments signs (Word (lexeme.Bit bit) bytes) after spelled whole same = cc
no_sign text kind comments signs (Word (lexeme.Text string) bytes) after spelled whole same = cc
no_sign text kind comments signs (Word (lexeme.Symbol symbol) bytes) after spelled whole same = signs symbol after (whole ∙ ap (λ l. l ++ after) spelled)

decimal_within : (text : List ℕ) (n : ℕ) (bytes after : List ℕ) → IsDecimal n bytes → text ≡ bytes ++ after → length bytes ≤ prefix_len is_ascii_digit text
decimal_within text n bytes after decimal whole = subst (λ (t : List ℕ). length bytes ≤ prefix_len is_ascii_digit t) (sym whole) (front_within is_ascii_digit bytes after decimal.digits)

-- a hexadecimal number at the front of a text
pub record HasHexadecimal (text bytes : List ℕ) : Type 0 where
  pub begins : begins_hexadecimal text ≡ true
  pub within : length bytes ≤ prefix_len is_ascii_hexdigit (drop 2 text) + 2

hexadecimal_begins : (text digits after : List ℕ) → 0 < length digits → list_all is_ascii_hexdigit digits ≡ true → text ≡ 48 ∷ 120 ∷ (digits ++ after) → begins_hexadecimal text ≡ true
hexadecimal_begins text [] after some all whole = absurd (omega arith)
hexadecimal_begins text (d ∷ ds) after some all whole = ap begins_hexadecimal whole ∙ (and_parts (is_ascii_hexdigit d) (list_all is_ascii_hexdigit ds) all).0

hexadecimal_shape : (text : List ℕ) (n : ℕ) (bytes after : List ℕ) → IsHexadecimal n bytes → text ≡ bytes ++ after → HasHexadecimal text bytes
hexadecimal_shape text n bytes after hexadecimal whole =
    let shape : text ≡ 48 ∷ 120 ∷ (hexadecimal.after ++ after) = whole ∙ ap (λ l. l ++ after) hexadecimal.prefix in
    let digits : length hexadecimal.after ≤ prefix_len is_ascii_hexdigit (drop 2 text) = subst (λ (t : List ℕ). length hexadecimal.after ≤ prefix_len is_ascii_hexdigit (drop 2 t)) (sym shape) (front_within is_ascii_hexdigit hexadecimal.after after hexadecimal.digits) in
    record {
      begins = hexadecimal_begins text hexadecimal.after after hexadecimal.some hexadecimal.digits shape;
      within = omega (arith, ap length hexadecimal.prefix);
    }

-- behind `0x` no decimal number goes on
decimal_stops : (text : List ℕ) → begins_hexadecimal text ≡ true → prefix_len is_ascii_digit text ≤ 1
decimal_stops text hexadecimal =
    elim (cases_lt 1 (prefix_len is_ascii_digit text)) [
      | inl more ↦
          let second : is_ascii_digit (get_or text 1 0) ≡ true = prefix_len_passes is_ascii_digit text 1 0 more in
          let x : get_or text 1 0 ≡ 120 = eqb-true _ _ (and_parts (eqb (get_or text 1 0) 120) (is_ascii_hexdigit (get_or text 2 0)) (and_parts (eqb (get_or text 0 0) 48) _ hexadecimal).1).0 in
          absurd (true≢false (sym second ∙ ap is_ascii_digit x))
      | inr less ↦ less
    ]

-- a hexadecimal number is as long as its digits go on
pub within_hexadecimal : (text : List ℕ) → begins_hexadecimal text ≡ true → kind_of (get_or text 0 0) ≡ OfNumber → Within text (prefix_len is_ascii_hexdigit (drop 2 text) + 2)
within_hexadecimal text hexadecimal kind (White b) after spelled whole same = absurd cc
within_hexadecimal text hexadecimal kind (Comment line) after spelled whole same = absurd cc
within_hexadecimal text hexadecimal kind (Word (lexeme.Name name) bytes) after spelled whole same = absurd cc
within_hexadecimal text hexadecimal kind (Word (lexeme.Keyword keyword) bytes) after spelled whole same = absurd cc
within_hexadecimal text hexadecimal kind (Word (lexeme.Int n) bytes) after spelled whole same = elim spelled [ inl decimal ↦ let bound : length bytes ≤ prefix_len is_ascii_digit text = decimal_within text n bytes after decimal whole in let stops : prefix_len is_ascii_digit text ≤ 1 = decimal_stops text hexadecimal in omega arith | inr other ↦ (hexadecimal_shape text n bytes after other whole).within ]
within_hexadecimal text hexadecimal kind (Word (lexeme.Bit bit) bytes) after spelled whole same = absurd cc
within_hexadecimal text hexadecimal kind (Word (lexeme.Text string) bytes) after spelled whole same = absurd cc
within_hexadecimal text hexadecimal kind (Word (lexeme.Symbol symbol) bytes) after spelled whole same = absurd cc

-- a decimal number is as long as its digits go on
pub within_decimal : (text : List ℕ) → begins_hexadecimal text ≡ false → kind_of (get_or text 0 0) ≡ OfNumber → Within text (prefix_len is_ascii_digit text)
within_decimal text other_base kind (White b) after spelled whole same = absurd cc
within_decimal text other_base kind (Comment line) after spelled whole same = absurd cc
within_decimal text other_base kind (Word (lexeme.Name name) bytes) after spelled whole same = absurd cc
within_decimal text other_base kind (Word (lexeme.Keyword keyword) bytes) after spelled whole same = absurd cc
within_decimal text other_base kind (Word (lexeme.Int n) bytes) after spelled whole same = elim spelled [ inl decimal ↦ decimal_within text n bytes after decimal whole | inr other ↦ absurd (true≢false (sym (hexadecimal_shape text n bytes after other whole).begins ∙ other_base)) ]
within_decimal text other_base kind (Word (lexeme.Bit bit) bytes) after spelled whole same = absurd cc
within_decimal text other_base kind (Word (lexeme.Text string) bytes) after spelled whole same = absurd cc
within_decimal text other_base kind (Word (lexeme.Symbol symbol) bytes) after spelled whole same = absurd cc
