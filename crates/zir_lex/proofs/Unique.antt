-- A text has one reading: its tokens, or its first fault.
use Rattle.std.proofs.Common.{◌≡◌, ℕ, ◌<◌, ◌≤◌, ◌^◌, ◌⊎◌, inl, inr, Bool, true, false, cond, List, [], ◌∷◌, ◌++◌, length, get_or, drop, Option, Some, None, codes, bytes_eq, if◌then◌else◌, sym, ◌∙◌, ap, refl, subst, subst₂, arith, append_assoc, length-append, IsTrue, true≢false}
use Rattle.std.proofs.lemmas.List.{append_cancel_right}
use Rattle.std.specs.List.{list_all}
use Rattle.std.specs.Char.{is_ascii_digit}
use Rattle.zir_lex.specs.Classes.{begins_word, number_of}
use Rattle.zir_lex.specs.Tables.{keyword_bytes, symbol_bytes}
use Rattle.zir_lex.specs.Spelling.{Piece, White, Comment, Word, piece_bytes, IsPiece, IsDecimal, IsHexadecimal, text_of}
use Rattle.zir_lex.specs.Tokens.{IsLongest, IsSound, Stands, AreRead, IsReadTo, Lexes, EndsAt, end_past, IsBadByte, IsBadNumber, BadByteAt, BadNumberAt, tokens_from}
use Rattle.zir_lex.specs.Places.{first_place}
use Rattle.zir_tree.specs.declared.place.Place.{Place}
use Rattle.zir_lex.specs.Fronts.{kind_of}
use Rattle.zir_lex.specs.declared.token.Keyword.{Keyword}
use Rattle.zir_lex.specs.declared.token.Keyword.TheVariants as keywords
use Rattle.zir_lex.specs.declared.token.Symbol.{Symbol}
use Rattle.zir_lex.specs.declared.token.Symbol.TheVariants as symbols
use Rattle.zir_lex.specs.declared.token.Lexeme.TheVariants as lexeme
use Rattle.zir_lex.specs.declared.token.Token.{Token}
use Rattle.zir_lex.proofs.FirstBytes.{piece_kind, begins, sign_no_comment}
use Rattle.zir_lex.proofs.Prefixes.{same_front}

-- the keyword of these bytes
abbrev keyword_named : List ℕ → Option Keyword
keyword_named bytes =
    if bytes_eq bytes (codes "arr") then Some keywords.Arr
    else (if bytes_eq bytes (codes "bit") then Some keywords.Bit
    else (if bytes_eq bytes (codes "bool") then Some keywords.Bool
    else (if bytes_eq bytes (codes "comp") then Some keywords.Comp
    else (if bytes_eq bytes (codes "complex16") then Some keywords.Complex16
    else (if bytes_eq bytes (codes "complex32") then Some keywords.Complex32
    else (if bytes_eq bytes (codes "do") then Some keywords.Do
    else (if bytes_eq bytes (codes "else") then Some keywords.Else
    else (if bytes_eq bytes (codes "emit") then Some keywords.Emit
    else (if bytes_eq bytes (codes "emits") then Some keywords.Emits
    else (if bytes_eq bytes (codes "error") then Some keywords.Error
    else (if bytes_eq bytes (codes "false") then Some keywords.False
    else (if bytes_eq bytes (codes "filter") then Some keywords.Filter
    else (if bytes_eq bytes (codes "for") then Some keywords.For
    else (if bytes_eq bytes (codes "fun") then Some keywords.Fun
    else (if bytes_eq bytes (codes "if") then Some keywords.If
    else (if bytes_eq bytes (codes "in") then Some keywords.In
    else (if bytes_eq bytes (codes "int") then Some keywords.Int
    else (if bytes_eq bytes (codes "int8") then Some keywords.Int8
    else (if bytes_eq bytes (codes "int16") then Some keywords.Int16
    else (if bytes_eq bytes (codes "int32") then Some keywords.Int32
    else (if bytes_eq bytes (codes "int64") then Some keywords.Int64
    else (if bytes_eq bytes (codes "let") then Some keywords.Let
    else (if bytes_eq bytes (codes "map") then Some keywords.Map
    else (if bytes_eq bytes (codes "not") then Some keywords.Not
    else (if bytes_eq bytes (codes "read") then Some keywords.Read
    else (if bytes_eq bytes (codes "repeat") then Some keywords.Repeat
    else (if bytes_eq bytes (codes "return") then Some keywords.Return
    else (if bytes_eq bytes (codes "struct") then Some keywords.Struct
    else (if bytes_eq bytes (codes "take") then Some keywords.Take
    else (if bytes_eq bytes (codes "takes") then Some keywords.Takes
    else (if bytes_eq bytes (codes "then") then Some keywords.Then
    else (if bytes_eq bytes (codes "times") then Some keywords.Times
    else (if bytes_eq bytes (codes "true") then Some keywords.True
    else (if bytes_eq bytes (codes "try") then Some keywords.Try
    else (if bytes_eq bytes (codes "until") then Some keywords.Until
    else (if bytes_eq bytes (codes "var") then Some keywords.Var
    else (if bytes_eq bytes (codes "viterbi") then Some keywords.Viterbi
    else (if bytes_eq bytes (codes "while") then Some keywords.While
    else (if bytes_eq bytes (codes "with") then Some keywords.With
    else (if bytes_eq bytes (codes "write") then Some keywords.Write
    else None))))))))))))))))))))))))))))))))))))))))

-- the sign of these bytes
abbrev symbol_named : List ℕ → Option Symbol
symbol_named bytes =
    if bytes_eq bytes (codes "|>>>|") then Some symbols.ParallelPipe
    else (if bytes_eq bytes (codes ">>>") then Some symbols.Pipe
    else (if bytes_eq bytes (codes ">>") then Some symbols.ShiftRight
    else (if bytes_eq bytes (codes "<<") then Some symbols.ShiftLeft
    else (if bytes_eq bytes (codes "<-") then Some symbols.LeftArrow
    else (if bytes_eq bytes (codes "<=") then Some symbols.LessEqual
    else (if bytes_eq bytes (codes ">=") then Some symbols.GreaterEqual
    else (if bytes_eq bytes (codes "==") then Some symbols.EqualEqual
    else (if bytes_eq bytes (codes "!=") then Some symbols.NotEqual
    else (if bytes_eq bytes (codes ":=") then Some symbols.Assign
    else (if bytes_eq bytes (codes "&&") then Some symbols.AndAnd
    else (if bytes_eq bytes (codes "||") then Some symbols.OrOr
    else (if bytes_eq bytes (codes "(") then Some symbols.LeftParenthesis
    else (if bytes_eq bytes (codes ")") then Some symbols.RightParenthesis
    else (if bytes_eq bytes (codes "{") then Some symbols.LeftBrace
    else (if bytes_eq bytes (codes "}") then Some symbols.RightBrace
    else (if bytes_eq bytes (codes "[") then Some symbols.LeftBracket
    else (if bytes_eq bytes (codes "]") then Some symbols.RightBracket
    else (if bytes_eq bytes (codes ",") then Some symbols.Comma
    else (if bytes_eq bytes (codes ";") then Some symbols.Semicolon
    else (if bytes_eq bytes (codes ":") then Some symbols.Colon
    else (if bytes_eq bytes (codes ".") then Some symbols.Dot
    else (if bytes_eq bytes (codes "=") then Some symbols.Equal
    else (if bytes_eq bytes (codes "<") then Some symbols.Less
    else (if bytes_eq bytes (codes ">") then Some symbols.Greater
    else (if bytes_eq bytes (codes "+") then Some symbols.Plus
    else (if bytes_eq bytes (codes "-") then Some symbols.Minus
    else (if bytes_eq bytes (codes "*") then Some symbols.Star
    else (if bytes_eq bytes (codes "/") then Some symbols.Slash
    else (if bytes_eq bytes (codes "%") then Some symbols.Percent
    else (if bytes_eq bytes (codes "&") then Some symbols.Ampersand
    else (if bytes_eq bytes (codes "|") then Some symbols.Bar
    else (if bytes_eq bytes (codes "^") then Some symbols.Caret
    else (if bytes_eq bytes (codes "~") then Some symbols.Tilde
    else None)))))))))))))))))))))))))))))))))

named_keyword : (keyword : Keyword) → keyword_named (keyword_bytes keyword) ≡ Some keyword
named_keyword keywords.Arr = refl
named_keyword keywords.Bit = refl
named_keyword keywords.Bool = refl
named_keyword keywords.Comp = refl
named_keyword keywords.Complex16 = refl
named_keyword keywords.Complex32 = refl
named_keyword keywords.Do = refl
named_keyword keywords.Else = refl
named_keyword keywords.Emit = refl
named_keyword keywords.Emits = refl
named_keyword keywords.Error = refl
named_keyword keywords.False = refl
named_keyword keywords.Filter = refl
named_keyword keywords.For = refl
named_keyword keywords.Fun = refl
named_keyword keywords.If = refl
named_keyword keywords.In = refl
named_keyword keywords.Int = refl
named_keyword keywords.Int8 = refl
named_keyword keywords.Int16 = refl
named_keyword keywords.Int32 = refl
named_keyword keywords.Int64 = refl
named_keyword keywords.Let = refl
named_keyword keywords.Map = refl
named_keyword keywords.Not = refl
named_keyword keywords.Read = refl
named_keyword keywords.Repeat = refl
named_keyword keywords.Return = refl
named_keyword keywords.Struct = refl
named_keyword keywords.Take = refl
named_keyword keywords.Takes = refl
named_keyword keywords.Then = refl
named_keyword keywords.Times = refl
named_keyword keywords.True = refl
named_keyword keywords.Try = refl
named_keyword keywords.Until = refl
named_keyword keywords.Var = refl
named_keyword keywords.Viterbi = refl
named_keyword keywords.While = refl
named_keyword keywords.With = refl
named_keyword keywords.Write = refl

named_symbol : (symbol : Symbol) → symbol_named (symbol_bytes symbol) ≡ Some symbol
named_symbol symbols.ParallelPipe = refl
named_symbol symbols.Pipe = refl
named_symbol symbols.ShiftRight = refl
named_symbol symbols.ShiftLeft = refl
named_symbol symbols.LeftArrow = refl
named_symbol symbols.LessEqual = refl
named_symbol symbols.GreaterEqual = refl
named_symbol symbols.EqualEqual = refl
named_symbol symbols.NotEqual = refl
named_symbol symbols.Assign = refl
named_symbol symbols.AndAnd = refl
named_symbol symbols.OrOr = refl
named_symbol symbols.LeftParenthesis = refl
named_symbol symbols.RightParenthesis = refl
named_symbol symbols.LeftBrace = refl
named_symbol symbols.RightBrace = refl
named_symbol symbols.LeftBracket = refl
named_symbol symbols.RightBracket = refl
named_symbol symbols.Comma = refl
named_symbol symbols.Semicolon = refl
named_symbol symbols.Colon = refl
named_symbol symbols.Dot = refl
named_symbol symbols.Equal = refl
named_symbol symbols.Less = refl
named_symbol symbols.Greater = refl
named_symbol symbols.Plus = refl
named_symbol symbols.Minus = refl
named_symbol symbols.Star = refl
named_symbol symbols.Slash = refl
named_symbol symbols.Percent = refl
named_symbol symbols.Ampersand = refl
named_symbol symbols.Bar = refl
named_symbol symbols.Caret = refl
named_symbol symbols.Tilde = refl

-- no two keywords, and no two signs, are spelled alike
one_keyword : (a b : Keyword) → keyword_bytes a ≡ keyword_bytes b → a ≡ b
one_keyword a b same =
    let both : Some a ≡ Some b = sym (named_keyword a) ∙ ap keyword_named same ∙ named_keyword b in
    cc both

one_symbol : (a b : Symbol) → symbol_bytes a ≡ symbol_bytes b → a ≡ b
one_symbol a b same =
    let both : Some a ≡ Some b = sym (named_symbol a) ∙ ap symbol_named same ∙ named_symbol b in
    cc both

-- the bit by its bytes
abbrev bit_bytes : Bool → List ℕ
bit_bytes bit = 39 ∷ cond bit 49 48 ∷ []

one_bit : (a b : Bool) → bit_bytes a ≡ bit_bytes b → a ≡ b
one_bit true true same = refl
one_bit false false same = refl
one_bit true false same = absurd (omega (arith, ap (λ l. get_or l 1 0) same))
one_bit false true same = absurd (omega (arith, ap (λ l. get_or l 1 0) same))

no_decimal : (n : ℕ) (bytes after : List ℕ) → IsDecimal n bytes → bytes ≡ 48 ∷ 120 ∷ after → ⊥
no_decimal n bytes after decimal same =
    let digits : list_all is_ascii_digit (48 ∷ 120 ∷ after) ≡ true = subst (λ (l : List ℕ). list_all is_ascii_digit l ≡ true) same decimal.digits in
    true≢false (sym digits)

one_number : (m n : ℕ) (bytes : List ℕ) → IsDecimal m bytes ⊎ IsHexadecimal m bytes → IsDecimal n bytes ⊎ IsHexadecimal n bytes → m ≡ n
one_number m n bytes (inl a) (inl b) = a.value ∙ sym b.value
one_number m n bytes (inl a) (inr b) = absurd (no_decimal m bytes b.after a b.prefix)
one_number m n bytes (inr a) (inl b) = absurd (no_decimal n bytes a.after b a.prefix)
one_number m n bytes (inr a) (inr b) = a.value ∙ ap (λ l. number_of 16 (drop 2 l)) (sym a.prefix ∙ b.prefix) ∙ sym b.value

-- two pieces with the same bytes are of one kind
one_kind : (a b : Piece) → IsPiece a → IsPiece b → piece_bytes a ≡ piece_bytes b → piece_kind a ≡ piece_kind b
one_kind a b first second same =
    sym (begins a [] first).1 ∙ ap (λ l. kind_of (get_or (l ++ []) 0 0)) same ∙ (begins b [] second).1

-- two pieces with the same bytes are one
one_piece : (a b : Piece) → piece_kind a ≡ piece_kind b → IsPiece a → IsPiece b → piece_bytes a ≡ piece_bytes b → a ≡ b
one_piece (White b1) (White b2) kinds first second same = cc
one_piece (White b1) (Comment line2) kinds first second same = absurd cc
one_piece (White b1) (Word (lexeme.Name name2) bytes2) kinds first second same = absurd cc
one_piece (White b1) (Word (lexeme.Keyword keyword2) bytes2) kinds first second same = absurd cc
one_piece (White b1) (Word (lexeme.Int n2) bytes2) kinds first second same = absurd cc
one_piece (White b1) (Word (lexeme.Bit bit2) bytes2) kinds first second same = absurd cc
one_piece (White b1) (Word (lexeme.Text text2) bytes2) kinds first second same = absurd cc
one_piece (White b1) (Word (lexeme.Symbol symbol2) bytes2) kinds first second same = absurd cc
one_piece (Comment line1) (White b2) kinds first second same = absurd cc
one_piece (Comment line1) (Comment line2) kinds first second same = cc
one_piece (Comment line1) (Word (lexeme.Name name2) bytes2) kinds first second same = absurd cc
one_piece (Comment line1) (Word (lexeme.Keyword keyword2) bytes2) kinds first second same = absurd cc
one_piece (Comment line1) (Word (lexeme.Int n2) bytes2) kinds first second same = absurd cc
one_piece (Comment line1) (Word (lexeme.Bit bit2) bytes2) kinds first second same = absurd cc
one_piece (Comment line1) (Word (lexeme.Text text2) bytes2) kinds first second same = absurd cc
one_piece (Comment line1) (Word (lexeme.Symbol symbol2) bytes2) kinds first second same = absurd (sign_no_comment symbol2 line1 (sym (same ∙ second)))
one_piece (Word (lexeme.Name name1) bytes1) (White b2) kinds first second same = absurd cc
one_piece (Word (lexeme.Name name1) bytes1) (Comment line2) kinds first second same = absurd cc
one_piece (Word (lexeme.Name name1) bytes1) (Word (lexeme.Name name2) bytes2) kinds first second same = let name : name1 ≡ name2 = first.0 ∙ same ∙ sym second.0 in cc
one_piece (Word (lexeme.Name name1) bytes1) (Word (lexeme.Keyword keyword2) bytes2) kinds first second same = absurd (first.2 keyword2 (sym (same ∙ second)))
one_piece (Word (lexeme.Name name1) bytes1) (Word (lexeme.Int n2) bytes2) kinds first second same = absurd cc
one_piece (Word (lexeme.Name name1) bytes1) (Word (lexeme.Bit bit2) bytes2) kinds first second same = absurd cc
one_piece (Word (lexeme.Name name1) bytes1) (Word (lexeme.Text text2) bytes2) kinds first second same = absurd cc
one_piece (Word (lexeme.Name name1) bytes1) (Word (lexeme.Symbol symbol2) bytes2) kinds first second same = absurd cc
one_piece (Word (lexeme.Keyword keyword1) bytes1) (White b2) kinds first second same = absurd cc
one_piece (Word (lexeme.Keyword keyword1) bytes1) (Comment line2) kinds first second same = absurd cc
one_piece (Word (lexeme.Keyword keyword1) bytes1) (Word (lexeme.Name name2) bytes2) kinds first second same = absurd (second.2 keyword1 (sym first ∙ same))
one_piece (Word (lexeme.Keyword keyword1) bytes1) (Word (lexeme.Keyword keyword2) bytes2) kinds first second same = let keyword : keyword1 ≡ keyword2 = one_keyword keyword1 keyword2 (sym first ∙ same ∙ second) in cc
one_piece (Word (lexeme.Keyword keyword1) bytes1) (Word (lexeme.Int n2) bytes2) kinds first second same = absurd cc
one_piece (Word (lexeme.Keyword keyword1) bytes1) (Word (lexeme.Bit bit2) bytes2) kinds first second same = absurd cc
one_piece (Word (lexeme.Keyword keyword1) bytes1) (Word (lexeme.Text text2) bytes2) kinds first second same = absurd cc
one_piece (Word (lexeme.Keyword keyword1) bytes1) (Word (lexeme.Symbol symbol2) bytes2) kinds first second same = absurd cc
one_piece (Word (lexeme.Int n1) bytes1) (White b2) kinds first second same = absurd cc
one_piece (Word (lexeme.Int n1) bytes1) (Comment line2) kinds first second same = absurd cc
one_piece (Word (lexeme.Int n1) bytes1) (Word (lexeme.Name name2) bytes2) kinds first second same = absurd cc
one_piece (Word (lexeme.Int n1) bytes1) (Word (lexeme.Keyword keyword2) bytes2) kinds first second same = absurd cc
one_piece (Word (lexeme.Int n1) bytes1) (Word (lexeme.Int n2) bytes2) kinds first second same = let n : n1 ≡ n2 = one_number n1 n2 bytes2 (subst (λ (l : List ℕ). IsDecimal n1 l ⊎ IsHexadecimal n1 l) same first) second in cc
one_piece (Word (lexeme.Int n1) bytes1) (Word (lexeme.Bit bit2) bytes2) kinds first second same = absurd cc
one_piece (Word (lexeme.Int n1) bytes1) (Word (lexeme.Text text2) bytes2) kinds first second same = absurd cc
one_piece (Word (lexeme.Int n1) bytes1) (Word (lexeme.Symbol symbol2) bytes2) kinds first second same = absurd cc
one_piece (Word (lexeme.Bit bit1) bytes1) (White b2) kinds first second same = absurd cc
one_piece (Word (lexeme.Bit bit1) bytes1) (Comment line2) kinds first second same = absurd cc
one_piece (Word (lexeme.Bit bit1) bytes1) (Word (lexeme.Name name2) bytes2) kinds first second same = absurd cc
one_piece (Word (lexeme.Bit bit1) bytes1) (Word (lexeme.Keyword keyword2) bytes2) kinds first second same = absurd cc
one_piece (Word (lexeme.Bit bit1) bytes1) (Word (lexeme.Int n2) bytes2) kinds first second same = absurd cc
one_piece (Word (lexeme.Bit bit1) bytes1) (Word (lexeme.Bit bit2) bytes2) kinds first second same = let bit : bit1 ≡ bit2 = one_bit bit1 bit2 (sym first ∙ same ∙ second) in cc
one_piece (Word (lexeme.Bit bit1) bytes1) (Word (lexeme.Text text2) bytes2) kinds first second same = absurd cc
one_piece (Word (lexeme.Bit bit1) bytes1) (Word (lexeme.Symbol symbol2) bytes2) kinds first second same = absurd cc
one_piece (Word (lexeme.Text text1) bytes1) (White b2) kinds first second same = absurd cc
one_piece (Word (lexeme.Text text1) bytes1) (Comment line2) kinds first second same = absurd cc
one_piece (Word (lexeme.Text text1) bytes1) (Word (lexeme.Name name2) bytes2) kinds first second same = absurd cc
one_piece (Word (lexeme.Text text1) bytes1) (Word (lexeme.Keyword keyword2) bytes2) kinds first second same = absurd cc
one_piece (Word (lexeme.Text text1) bytes1) (Word (lexeme.Int n2) bytes2) kinds first second same = absurd cc
one_piece (Word (lexeme.Text text1) bytes1) (Word (lexeme.Bit bit2) bytes2) kinds first second same = absurd cc
one_piece (Word (lexeme.Text text1) bytes1) (Word (lexeme.Text text2) bytes2) kinds first second same = let text : text1 ≡ text2 = append_cancel_right text1 text2 (34 ∷ []) (ap (drop 1) (sym first.0 ∙ same ∙ second.0)) in cc
one_piece (Word (lexeme.Text text1) bytes1) (Word (lexeme.Symbol symbol2) bytes2) kinds first second same = absurd cc
one_piece (Word (lexeme.Symbol symbol1) bytes1) (White b2) kinds first second same = absurd cc
one_piece (Word (lexeme.Symbol symbol1) bytes1) (Comment line2) kinds first second same = absurd (sign_no_comment symbol1 line2 (sym first ∙ same))
one_piece (Word (lexeme.Symbol symbol1) bytes1) (Word (lexeme.Name name2) bytes2) kinds first second same = absurd cc
one_piece (Word (lexeme.Symbol symbol1) bytes1) (Word (lexeme.Keyword keyword2) bytes2) kinds first second same = absurd cc
one_piece (Word (lexeme.Symbol symbol1) bytes1) (Word (lexeme.Int n2) bytes2) kinds first second same = absurd cc
one_piece (Word (lexeme.Symbol symbol1) bytes1) (Word (lexeme.Bit bit2) bytes2) kinds first second same = absurd cc
one_piece (Word (lexeme.Symbol symbol1) bytes1) (Word (lexeme.Text text2) bytes2) kinds first second same = absurd cc
one_piece (Word (lexeme.Symbol symbol1) bytes1) (Word (lexeme.Symbol symbol2) bytes2) kinds first second same = let symbol : symbol1 ≡ symbol2 = one_symbol symbol1 symbol2 (sym first ∙ same ∙ second) in cc

-- what stands first in a text is one piece, and one rest
pub one_first : (a b : Piece) (x y : List ℕ) → IsPiece a → IsLongest a x → IsPiece b → IsLongest b y → piece_bytes a ++ x ≡ piece_bytes b ++ y → (a ≡ b) × (x ≡ y)
one_first a b x y is_a longest_a is_b longest_b same =
    let less : length (piece_bytes a) ≤ length (piece_bytes b) = longest_b a x is_a same in
    let more : length (piece_bytes b) ≤ length (piece_bytes a) = longest_a b y is_b (sym same) in
    let both : (piece_bytes a ≡ piece_bytes b) × (x ≡ y) = same_front (piece_bytes a) (piece_bytes b) x y (omega arith) same in
    (one_piece a b (one_kind a b is_a is_b both.0) is_a is_b both.0, both.1)

-- no piece stands at the front of the rest
abbrev pub IsStuck : List ℕ → Type 0
IsStuck rest = (piece : Piece) (after : List ℕ) → Stands piece after → rest ≡ piece_bytes piece ++ after → ⊥

-- a text is read as the same pieces up to the same rest
pub one_reading : (ps qs : List Piece) (x y : List ℕ) → AreRead ps x → AreRead qs y → text_of ps ++ x ≡ text_of qs ++ y → IsStuck x → IsStuck y → (ps ≡ qs) × (x ≡ y)
one_reading [] [] x y read_x read_y same stuck_x stuck_y = (refl, same)
one_reading [] (q ∷ qs) x y read_x read_y same stuck_x stuck_y = absurd (stuck_x q (text_of qs ++ y) read_y.0 (same ∙ append_assoc (piece_bytes q) (text_of qs) y))
one_reading (p ∷ ps) [] x y read_x read_y same stuck_x stuck_y = absurd (stuck_y p (text_of ps ++ x) read_x.0 (sym same ∙ append_assoc (piece_bytes p) (text_of ps) x))
one_reading (p ∷ ps) (q ∷ qs) x y read_x read_y same stuck_x stuck_y =
    let shifted : piece_bytes p ++ (text_of ps ++ x) ≡ piece_bytes q ++ (text_of qs ++ y) = sym (append_assoc (piece_bytes p) (text_of ps) x) ∙ same ∙ append_assoc (piece_bytes q) (text_of qs) y in
    let first : (p ≡ q) × (text_of ps ++ x ≡ text_of qs ++ y) = one_first p q (text_of ps ++ x) (text_of qs ++ y) read_x.0.spelled read_x.0.longest read_y.0.spelled read_y.0.longest shifted in
    let later : (ps ≡ qs) × (x ≡ y) = one_reading ps qs x y read_x.1 read_y.1 first.1 stuck_x stuck_y in
    (cc, later.1)

-- where nothing is left, where no piece begins and where a faulty number stands, no piece is read
piece_some : (piece : Piece) (after : List ℕ) → IsPiece piece → [] ≡ piece_bytes piece ++ after → ⊥
piece_some piece after spelled whole = omega (arith, (begins piece after spelled).0, ap length whole, length-append (piece_bytes piece) after)

pub end_is_stuck : IsStuck []
end_is_stuck piece after stands whole = piece_some piece after stands.spelled whole

pub bad_byte_is_stuck : (rest : List ℕ) → IsBadByte rest → IsStuck rest
bad_byte_is_stuck rest bad piece after stands whole = bad.none piece after stands.spelled whole

not_sound : (n : ℕ) (bytes after : List ℕ) → (2 ^ 63 < n) ⊎ IsTrue (begins_word after) → IsSound (Word (lexeme.Int n) bytes) after → ⊥
not_sound n bytes after (inl above) sound = omega (arith, sound.0)
not_sound n bytes after (inr follows) sound = true≢false (sym follows ∙ sound.1)

pub bad_number_is_stuck : (rest : List ℕ) → IsBadNumber rest → IsStuck rest
bad_number_is_stuck rest bad piece after stands whole =
    let number : Piece = Word (lexeme.Int bad.value) bad.bytes in
    let same : (Word (lexeme.Int bad.value) bad.bytes ≡ piece) × (bad.after ≡ after) = one_first (Word (lexeme.Int bad.value) bad.bytes) piece bad.after after bad.spelled bad.longest stands.spelled stands.longest (sym bad.whole ∙ whole) in
    not_sound bad.value bad.bytes bad.after bad.fault (subst₂ IsSound (sym same.0) (sym same.1) stands.sound)

-- of the three ends of a reading one rest has one
no_end_byte : IsBadByte [] → ⊥
no_end_byte bad = omega (arith, bad.some)

no_end_number : IsBadNumber [] → ⊥
no_end_number bad = piece_some (Word (lexeme.Int bad.value) bad.bytes) bad.after bad.spelled bad.whole

no_byte_number : (rest : List ℕ) → IsBadByte rest → IsBadNumber rest → ⊥
no_byte_number rest byte number = byte.none (Word (lexeme.Int number.value) number.bytes) number.after number.spelled number.whole

-- two readings of one text up to rests where no piece is read
same_reading : (text : List ℕ) (ps qs : List Piece) (x y : List ℕ) → IsReadTo text ps x → IsReadTo text qs y → IsStuck x → IsStuck y → (ps ≡ qs) × (x ≡ y)
same_reading text ps qs x y a b stuck_x stuck_y = one_reading ps qs x y a.read b.read (sym a.whole ∙ b.whole) stuck_x stuck_y

pub one_list : (text : List ℕ) (a b : List Token) → Lexes text a → Lexes text b → a ≡ b
one_list text a b one other =
    let same : (one.pieces ≡ other.pieces) × ([] ≡ []) = same_reading text one.pieces other.pieces [] [] one.read other.read end_is_stuck end_is_stuck in
    one.are ∙ ap (tokens_from first_place) same.0 ∙ sym other.are

pub one_end : (text : List ℕ) (a b : Place) → EndsAt text a → EndsAt text b → a ≡ b
one_end text a b one other =
    let same : (one.pieces ≡ other.pieces) × ([] ≡ []) = same_reading text one.pieces other.pieces [] [] one.read other.read end_is_stuck end_is_stuck in
    one.is ∙ ap (end_past first_place first_place) same.0 ∙ sym other.is

pub no_bad_byte : (text : List ℕ) (tokens : List Token) (at : ℕ) → Lexes text tokens → BadByteAt text at → ⊥
no_bad_byte text tokens at lexes bad =
    let same : (lexes.pieces ≡ bad.pieces) × ([] ≡ bad.rest) = same_reading text lexes.pieces bad.pieces [] bad.rest lexes.read bad.read end_is_stuck (bad_byte_is_stuck bad.rest bad.bad) in
    no_end_byte (subst IsBadByte (sym same.1) bad.bad)

pub no_bad_number : (text : List ℕ) (tokens : List Token) (at : ℕ) → Lexes text tokens → BadNumberAt text at → ⊥
no_bad_number text tokens at lexes bad =
    let same : (lexes.pieces ≡ bad.pieces) × ([] ≡ bad.rest) = same_reading text lexes.pieces bad.pieces [] bad.rest lexes.read bad.read end_is_stuck (bad_number_is_stuck bad.rest bad.bad) in
    no_end_number (subst IsBadNumber (sym same.1) bad.bad)

pub one_bad_byte : (text : List ℕ) (a b : ℕ) → BadByteAt text a → BadByteAt text b → a ≡ b
one_bad_byte text a b one other =
    let same : (one.pieces ≡ other.pieces) × (one.rest ≡ other.rest) = same_reading text one.pieces other.pieces one.rest other.rest one.read other.read (bad_byte_is_stuck one.rest one.bad) (bad_byte_is_stuck other.rest other.bad) in
    one.place ∙ ap (λ pieces. length (text_of pieces)) same.0 ∙ sym other.place

pub one_bad_number : (text : List ℕ) (a b : ℕ) → BadNumberAt text a → BadNumberAt text b → a ≡ b
one_bad_number text a b one other =
    let same : (one.pieces ≡ other.pieces) × (one.rest ≡ other.rest) = same_reading text one.pieces other.pieces one.rest other.rest one.read other.read (bad_number_is_stuck one.rest one.bad) (bad_number_is_stuck other.rest other.bad) in
    one.place ∙ ap (λ pieces. length (text_of pieces)) same.0 ∙ sym other.place

pub one_fault : (text : List ℕ) (a b : ℕ) → BadByteAt text a → BadNumberAt text b → ⊥
one_fault text a b byte number =
    let same : (byte.pieces ≡ number.pieces) × (byte.rest ≡ number.rest) = same_reading text byte.pieces number.pieces byte.rest number.rest byte.read number.read (bad_byte_is_stuck byte.rest byte.bad) (bad_number_is_stuck number.rest number.bad) in
    no_byte_number number.rest (subst IsBadByte same.1 byte.bad) number.bad
