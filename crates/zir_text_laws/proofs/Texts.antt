-- The canonical text is read as the canonical lexemes: each stands before white space, and none goes on past it.
use Rattle.std.proofs.Common.{◌≡◌, ◌≢◌, ℕ, ◌+◌, ◌*◌, ◌/◌, ◌%◌, ◌^◌, ◌<◌, ◌≤◌, inl, Bool, true, false, cond, List, [], ◌∷◌, ◌++◌, length, get_or, take, drop, refl, sym, ap, ◌∙◌, subst, arith, eqb, eqb-true, true≢false, append_assoc, append-nil, length-append, decimal}
use Rattle.std.specs.Prelude.{zero, suc, ◌&&◌}
use Rattle.std.specs.List.{prefix_len, list_all}
use Rattle.std.specs.Char.{is_ascii_digit, is_ascii_hexdigit, digit_value}
use Rattle.std.proofs.lemmas.Bool.{and_parts}
use Rattle.std.proofs.lemmas.Fmt.{decimal_by_steps}
use Rattle.std.proofs.Math.Seq.{get_or-append_seam}
use Rattle.zir_tree.specs.declared.place.Place.{Place}
use Rattle.zir_lex.specs.Classes.{is_white, is_word_byte, is_string_byte, number_of}
use Rattle.zir_lex.specs.Tables.{keyword_bytes, symbol_bytes}
use Rattle.zir_lex.specs.Spelling.{Piece, White, Comment, Word, piece_bytes, IsPiece, IsWord, IsDecimal, text_of}
use Rattle.zir_lex.specs.Places.{place_past, first_place}
use Rattle.zir_lex.specs.Tokens.{IsLongest, IsWhole, Stands, AreRead, Lexes, tokens_from}
use Rattle.zir_lex.specs.Fronts.{OfWord, kind_of, begins_hexadecimal}
use Rattle.zir_lex.specs.declared.token.Symbol.{Symbol}
use Rattle.zir_lex.specs.declared.token.Symbol.TheVariants as symbols
use Rattle.zir_lex.specs.declared.token.Token.{Token}
use Rattle.zir_lex.specs.declared.token.Lexeme.{Lexeme}
use Rattle.zir_lex.specs.declared.token.Lexeme.TheVariants as lexeme
use Rattle.zir_lex.proofs.DigitSums.{number_push}
use Rattle.zir_lex.proofs.FirstBytes.{piece_kind, begins, keyword_is_word, sign_in_dashes}
use Rattle.zir_lex.proofs.Prefixes.{front_within, front_ends}
use Rattle.zir_lex.proofs.Longest.{Within, longest_of, word_bytes, within_white, within_word, bit_at, string_at, within_sign, within_decimal}
use Rattle.zir_tree.specs.declared.program.Decl.{Decl}
use Rattle.zir_tree.specs.declared.program.Prog.{Prog}
use Rattle.zir_print.specs.Canonical.{decl_words, decls_words, main_words, canonical}
use Rattle.zir_print.specs.Text.{spelling, spaced, line, decl_lines, canonical_text}
use Rattle.zir_text_laws.specs.Laws.{lexemes, HasLexemes}
use Rattle.zir_text_laws.proofs.Spelled.{Spellable, AllSpellable, AllOf, prog_all}
use Rattle.zir_grammar.specs.Claim.{IsLowProg}

-- ---- white space ends what stands before it

-- a space, or a newline
abbrev blank : Bool → ℕ
blank true = 10
blank false = 32

blank_word : (b : Bool) → is_word_byte (blank b) ≡ false
blank_word true = refl
blank_word false = refl

blank_digit : (b : Bool) → is_ascii_digit (blank b) ≡ false
blank_digit true = refl
blank_digit false = refl

blank_no_dash : (b : Bool) → blank b ≡ 45 → ⊥
blank_no_dash true same = omega arith
blank_no_dash false same = omega arith

blank_white : (b : Bool) → is_white (blank b) ≡ true
blank_white true = refl
blank_white false = refl

-- a byte of a sign
abbrev is_sign_byte : ℕ → Bool
is_sign_byte b = cond (is_white b) false true

blank_sign : (b : Bool) → is_sign_byte (blank b) ≡ false
blank_sign true = refl
blank_sign false = refl

-- ---- a piece of the greatest length stands there

take_front : (xs ys : List ℕ) → take (length xs) (xs ++ ys) ≡ xs
take_front [] ys = refl
take_front (x ∷ xs) ys = ap (λ l. x ∷ l) (take_front xs ys)

drop_front : (xs ys : List ℕ) → drop (length xs) (xs ++ ys) ≡ ys
drop_front [] ys = refl
drop_front (x ∷ xs) ys = drop_front xs ys

stands_of : (w : Lexeme) (bytes rest : List ℕ) → IsPiece (Word w bytes) → IsWhole w rest → Within (bytes ++ rest) (length bytes) → Stands (Word w bytes) rest
stands_of w bytes rest spelled whole within = record {
  spelled = spelled;
  longest =
      subst (λ l. IsLongest (Word w bytes) l) (drop_front bytes rest)
      (longest_of (Word w bytes) (length bytes) (bytes ++ rest) (omega (arith, length-append bytes rest)) (sym (take_front bytes rest)) within);
  sound = whole;
}

kind_is : (w : Lexeme) (bytes rest : List ℕ) → IsPiece (Word w bytes) → kind_of (get_or (bytes ++ rest) 0 0) ≡ piece_kind (Word w bytes)
kind_is w bytes rest spelled = (begins (Word w bytes) rest spelled).1

-- white space is one byte
white_stands : (b : Bool) (rest : List ℕ) → Stands (White (blank b)) rest
white_stands b rest = record {
  spelled = blank_white b;
  longest = longest_of (White (blank b)) 1 (blank b ∷ rest) (omega arith) refl (within_white (blank b ∷ rest) (begins (White (blank b)) rest (blank_white b)).1);
  sound = tt;
}

word_stands : (w : Lexeme) (bytes rest : List ℕ) (b : Bool) → IsPiece (Word w bytes) → IsWhole w (blank b ∷ rest) → list_all is_word_byte bytes ≡ true → kind_of (get_or (bytes ++ blank b ∷ rest) 0 0) ≡ OfWord → Stands (Word w bytes) (blank b ∷ rest)
word_stands w bytes rest b spelled whole all kind =
    stands_of w bytes (blank b ∷ rest) spelled whole
    (subst (λ n. Within (bytes ++ blank b ∷ rest) n) (front_ends is_word_byte bytes (blank b) rest all (blank_word b)) (within_word (bytes ++ blank b ∷ rest) kind))

-- ---- decimal numbers

digit_is : (n : ℕ) → n < 10 → (is_ascii_digit (48 + n) ≡ true) × (digit_value (48 + n) ≡ n)
digit_is zero low = (refl, refl)
digit_is (suc zero) low = (refl, refl)
digit_is (suc (suc zero)) low = (refl, refl)
digit_is (suc (suc (suc zero))) low = (refl, refl)
digit_is (suc (suc (suc (suc zero)))) low = (refl, refl)
digit_is (suc (suc (suc (suc (suc zero))))) low = (refl, refl)
digit_is (suc (suc (suc (suc (suc (suc zero)))))) low = (refl, refl)
digit_is (suc (suc (suc (suc (suc (suc (suc zero))))))) low = (refl, refl)
digit_is (suc (suc (suc (suc (suc (suc (suc (suc zero)))))))) low = (refl, refl)
digit_is (suc (suc (suc (suc (suc (suc (suc (suc (suc zero))))))))) low = (refl, refl)
digit_is (suc (suc (suc (suc (suc (suc (suc (suc (suc (suc n)))))))))) low = absurd (omega arith)

all_push : (p : ℕ → Bool) (xs : List ℕ) (y : ℕ) → list_all p xs ≡ true → p y ≡ true → list_all p (xs ++ y ∷ []) ≡ true
all_push p [] y all one = rw one refl
all_push p (x ∷ xs) y all one =
    let parts : (p x ≡ true) × (list_all p xs ≡ true) = and_parts (p x) (list_all p xs) all in
    rw parts.0 (all_push p xs y parts.1 one)

zero_times : (d : ℕ) → 0 * 10 + d ≡ d
zero_times d = omega arith

number_one : (n : ℕ) → n < 10 → IsDecimal n ((48 + n) ∷ [])
number_one n low =
    let d = digit_is n low in
    record { some = omega arith; digits = rw d.0 refl; value = sym d.1 ∙ sym (number_push 10 [] (48 + n) ∙ zero_times (digit_value (48 + n))) }

number_more : (n : ℕ) (ds : List ℕ) → 10 ≤ n → IsDecimal (n / 10) ds → IsDecimal n (ds ++ ((48 + n % 10) ∷ []))
number_more n ds many x =
    let d = digit_is (n % 10) (omega arith) in
    let front : n / 10 ≡ number_of 10 ds = x.value in
    let back : digit_value (48 + n % 10) ≡ n % 10 = d.1 in
    let whole : number_of 10 (ds ++ ((48 + n % 10) ∷ [])) ≡ number_of 10 ds * 10 + digit_value (48 + n % 10) = number_push 10 ds (48 + n % 10) in
    record { some = omega (arith, length-append ds ((48 + n % 10) ∷ [])); digits = all_push is_ascii_digit ds (48 + n % 10) x.digits d.0; value = omega arith }

decimal_is : (n : ℕ) → n ≤ 2 ^ 63 → IsDecimal n (decimal n)
decimal_is n low = decimal_by_steps IsDecimal number_one number_more n (omega arith)

digit_no_x : (d : ℕ) (v : Bool) → eqb d 120 ≡ v → is_ascii_digit d ≡ true → v ≡ false
digit_no_x d true same digit = absurd (true≢false (sym digit ∙ ap is_ascii_digit (eqb-true d 120 same)))
digit_no_x d false same digit = refl

and_false : (a c : Bool) → (a && (false && c)) ≡ false
and_false true c = refl
and_false false c = refl

blank_no_x : (b : Bool) → eqb (blank b) 120 ≡ false
blank_no_x true = refl
blank_no_x false = refl

-- no `0x` begins a decimal number
no_hexadecimal : (ds rest : List ℕ) (b : Bool) → list_all is_ascii_digit ds ≡ true → 0 < length ds → begins_hexadecimal (ds ++ blank b ∷ rest) ≡ false
no_hexadecimal [] rest b all some = absurd (omega arith)
no_hexadecimal (d ∷ []) rest b all some = ap (λ v. eqb d 48 && (v && is_ascii_hexdigit (get_or rest 0 0))) (blank_no_x b) ∙ and_false (eqb d 48) (is_ascii_hexdigit (get_or rest 0 0))
no_hexadecimal (d ∷ e ∷ ds) rest b all some =
    let digit : is_ascii_digit e ≡ true = (and_parts (is_ascii_digit e) (list_all is_ascii_digit ds) (and_parts (is_ascii_digit d) (list_all is_ascii_digit (e ∷ ds)) all).1).0 in
    let third : Bool = is_ascii_hexdigit (get_or (ds ++ blank b ∷ rest) 0 0) in
    ap (λ v. eqb d 48 && (v && third)) (digit_no_x e (eqb e 120) refl digit) ∙ and_false (eqb d 48) third

number_stands : (n : ℕ) (rest : List ℕ) (b : Bool) → n ≤ 2 ^ 63 → Stands (Word (lexeme.Int n) (decimal n)) (blank b ∷ rest)
number_stands n rest b low =
    let x = decimal_is n low in
    let kind = kind_is (lexeme.Int n) (decimal n) (blank b ∷ rest) (inl x) in
    stands_of (lexeme.Int n) (decimal n) (blank b ∷ rest) (inl x) (low, blank_word b)
    (subst (λ k. Within (decimal n ++ blank b ∷ rest) k) (front_ends is_ascii_digit (decimal n) (blank b) rest x.digits (blank_digit b))
    (within_decimal (decimal n ++ blank b ∷ rest) (no_hexadecimal (decimal n) rest b x.digits x.some) kind))

-- ---- bits and texts

bit_stands : (v : Bool) (rest : List ℕ) → Stands (Word (lexeme.Bit v) (spelling (lexeme.Bit v))) rest
bit_stands v rest =
    let bytes : List ℕ = spelling (lexeme.Bit v) in
    let kind = kind_is (lexeme.Bit v) bytes rest refl in
    stands_of (lexeme.Bit v) bytes rest refl tt (λ other after spelled whole same. let two = (bit_at (bytes ++ rest) kind other after spelled whole same).two in omega arith)

text_stands : (s rest : List ℕ) → list_all is_string_byte s ≡ true → Stands (Word (lexeme.Text s) (spelling (lexeme.Text s))) rest
text_stands s rest all =
    let bytes : List ℕ = spelling (lexeme.Text s) in
    let kind = kind_is (lexeme.Text s) bytes rest (refl, all) in
    let front : prefix_len is_string_byte ((s ++ 34 ∷ []) ++ rest) ≡ length s =
    ap (λ l. prefix_len is_string_byte l) (append_assoc s (34 ∷ []) rest) ∙ front_ends is_string_byte s 34 rest all refl in
    let long : length (s ++ 34 ∷ []) ≡ length s + 1 = length-append s (34 ∷ []) in
    stands_of (lexeme.Text s) bytes rest (refl, all) tt
    (λ other after spelled whole same.
    let len : length (piece_bytes other) ≡ prefix_len is_string_byte ((s ++ 34 ∷ []) ++ rest) + 2 = (string_at (bytes ++ rest) kind other after spelled whole same).len in
    omega arith)

-- ---- signs

sign_bytes : (s : Symbol) → list_all is_sign_byte (symbol_bytes s) ≡ true
sign_bytes symbols.ParallelPipe = refl
sign_bytes symbols.Pipe = refl
sign_bytes symbols.ShiftRight = refl
sign_bytes symbols.ShiftLeft = refl
sign_bytes symbols.LeftArrow = refl
sign_bytes symbols.LessEqual = refl
sign_bytes symbols.GreaterEqual = refl
sign_bytes symbols.EqualEqual = refl
sign_bytes symbols.NotEqual = refl
sign_bytes symbols.Assign = refl
sign_bytes symbols.AndAnd = refl
sign_bytes symbols.OrOr = refl
sign_bytes symbols.LeftParenthesis = refl
sign_bytes symbols.RightParenthesis = refl
sign_bytes symbols.LeftBrace = refl
sign_bytes symbols.RightBrace = refl
sign_bytes symbols.LeftBracket = refl
sign_bytes symbols.RightBracket = refl
sign_bytes symbols.Comma = refl
sign_bytes symbols.Semicolon = refl
sign_bytes symbols.Colon = refl
sign_bytes symbols.Dot = refl
sign_bytes symbols.Equal = refl
sign_bytes symbols.Less = refl
sign_bytes symbols.Greater = refl
sign_bytes symbols.Plus = refl
sign_bytes symbols.Minus = refl
sign_bytes symbols.Star = refl
sign_bytes symbols.Slash = refl
sign_bytes symbols.Percent = refl
sign_bytes symbols.Ampersand = refl
sign_bytes symbols.Bar = refl
sign_bytes symbols.Caret = refl
sign_bytes symbols.Tilde = refl

-- behind white space no sign is a comment
sign_no_dashes : (s : Symbol) (b : Bool) (rest line : List ℕ) → symbol_bytes s ++ blank b ∷ rest ≡ 45 ∷ 45 ∷ line → ⊥
sign_no_dashes s b rest line same =
    let some : 0 < length (symbol_bytes s) = (begins (Word (lexeme.Symbol s) (symbol_bytes s)) [] refl).0 in
    let short : length (symbol_bytes s) ≤ 1 = sign_in_dashes s (blank b ∷ rest) line same in
    let one : length (symbol_bytes s) ≡ 1 = omega arith in
    let seam : get_or (symbol_bytes s ++ blank b ∷ rest) (length (symbol_bytes s)) 0 ≡ blank b = get_or-append_seam (symbol_bytes s) (blank b) rest 0 in
    let second : blank b ≡ 45 = sym seam ∙ ap (λ n. get_or (symbol_bytes s ++ blank b ∷ rest) n 0) one ∙ ap (λ l. get_or l 1 0) same in
    blank_no_dash b second

sign_stands : (s : Symbol) (rest : List ℕ) (b : Bool) → Stands (Word (lexeme.Symbol s) (symbol_bytes s)) (blank b ∷ rest)
sign_stands s rest b =
    let text : List ℕ = symbol_bytes s ++ blank b ∷ rest in
    let kind = kind_is (lexeme.Symbol s) (symbol_bytes s) (blank b ∷ rest) refl in
    let front : prefix_len is_sign_byte text ≡ length (symbol_bytes s) = front_ends is_sign_byte (symbol_bytes s) (blank b) rest (sign_bytes s) (blank_sign b) in
    stands_of (lexeme.Symbol s) (symbol_bytes s) (blank b ∷ rest) refl tt
    (within_sign text (length (symbol_bytes s)) kind
    (λ line after all same. absurd (sign_no_dashes s b rest (line ++ after) same))
    (λ other after same.
    let within : length (symbol_bytes other) ≤ prefix_len is_sign_byte (symbol_bytes other ++ after) = front_within is_sign_byte (symbol_bytes other) after (sign_bytes other) in
    let there : prefix_len is_sign_byte (symbol_bytes other ++ after) ≡ length (symbol_bytes s) = ap (λ l. prefix_len is_sign_byte l) (sym same) ∙ front in
    omega arith))

-- ---- a token

-- white space stands there
record Blanked (text : List ℕ) : Type 0 where
  newline : Bool
  more : List ℕ
  is : text ≡ blank newline ∷ more

lexeme_stands : (w : Lexeme) (b : Bool) (rest : List ℕ) → Spellable w → Stands (Word w (spelling w)) (blank b ∷ rest)
lexeme_stands (lexeme.Name x) b rest able =
    word_stands (lexeme.Name x) x rest b (refl, able.0, able.1) tt (word_bytes x able.0) (kind_is (lexeme.Name x) x (blank b ∷ rest) (refl, able.0, able.1))
lexeme_stands (lexeme.Keyword k) b rest able =
    word_stands (lexeme.Keyword k) (keyword_bytes k) rest b refl tt (word_bytes (keyword_bytes k) (keyword_is_word k)) (kind_is (lexeme.Keyword k) (keyword_bytes k) (blank b ∷ rest) refl)
lexeme_stands (lexeme.Int n) b rest able = number_stands n rest b able
lexeme_stands (lexeme.Bit v) b rest able = bit_stands v (blank b ∷ rest)
lexeme_stands (lexeme.Text s) b rest able = text_stands s (blank b ∷ rest) able
lexeme_stands (lexeme.Symbol s) b rest able = sign_stands s rest b

-- the piece of a token in the canonical text
abbrev piece_of : Token → Piece
piece_of t = Word t.lexeme (spelling t.lexeme)

token_stands : (t : Token) (text : List ℕ) → Spellable t.lexeme → Blanked text → Stands (piece_of t) text
token_stands t text able x = subst (λ l. Stands (piece_of t) l) (sym x.is) (lexeme_stands t.lexeme x.newline x.more able)

-- ---- lines

-- the pieces of the rest of a line, and those behind it
abbrev rest_pieces : List Token → List Piece → List Piece
rest_pieces [] more = White 10 ∷ more
rest_pieces (t ∷ ts) more = White 32 ∷ piece_of t ∷ rest_pieces ts more

-- the pieces of a line, and those behind it
abbrev line_pieces : List Token → List Piece → List Piece
line_pieces [] more = White 10 ∷ more
line_pieces (t ∷ ts) more = piece_of t ∷ rest_pieces ts more

-- the pieces of the lines of some declarations, and those behind them
abbrev decl_pieces : List Decl → List Piece → List Piece
decl_pieces [] more = more
decl_pieces (d ∷ ds) more = line_pieces (decl_words d) (decl_pieces ds more)

rest_text : (ts : List Token) (more : List Piece) → text_of (rest_pieces ts more) ≡ spaced ts ++ 10 ∷ text_of more
rest_text [] more = refl
rest_text (t ∷ ts) more = ap (λ w. 32 ∷ (spelling t.lexeme ++ w)) (rest_text ts more) ∙ ap (λ w. 32 ∷ w) (sym (append_assoc (spelling t.lexeme) (spaced ts) (10 ∷ text_of more)))

line_text : (ts : List Token) (more : List Piece) → text_of (line_pieces ts more) ≡ line ts ++ text_of more
line_text [] more = refl
line_text (t ∷ ts) more =
    ap (λ w. spelling t.lexeme ++ w) (rest_text ts more ∙ sym (append_assoc (spaced ts) (10 ∷ []) (text_of more)))
    ∙ sym (append_assoc (spelling t.lexeme) (spaced ts ++ 10 ∷ []) (text_of more))

decl_text : (ds : List Decl) (more : List Piece) → text_of (decl_pieces ds more) ≡ decl_lines ds ++ text_of more
decl_text [] more = refl
decl_text (d ∷ ds) more =
    line_text (decl_words d) (decl_pieces ds more) ∙ ap (λ w. line (decl_words d) ++ w) (decl_text ds more) ∙ sym (append_assoc (line (decl_words d)) (decl_lines ds) (text_of more))

rest_blank : (ts : List Token) (more : List Piece) (rest : List ℕ) → Blanked (text_of (rest_pieces ts more) ++ rest)
rest_blank [] more rest = record { newline = true; more = text_of more ++ rest; is = refl }
rest_blank (t ∷ ts) more rest = record { newline = false; more = (spelling t.lexeme ++ text_of (rest_pieces ts more)) ++ rest; is = refl }

rest_read : (ts : List Token) (more : List Piece) (rest : List ℕ) → AllSpellable ts → AreRead more rest → AreRead (rest_pieces ts more) rest
rest_read [] more rest all read = (white_stands true (text_of more ++ rest), read)
rest_read (t ∷ ts) more rest all read = (
  white_stands false (text_of (piece_of t ∷ rest_pieces ts more) ++ rest),
  (token_stands t (text_of (rest_pieces ts more) ++ rest) all.0 (rest_blank ts more rest), rest_read ts more rest all.1 read),
)

line_read : (ts : List Token) (more : List Piece) (rest : List ℕ) → AllSpellable ts → AreRead more rest → AreRead (line_pieces ts more) rest
line_read [] more rest all read = (white_stands true (text_of more ++ rest), read)
line_read (t ∷ ts) more rest all read = (token_stands t (text_of (rest_pieces ts more) ++ rest) all.0 (rest_blank ts more rest), rest_read ts more rest all.1 read)

decl_read : (ds : List Decl) (more : List Piece) (rest : List ℕ) → AllOf decl_words ds → AreRead more rest → AreRead (decl_pieces ds more) rest
decl_read [] more rest all read = read
decl_read (d ∷ ds) more rest all read = line_read (decl_words d) (decl_pieces ds more) rest all.0 (decl_read ds more rest all.1 read)

-- ---- lexemes

lexemes_append : (ts us : List Token) → lexemes (ts ++ us) ≡ lexemes ts ++ lexemes us
lexemes_append [] us = refl
lexemes_append (t ∷ ts) us = ap (λ w. t.lexeme ∷ w) (lexemes_append ts us)

-- the pieces behind have these lexemes, wherever they stand
abbrev Behind : List Piece → List Lexeme → Type 0
Behind more ls = (place : Place) → lexemes (tokens_from place more) ≡ ls

rest_lexemes : (ts : List Token) (more : List Piece) (ls : List Lexeme) (place : Place) → Behind more ls → lexemes (tokens_from place (rest_pieces ts more)) ≡ lexemes ts ++ ls
rest_lexemes [] more ls place behind = behind (place_past place (10 ∷ []))
rest_lexemes (t ∷ ts) more ls place behind = ap (λ w. t.lexeme ∷ w) (rest_lexemes ts more ls (place_past (place_past place (32 ∷ [])) (spelling t.lexeme)) behind)

line_lexemes : (ts : List Token) (more : List Piece) (ls : List Lexeme) (place : Place) → Behind more ls → lexemes (tokens_from place (line_pieces ts more)) ≡ lexemes ts ++ ls
line_lexemes [] more ls place behind = behind (place_past place (10 ∷ []))
line_lexemes (t ∷ ts) more ls place behind = ap (λ w. t.lexeme ∷ w) (rest_lexemes ts more ls (place_past place (spelling t.lexeme)) behind)

decl_lexemes : (ds : List Decl) (more : List Piece) (ls : List Lexeme) (place : Place) → Behind more ls → lexemes (tokens_from place (decl_pieces ds more)) ≡ lexemes (decls_words ds) ++ ls
decl_lexemes [] more ls place behind = behind place
decl_lexemes (d ∷ ds) more ls place behind =
    line_lexemes (decl_words d) (decl_pieces ds more) (lexemes (decls_words ds) ++ ls) place (λ there. decl_lexemes ds more ls there behind)
    ∙ sym (append_assoc (lexemes (decl_words d)) (lexemes (decls_words ds)) ls)
    ∙ ap (λ w. w ++ ls) (sym (lexemes_append (decl_words d) (decls_words ds)))

-- ---- what was read

word_spellable : (w : Lexeme) (bytes rest : List ℕ) → Stands (Word w bytes) rest → Spellable w
word_spellable (lexeme.Name x) bytes rest s =
    let y = s.spelled in
    (subst IsWord (sym y.0) y.1, λ k same. y.2 k (same ∙ y.0))
word_spellable (lexeme.Keyword k) bytes rest s = tt
word_spellable (lexeme.Int n) bytes rest s = let y = s.sound in y.0
word_spellable (lexeme.Bit v) bytes rest s = tt
word_spellable (lexeme.Text t) bytes rest s = let y = s.spelled in y.1
word_spellable (lexeme.Symbol t) bytes rest s = tt

pieces_spellable : (place : Place) (pieces : List Piece) (rest : List ℕ) → AreRead pieces rest → AllSpellable (tokens_from place pieces)
pieces_spellable place [] rest read = tt
pieces_spellable place (White b ∷ pieces) rest read = pieces_spellable (place_past place (b ∷ [])) pieces rest read.1
pieces_spellable place (Comment line ∷ pieces) rest read = pieces_spellable (place_past place (45 ∷ 45 ∷ line)) pieces rest read.1
pieces_spellable place (Word w bytes ∷ pieces) rest read = (word_spellable w bytes (text_of pieces ++ rest) read.0, pieces_spellable (place_past place bytes) pieces rest read.1)

tokens_spellable : (text : List ℕ) (tokens : List Token) → Lexes text tokens → AllSpellable tokens
tokens_spellable text tokens x = let y = x.read in subst AllSpellable (sym x.are) (pieces_spellable first_place x.pieces [] y.read)

-- ---- the canonical text

pub text_read : (most : ℕ) (text : List ℕ) (tokens : List Token) (p : Prog) → Lexes text tokens → IsLowProg most tokens p → HasLexemes (canonical_text p) (lexemes (canonical p))
text_read most text tokens p lexed low =
    let able = prog_all low.is (tokens_spellable text tokens lexed) in
    let last : List Piece = line_pieces (main_words p) [] in
    let pieces : List Piece = decl_pieces p.declarations last in
    let read : AreRead pieces [] = decl_read p.declarations last [] able.declarations (line_read (main_words p) [] [] able.main tt) in
    let whole : canonical_text p ≡ text_of pieces ++ [] =
    ap (λ w. decl_lines p.declarations ++ w) (sym (line_text (main_words p) [] ∙ append-nil (line (main_words p))))
    ∙ sym (decl_text p.declarations last)
    ∙ sym (append-nil (text_of pieces)) in
    let main_is : Behind last (lexemes (main_words p)) = λ place. line_lexemes (main_words p) [] [] place (λ there. refl) ∙ append-nil (lexemes (main_words p)) in
    let same : lexemes (tokens_from first_place pieces) ≡ lexemes (canonical p) =
    decl_lexemes p.declarations last (lexemes (main_words p)) first_place main_is ∙ sym (lexemes_append (decls_words p.declarations) (main_words p)) in
    (tokens_from first_place pieces, record { pieces = pieces; read = record { whole = whole; read = read }; are = refl }, same)
