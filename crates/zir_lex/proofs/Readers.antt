-- What the readers of each kind find at the front of a text.
use Rattle.std.proofs.Common.{◌≡◌, ◌≢◌, ℕ, ◌+◌, ◌-◌, ◌<◌, ◌≤◌, Bool, true, false, cond, ◌&&◌, List, [], ◌∷◌, ◌++◌, length, get_or, take, drop, sym, ◌∙◌, ap, refl, subst, inl, inr, arith, Some, None, Ok, Err, Result, suc, eqb, eqb-true, true≢false, nat_eq, add-one, take-suc, take-append-drop, length-drop, length-take-le, one-add}
use Rattle.std.specs.List.{prefix_len, list_all}
use Rattle.std.specs.List.{starts_with}
use Rattle.std.proofs.lemmas.Slice.Eq.{starts_is}
use Rattle.std.proofs.lemmas.Bool.Decides.{Decides-eqb}
use Rattle.std.proofs.lemmas.Bool.{and_parts}
use Rattle.std.proofs.lemmas.List.Sums.{prefix_len-le-length}
use Rattle.std.proofs.lemmas.List.{take_rest}
use Rattle.zir_lex.specs.Classes.{is_white, is_letter, is_word_byte, is_string_byte, is_line_byte, number_of}
use Rattle.zir_lex.specs.Tables.{keyword_bytes, symbol_bytes}
use Rattle.zir_lex.specs.Spelling.{White, Comment, Word, piece_bytes, IsPiece, IsWord}
use Rattle.zir_lex.specs.Tokens.{IsBadByte}
use Rattle.zir_lex.specs.Fronts.{OfSign, kind_of, IsFront, IsLongestSign, HasNoSign, Reads, ReadsNumber, begins_hexadecimal}
use Rattle.std.specs.Char.{is_ascii_digit, is_ascii_hexdigit}
use Rattle.zir_lex.specs.declared.token.Symbol.{Symbol}
use Rattle.zir_lex.specs.declared.front.Front.{Front}
use Rattle.zir_lex.specs.declared.front.FrontError.{FrontError}
use Rattle.zir_lex.specs.declared.front.FrontError.TheVariants as errors
use Rattle.zir_lex.specs.declared.token.Keyword.{Keyword}
use Rattle.zir_lex.specs.declared.token.Lexeme.TheVariants as lexeme
use Rattle.zir_lex.proofs.FirstBytes.{white_kind, letter_kind, digit_kind, sign_in_dashes}
use Rattle.zir_lex.proofs.Longest.{Within, HasBit, HasString, front_of, longest_of, bad_byte_of, within_word, within_white, within_sign, within_decimal, within_hexadecimal, no_sign, bit_at, string_at}
use Rattle.zir_lex.proofs.Prefixes.{front_passes, front_within, weaker}

-- the bytes of a bit
two_bytes : (text : List ℕ) (a b : ℕ) → 2 ≤ length text → get_or text 0 0 ≡ a → get_or text 1 0 ≡ b → take 2 text ≡ a ∷ b ∷ []
two_bytes [] a b fits first second = absurd (omega arith)
two_bytes (x ∷ []) a b fits first second = absurd (omega arith)
two_bytes (x ∷ y ∷ ys) a b fits first second = cc

-- the bytes of a string
string_taken : (text string : List ℕ) (len : ℕ) → len + 2 ≤ length text → get_or text 0 0 ≡ 34 → get_or text (len + 1) 0 ≡ 34 → string ≡ take len (drop 1 text) → take (len + 2) text ≡ 34 ∷ (string ++ 34 ∷ [])
string_taken [] string len fits quote closing string_is = absurd (omega arith)
string_taken (b ∷ bs) string len fits quote closing string_is =
    let front : take (suc len) bs ≡ take len bs ++ (get_or bs len 0 ∷ []) = take-suc bs len 0 (omega arith) in
    let two : len + 2 ≡ suc (suc len) = omega arith in
    let last : get_or bs len 0 ≡ 34 = rw add-one at closing in
    rw two cc

-- the word at the front of a text
word_taken : (text : List ℕ) → 0 < length text → is_letter (get_or text 0 0) ≡ true → IsWord (take (prefix_len is_word_byte text) text) × (0 < prefix_len is_word_byte text)
word_taken [] some letter = absurd (omega arith)
word_taken (b ∷ bs) some letter = rw (letter, one-add) ((letter, front_passes is_word_byte bs), omega arith)

pub keyword_front : (text : List ℕ) (len : ℕ) (keyword : Keyword) → 0 < length text → is_letter (get_or text 0 0) ≡ true → len ≡ prefix_len is_word_byte text → keyword_bytes keyword ≡ take len text → IsFront (record { lexeme = Some (lexeme.Keyword keyword); len = len }) text
keyword_front text len keyword some letter len_is bytes =
    front_of (Word (lexeme.Keyword keyword) (take len text)) len text
    (omega (arith, (word_taken text some letter).1)) (omega (arith, prefix_len-le-length is_word_byte text)) refl (sym bytes) tt
    (subst (Within text) (sym len_is) (within_word text (letter_kind (get_or text 0 0) letter)))

pub name_front : (text : List ℕ) (len : ℕ) (name : List ℕ) → 0 < length text → is_letter (get_or text 0 0) ≡ true → len ≡ prefix_len is_word_byte text → name ≡ take len text → ((keyword : Keyword) → keyword_bytes keyword ≢ take len text) → IsFront (record { lexeme = Some (lexeme.Name name); len = len }) text
name_front text len name some letter len_is bytes none =
    front_of (Word (lexeme.Name name) (take len text)) len text
    (omega (arith, (word_taken text some letter).1)) (omega (arith, prefix_len-le-length is_word_byte text)) refl
    (bytes, subst (λ (n : ℕ). IsWord (take n text)) (sym len_is) (word_taken text some letter).0, none) tt
    (subst (Within text) (sym len_is) (within_word text (letter_kind (get_or text 0 0) letter)))

-- the bit at the front of a text, and where none stands
pub bit_front : (text : List ℕ) (bit : Bool) → 2 ≤ length text → get_or text 0 0 ≡ 39 → get_or text 1 0 ≡ cond bit 49 48 → IsFront (record { lexeme = Some (lexeme.Bit bit); len = 2 }) text
bit_front text bit fits quote second =
    front_of (Word (lexeme.Bit bit) (take 2 text)) 2 text (omega arith) fits refl (two_bytes text 39 (cond bit 49 48) fits quote second) tt
    (λ other after spelled whole same. omega (arith, (bit_at text (ap kind_of quote) other after spelled whole same).two))

pub no_bit : (text : List ℕ) → 0 < length text → get_or text 0 0 ≡ 39 → (2 ≤ length text → get_or text 1 0 ≢ 48) → (2 ≤ length text → get_or text 1 0 ≢ 49) → IsBadByte text
no_bit text some quote zero one =
    bad_byte_of text some (λ other after spelled whole same.
    let has : HasBit text (piece_bytes other) = bit_at text (ap kind_of quote) other after spelled whole same in
    elim has.bit [ inl e ↦ zero has.within e | inr e ↦ one has.within e ])

closing_at : (text : List ℕ) (len : ℕ) → get_or text (len + 1) 0 ≡ get_or (drop 1 text) len 0
closing_at [] len = refl
closing_at (b ∷ bs) len = rw add-one refl

-- the string at the front of a text, and where none stands
pub string_front : (text string : List ℕ) (len : ℕ) → len ≡ prefix_len is_string_byte (drop 1 text) → len + 2 ≤ length text → get_or text 0 0 ≡ 34 → get_or text (len + 1) 0 ≡ 34 → string ≡ take len (drop 1 text) → IsFront (record { lexeme = Some (lexeme.Text string); len = len + 2 }) text
string_front text string len len_is fits quote closing string_is =
    front_of (Word (lexeme.Text string) (take (len + 2) text)) (len + 2) text (omega arith) fits refl
    (string_taken text string len fits quote closing string_is, rw (string_is, len_is) (front_passes is_string_byte (drop 1 text))) tt
    (λ other after spelled whole same. omega (arith, (string_at text (ap kind_of quote) other after spelled whole same).len))

pub no_string : (text : List ℕ) (len : ℕ) → 0 < length text → get_or text 0 0 ≡ 34 → len ≡ prefix_len is_string_byte (drop 1 text) → (len + 2 ≤ length text → get_or text (len + 1) 0 ≢ 34) → IsBadByte text
no_string text len some quote len_is unclosed =
    bad_byte_of text some (λ other after spelled whole same.
    let has : HasString text (piece_bytes other) = string_at text (ap kind_of quote) other after spelled whole same in
    unclosed (omega (arith, has.within)) (rw len_is has.quote))

-- the same, of the text behind the quote
pub string_behind : (text string : List ℕ) (len closing : ℕ) → 0 < length text → get_or text 0 0 ≡ 34 → len ≡ prefix_len is_string_byte (take (length text - 1) (drop 1 text)) → len < length (take (length text - 1) (drop 1 text)) → closing ≡ get_or (take (length text - 1) (drop 1 text)) len 0 → closing ≡ 34 → string ≡ take len (take (length text - 1) (drop 1 text)) → IsFront (record { lexeme = Some (lexeme.Text string); len = len + 2 }) text
string_behind text string len closing some quote len_is long closing_is closes string_is =
    let behind : take (length text - 1) (drop 1 text) ≡ drop 1 text = take_rest text 1 in
    let fits : len < length (drop 1 text) = subst (λ (l : List ℕ). len < length l) behind long in
    let less : length (drop 1 text) ≡ length text - 1 = length-drop 1 text in
    string_front text string len (len_is ∙ ap (prefix_len is_string_byte) behind) (omega arith) quote
    (closing_at text len ∙ sym (ap (λ l. get_or l len 0) behind) ∙ sym closing_is ∙ closes)
    (string_is ∙ ap (take len) behind)

pub no_string_behind : (text : List ℕ) (len : ℕ) → 0 < length text → get_or text 0 0 ≡ 34 → len ≡ prefix_len is_string_byte (take (length text - 1) (drop 1 text)) → (len < length (take (length text - 1) (drop 1 text)) → get_or (take (length text - 1) (drop 1 text)) len 0 ≢ 34) → IsBadByte text
no_string_behind text len some quote len_is unclosed =
    let behind : take (length text - 1) (drop 1 text) ≡ drop 1 text = take_rest text 1 in
    let less : length (drop 1 text) ≡ length text - 1 = length-drop 1 text in
    let as_long : length (take (length text - 1) (drop 1 text)) ≡ length (drop 1 text) = ap length behind in
    no_string text len some quote (len_is ∙ ap (prefix_len is_string_byte) behind)
    (λ fits closes. unclosed (omega arith) (ap (λ l. get_or l len 0) behind ∙ sym (closing_at text len) ∙ closes))

-- a comment
comment_taken : (rest : List ℕ) (n : ℕ) → 45 ∷ 45 ∷ take n rest ≡ take (2 + n) (45 ∷ 45 ∷ rest)
comment_taken rest n = let two : 2 + n ≡ suc (suc n) = omega arith in rw two refl

comment_in : (rest : List ℕ) (len : ℕ) → len ≡ prefix_len is_line_byte rest → IsFront (record { lexeme = None; len = 2 + len }) (45 ∷ 45 ∷ rest)
comment_in rest len len_is =
    let whole : List ℕ = 45 ∷ 45 ∷ rest in
    front_of (Comment (take len rest)) (2 + len) (45 ∷ 45 ∷ rest) (omega arith) (omega (arith, prefix_len-le-length is_line_byte rest)) (comment_taken rest len)
    (rw len_is (front_passes is_line_byte rest)) tt
    (within_sign (45 ∷ 45 ∷ rest) (2 + len) refl
    (λ line after all same.
    let tails : rest ≡ line ++ after = ap (drop 2) same in
    let inside : length line ≤ prefix_len is_line_byte (line ++ after) = front_within is_line_byte line after all in
    let same_len : prefix_len is_line_byte rest ≡ prefix_len is_line_byte (line ++ after) = ap (prefix_len is_line_byte) tails in
    omega arith)
    (λ symbol after same. let one : length (symbol_bytes symbol) ≤ 1 = sign_in_dashes symbol after rest (sym same) in omega arith))

pub comment_front : (text rest : List ℕ) (len : ℕ) → text ≡ 45 ∷ 45 ∷ rest → len ≡ prefix_len is_line_byte (drop 2 text) → IsFront (record { lexeme = None; len = 2 + len }) text
comment_front text rest len dashes len_is = rw dashes (comment_in rest len (len_is ∙ ap (λ l. prefix_len is_line_byte (drop 2 l)) dashes))

-- whether two dashes stand at the front
pub dashes : (text : List ℕ) (answer : Bool) → answer ≡ starts_with nat_eq text (45 ∷ 45 ∷ []) → answer ≡ true → text ≡ 45 ∷ 45 ∷ drop 2 text
dashes text answer same holds = (starts_is Decides-eqb text (45 ∷ 45 ∷ []) answer same).0 holds

pub no_dashes : (text : List ℕ) (answer : Bool) → answer ≡ starts_with nat_eq text (45 ∷ 45 ∷ []) → answer ≡ false → (rest : List ℕ) → text ≡ 45 ∷ 45 ∷ rest → ⊥
no_dashes text answer same otherwise rest whole = true≢false (sym ((starts_is Decides-eqb text (45 ∷ 45 ∷ []) answer same).1 rest whole) ∙ otherwise)

-- a sign where no comment stands, and where there is none
pub sign_front : (text : List ℕ) (symbol : Symbol) (len : ℕ) → kind_of (get_or text 0 0) ≡ OfSign → ((rest : List ℕ) → text ≡ 45 ∷ 45 ∷ rest → ⊥) → IsLongestSign symbol len text → IsFront (record { lexeme = Some (lexeme.Symbol symbol); len = len }) text
sign_front text symbol len kind no_comment sign =
    front_of (Word (lexeme.Symbol symbol) (take len text)) len text sign.some sign.within refl (sym sign.bytes) tt
    (within_sign text len kind (λ line after all whole. absurd (no_comment (line ++ after) whole)) sign.longest)

pub no_sign_front : (text : List ℕ) → 0 < length text → kind_of (get_or text 0 0) ≡ OfSign → ((rest : List ℕ) → text ≡ 45 ∷ 45 ∷ rest → ⊥) → HasNoSign text → IsBadByte text
no_sign_front text some kind no_comment none =
    bad_byte_of text some (no_sign text kind (λ line after whole. no_comment (line ++ after) whole) none)

-- a byte of white space
pub white_front : (text : List ℕ) → 0 < length text → is_white (get_or text 0 0) ≡ true → IsFront (record { lexeme = None; len = 1 }) text
white_front [] some white = absurd (omega arith)
white_front (b ∷ bs) some white = front_of (White b) 1 (b ∷ bs) (omega arith) (omega arith) refl white tt (within_white (b ∷ bs) (white_kind b white))

-- the number at the front of a text, sound or not
pub number_reads : (result : Result Front FrontError) (value len : ℕ) (text : List ℕ) → 0 < len → len ≤ length text → IsPiece (Word (lexeme.Int value) (take len text)) → Within text len → ReadsNumber result value len (drop len text) → Reads result text
number_reads (Ok front) value len text some fits spelled within read =
    rw read.0 (front_of (Word (lexeme.Int value) (take len text)) len text some fits refl spelled (read.1, read.2) within)
number_reads (Err errors.BadNumber) value len text some fits spelled within read = record {
  value = value;
  bytes = take len text;
  after = drop len text;
  whole = sym (take-append-drop len text);
  spelled = spelled;
  longest = longest_of (Word (lexeme.Int value) (take len text)) len text fits refl within;
  fault = read;
}
number_reads (Err errors.BadByte) value len text some fits spelled within read = absurd read
number_reads (Err errors.Memory) value len text some fits spelled within read = absurd read

-- a front of a class has bytes where the first byte is of the class
front_some : (p : ℕ → Bool) (text : List ℕ) → 0 < length text → p (get_or text 0 0) ≡ true → 0 < prefix_len p text
front_some p [] some first = absurd (omega arith)
front_some p (b ∷ bs) some first = rw first (omega arith)

-- a decimal number
pub decimal_reads : (result : Result Front FrontError) (value len : ℕ) (text : List ℕ) → 0 < length text → is_ascii_digit (get_or text 0 0) ≡ true → begins_hexadecimal text ≡ false → len ≡ prefix_len is_ascii_digit text → value ≡ number_of 10 (take len text) → ReadsNumber result value len (drop len text) → Reads result text
decimal_reads result value len text some digit other_base len_is value_is read =
    let fits : len ≤ length text = omega (arith, prefix_len-le-length is_ascii_digit text) in
    let long : 0 < len = omega (arith, front_some is_ascii_digit text some digit) in
    number_reads result value len text long fits
    (inl (record {
      some = omega (arith, length-take-le len text fits);
      digits = rw len_is (front_passes is_ascii_digit text);
      value = value_is;
    }))
    (subst (Within text) (sym len_is) (within_decimal text other_base (digit_kind (get_or text 0 0) digit))) read

-- what stands before the digits of a hexadecimal number
record HexadecimalText (text : List ℕ) : Type 0 where
  more : List ℕ
  shape : text ≡ 48 ∷ 120 ∷ more
  some : 0 < length more
  digit : is_ascii_hexdigit (get_or more 0 0) ≡ true

digit_some : (more : List ℕ) → is_ascii_hexdigit (get_or more 0 0) ≡ true → 0 < length more
digit_some [] digit = absurd (true≢false (sym digit))
digit_some (d ∷ ds) digit = omega arith

hexadecimal_text : (text : List ℕ) → begins_hexadecimal text ≡ true → HexadecimalText text
hexadecimal_text [] begins = absurd (true≢false (sym begins))
hexadecimal_text (a ∷ []) begins = absurd (true≢false (sym (and_parts (eqb a 48) false begins).1))
hexadecimal_text (a ∷ b ∷ more) begins =
    let first : (eqb a 48 ≡ true) × ((eqb b 120 && is_ascii_hexdigit (get_or more 0 0)) ≡ true) = and_parts (eqb a 48) (eqb b 120 && is_ascii_hexdigit (get_or more 0 0)) begins in
    let second : (eqb b 120 ≡ true) × (is_ascii_hexdigit (get_or more 0 0) ≡ true) = and_parts (eqb b 120) (is_ascii_hexdigit (get_or more 0 0)) first.1 in
    let a_is : a ≡ 48 = eqb-true a 48 first.0 in
    let b_is : b ≡ 120 = eqb-true b 120 second.0 in
    record { more = more; shape = cc; some = digit_some more second.1; digit = second.1 }

hexadecimal_taken : (more : List ℕ) (n : ℕ) → take (n + 2) (48 ∷ 120 ∷ more) ≡ 48 ∷ 120 ∷ take n more
hexadecimal_taken more n = let two : n + 2 ≡ suc (suc n) = omega arith in rw two refl

-- a hexadecimal number
pub hexadecimal_reads : (result : Result Front FrontError) (value len : ℕ) (text : List ℕ) → begins_hexadecimal text ≡ true → len ≡ prefix_len is_ascii_hexdigit (drop 2 text) → value ≡ number_of 16 (take len (drop 2 text)) → ReadsNumber result value (len + 2) (drop (len + 2) text) → Reads result text
hexadecimal_reads result value len text begins len_is value_is read =
    let it : HexadecimalText text = hexadecimal_text text begins in
    let behind : drop 2 text ≡ it.more = ap (drop 2) it.shape in
    let len_more : len ≡ prefix_len is_ascii_hexdigit it.more = len_is ∙ ap (prefix_len is_ascii_hexdigit) behind in
    let fits_more : len ≤ length it.more = omega (arith, prefix_len-le-length is_ascii_hexdigit it.more) in
    let long : 0 < len = omega (arith, front_some is_ascii_hexdigit it.more it.some it.digit) in
    let fits : len + 2 ≤ length text = omega (arith, ap length it.shape) in
    number_reads result value (len + 2) text (omega arith) fits
    (inr (record {
      after = take len it.more;
      prefix = ap (take (len + 2)) it.shape ∙ hexadecimal_taken it.more len;
      some = omega (arith, length-take-le len it.more fits_more);
      digits = rw len_more (front_passes is_ascii_hexdigit it.more);
      value = value_is ∙ ap (λ l. number_of 16 (take len l)) behind;
    }))
    (subst (λ (n : ℕ). Within text (n + 2)) (sym len_is) (within_hexadecimal text begins (ap (λ l. kind_of (get_or l 0 0)) it.shape))) read

-- a decimal digit is a hexadecimal one
decimal_is_hexadecimal : (b : ℕ) → is_ascii_digit b ≡ true → is_ascii_hexdigit b ≡ true
decimal_is_hexadecimal b digit = rw digit refl

-- the digits of either base are hexadecimal
pub decimal_digits : (text : List ℕ) (len : ℕ) → len ≡ prefix_len is_ascii_digit text → list_all is_ascii_hexdigit (take len text) ≡ true
decimal_digits text len len_is = weaker is_ascii_digit is_ascii_hexdigit decimal_is_hexadecimal (take len text) (rw len_is (front_passes is_ascii_digit text))

pub hexadecimal_digits : (text : List ℕ) (len : ℕ) → len ≡ prefix_len is_ascii_hexdigit text → list_all is_ascii_hexdigit (take len text) ≡ true
hexadecimal_digits text len len_is = rw len_is (front_passes is_ascii_hexdigit text)
