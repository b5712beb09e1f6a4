-- A number's decimal spelling, and what `parse` makes of it.
use Rattle.std.proofs.Common.{◌≡◌, ◌≤◌, ◌<◌, ◌^◌, ℕ, zero, suc, Bool, true, false, cond, ◌&&◌, nat_le, leb-true, List, length, get_or, Some, None, Result, Ok, Err, refl, ◌∙◌, ap, arith}
use Rattle.std.specs.Prelude.{bytes_eq, decimal}
use Rattle.std.specs.Result.{result_ok}
use Rattle.std.specs.Str.Parse.{AllDigits, digits_value, ParsesUnsigned}
use Rattle.std.proofs.lemmas.Str.Parse.{IsNumeralModel, numerals_by_value, tells_digits, parse_plain}
use Rattle.std.proofs.lemmas.Fmt.{decimal-digits_value, decimal_digit, decimal_nonempty, digits_value-decimal, first_decimal, parse-decimal}
use Rattle.std.proofs.lemmas.Bool.Decides.{nat_tests}
use Rattle.zir_command_line.specs.Words.{IsWithin}
use Rattle.zir_command_line.specs.Walk.{number_of}
use Rattle.zir_command_line.proofs.FirstBytes.{alike, is_text}

-- std's digits and their value
own : IsNumeralModel (AllDigits 10) (digits_value 10)
own = numerals_by_value (AllDigits 10) tells_digits

-- the first digit of a number from 1 on is not 0
pub first_digit : (bs : List ℕ) (n : ℕ) → 1 ≤ n → n < 2 ^ 64 → bs ≡ decimal n → 48 < get_or bs 0 0
first_digit bs n low b e = rw e (first_decimal n (omega arith) (omega arith))

-- its spelling has a digit
pub has_digit : (bs : List ℕ) (n : ℕ) → n < 2 ^ 64 → bs ≡ decimal n → 0 < length bs
has_digit bs n b e = rw e (decimal_nonempty n (omega arith))

-- what is parsed from a text that begins with no 0 and no sign is spelled by that text
pub spelled : {E : Type 0} (bs : List ℕ) (r : Result ℕ E) (t : ℕ) → 48 < get_or bs 0 0 → ParsesUnsigned 64 10 bs r → result_ok r ≡ Some t → bs ≡ decimal t
spelled {E} bs (Ok v) t first h e =
    let p = parse_plain own {E = E} 64 bs (Ok v) h (omega arith) in
    let same : t ≡ digits_value 10 bs = cc (p.1) in
    let plain : decimal (digits_value 10 bs) ≡ bs = decimal-digits_value own bs p.0.0 p.0.1 (λ zero_first. absurd (omega arith)) p.0.2 in
    cc
spelled bs (Err x) t first h e = cc

-- what is spelled with a first digit above 0 is not 0
pub not_zero : (bs : List ℕ) (n : ℕ) → 48 < get_or bs 0 0 → bs ≡ decimal n → 1 ≤ n
not_zero bs zero first e = absurd (omega (arith, ap (λ ds. get_or ds 0 0) (e ∙ decimal_digit 0 (omega arith))))
not_zero bs (suc n) first e = omega arith

-- the spelling of a number is parsed
pub parsed : {E : Type 0} (bs : List ℕ) (r : Result ℕ E) (n : ℕ) → n < 2 ^ 64 → bs ≡ decimal n → ParsesUnsigned 64 10 bs r → result_ok r ≡ Some n
parsed bs r n b e h = ap result_ok (parse-decimal 64 n bs r (omega arith) (omega arith) e h)

-- the value of a number's spelling
pub value_of : (n : ℕ) → n < 2 ^ 64 → digits_value 10 (decimal n) ≡ n
value_of n h = digits_value-decimal own n h

-- a word spells a number
pub spells : (most n : ℕ) (w : List ℕ) → IsWithin most n → most < 2 ^ 64 → w ≡ decimal n → number_of most w ≡ Some n
unfolding number_of
spells most n w h b e =
    let low = h.low in
    let high = h.high in
    let value : digits_value 10 w ≡ n = ap (digits_value 10) e ∙ value_of n (omega arith) in
    rw (value, alike w (decimal n) e) (grind (arith, nat_tests))

-- what three tests let through
let_through : (a b c : Bool) (v n : ℕ) → cond (a && (b && c)) (Some v) None ≡ Some n → (a ≡ true) × (b ≡ true) × (c ≡ true) × (v ≡ n)
let_through true true true v n e = (refl, refl, refl, cc)
let_through true true false v n e = cc
let_through true false c v n e = cc
let_through false b c v n e = cc

-- what three tests do not let through
kept_out : (a b c : Bool) (v : ℕ) → (a ≡ true → b ≡ true → c ≡ true → ⊥) → cond (a && (b && c)) (Some v) None ≡ None
kept_out true true true v n = absurd (n refl refl refl)
kept_out true true false v n = refl
kept_out true false c v n = refl
kept_out false b c v n = refl

-- the number that a word spells is within its limits, and the word is its spelling
pub number_is : (most : ℕ) (w : List ℕ) (n : ℕ) → number_of most w ≡ Some n → IsWithin most n × (w ≡ decimal n)
unfolding number_of
number_is most w n e =
    let v = digits_value 10 w in
    let t = let_through (bytes_eq w (decimal v)) (nat_le 1 v) (nat_le v most) v n e in
    let same : v ≡ n = t.3 in
    let low : 1 ≤ v = leb-true 1 v t.1 in
    let high : v ≤ most = leb-true v most t.2 in
    (record { low = omega arith; high = omega arith }, is_text w (decimal v) t.0 ∙ ap decimal same)

-- a word that spells no number within the limits
pub spells_none : (most : ℕ) (w : List ℕ) → ((n : ℕ) → IsWithin most n → w ≡ decimal n → ⊥) → number_of most w ≡ None
unfolding number_of
spells_none most w none =
    let v = digits_value 10 w in
    kept_out (bytes_eq w (decimal v)) (nat_le 1 v) (nat_le v most) v
    (λ same low high. none v (record { low = leb-true 1 v low; high = leb-true v most high }) (is_text w (decimal v) same))
