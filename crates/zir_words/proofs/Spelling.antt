-- A number's decimal spelling, what `parse` makes of it, and that words ask for one run at most.
use Rattle.std.proofs.Common.{◌≡◌, ◌≤◌, ◌<◌, ℕ, zero, suc, List, length, get_or, Result, Ok, Err, Some, ◌∙◌, ap, arith}
use Rattle.std.specs.Prelude.{decimal}
use Rattle.std.specs.Result.{result_ok}
use Rattle.std.specs.Str.Parse.{AllDigits, digits_value, ParsesUnsigned}
use Rattle.std.proofs.lemmas.Str.Parse.{IsNumeralModel, numerals_by_value, tells_digits, parse_plain}
use Rattle.std.proofs.lemmas.Fmt.{decimal-digits_value, decimal_digit, decimal_injective, decimal_nonempty, first_decimal, parse-decimal}
use Rattle.zir_words.specs.Words.{AskOnce, ForRun, ForCheck, ForShow, IsBudget, IsRun}

-- std's digits and their value
own : IsNumeralModel (AllDigits 10) (digits_value 10)
own = numerals_by_value (AllDigits 10) tells_digits

-- the first digit of a budget is not 0
pub first_digit : (bs : List ℕ) (n : ℕ) → IsBudget n → bs ≡ decimal n → 48 < get_or bs 0 0
first_digit bs n b e = rw e (first_decimal n (omega arith) (omega arith))

-- a budget's spelling has a digit
pub has_digit : (bs : List ℕ) (n : ℕ) → IsBudget n → bs ≡ decimal n → 0 < length bs
has_digit bs n b e = rw e (decimal_nonempty n (omega arith))

-- what is parsed from a text that begins with no 0 and no sign is spelled by that text
pub spelled : {E : Type 0} (bs : List ℕ) (r : Result ℕ E) (t : ℕ) → 48 < get_or bs 0 0 → ParsesUnsigned 64 10 bs r → result_ok r ≡ Some t → bs ≡ decimal t
spelled {E} bs (Ok v) t first h e =
    let p = parse_plain own {E = E} 64 bs (Ok v) h (omega arith) in
    let same : t ≡ digits_value 10 bs = cc (p.1) in
    let plain : decimal (digits_value 10 bs) ≡ bs = decimal-digits_value own bs p.0.0 p.0.1 (λ zero_first. absurd (omega arith)) p.0.2 in
    cc
spelled bs (Err x) t first h e = cc

-- what is spelled with a first digit above 0 is not 0
pub not_zero : (bs : List ℕ) (n : ℕ) → 48 < get_or bs 0 0 → bs ≡ decimal n → 1 ≤ n
not_zero bs zero first e = absurd (omega (arith, ap (λ ds. get_or ds 0 0) (e ∙ decimal_digit 0 (omega arith))))
not_zero bs (suc n) first e = omega arith

-- the spelling of a budget is parsed
pub parsed : {E : Type 0} (bs : List ℕ) (r : Result ℕ E) (n : ℕ) → IsBudget n → bs ≡ decimal n → ParsesUnsigned 64 10 bs r → result_ok r ≡ Some n
parsed bs r n b e h = ap result_ok (parse-decimal 64 n bs r (omega arith) (omega arith) e h)

-- the words of two runs
same_run : (words : List (List ℕ)) (m n : ℕ) (name other : List ℕ) → IsRun words m name → IsRun words n other → (m ≡ n) × (name ≡ other)
same_run words m n name other a b =
    let spelling : decimal m ≡ decimal n = cc (a.form, b.form) in
    let names : name ≡ other = cc (a.form, b.form) in
    (decimal_injective m n (omega (arith, a.budget)) (omega (arith, b.budget)) spelling, names)

-- words ask for one thing at most
pub asked_once : AskOnce
asked_once words (ForRun m name) (ForRun n other) a b = let same = same_run words m n name other a b in λ i. ForRun (same.0 i) (same.1 i)
asked_once words (ForRun m name) (ForCheck other) a b = absurd (cc (a.form, b.form))
asked_once words (ForRun m name) (ForShow other) a b = absurd (cc (a.form, b.form))
asked_once words (ForCheck name) (ForRun n other) a b = absurd (cc (a.form, b.form))
asked_once words (ForCheck name) (ForCheck other) a b = let same : name ≡ other = cc (a.form, b.form) in ap ForCheck same
asked_once words (ForCheck name) (ForShow other) a b = absurd (cc (a.form, b.form))
asked_once words (ForShow name) (ForRun n other) a b = absurd (cc (a.form, b.form))
asked_once words (ForShow name) (ForCheck other) a b = absurd (cc (a.form, b.form))
asked_once words (ForShow name) (ForShow other) a b = let same : name ≡ other = cc (a.form, b.form) in ap ForShow same
