-- What more bytes can make of the bytes in front of them: where they make an item, a digit does, or none is needed.
use Rattle.std.proofs.Common.{ℕ, zero, suc, ◌+◌, ◌-◌, ◌*◌, ◌^◌, ◌<◌, ◌≤◌, ◌≡◌, ℤ, pos, Bool, true, false, Option, Some, None, List, [], ◌∷◌, ◌++◌, length, length-append, refl, ap, sym, subst, ◌∙◌, ◌⊎◌, inl, inr, ⊎_elim, arith}
use Rattle.std.proofs.lemmas.Bool.{and_cases, and_parts, and_right, cases_Bool, cases_lt, false≢true, or_parts}
use Rattle.std.proofs.lemmas.Bool.Decides.{nat_tests}
use Rattle.std.proofs.lemmas.List.{reverse-append}
use Rattle.std.proofs.lemmas.List.Folds.{list_all-append}
use Rattle.std.proofs.lemmas.List.Sums.{fold-append}
use Rattle.std.specs.List.{list_all}
use Rattle.std.specs.Prelude.{fold, if◌then◌else◌, is_none, is_some, nat_eq, nat_le, nat_lt, neg_ℤ, not, option_map, reverse, ◌&&◌, ◌||◌}
use Rattle.zir_tree.specs.declared.types.Base.{Base}
use Rattle.zir_tree.specs.declared.types.Base.TheVariants.{Unit as UnitTy, Bit, Bool as BoolTy, Int8, Int16, Int32, Int64, Complex16, Complex32, Struct}
use Rattle.zir_meaning.specs.Items.{fits}
use Rattle.zir_meaning.specs.Texts.{digits_number, is_blank, is_digit, is_end, item_before_end, item_of, may_go_on, skip_blanks, trimmed, written_number}
use Rattle.zir_samples.specs.Reading.{in_range}
use Rattle.zir_samples.proofs.Items.{as_item, item-long, item-short, open-digit, open-more}

-- bytes without the white space behind them
abbrev without_end : List ℕ → List ℕ
without_end [] = []
without_end (b ∷ bytes) = if list_all is_blank (b ∷ bytes) then [] else b ∷ without_end bytes

-- one more byte behind white space that is skipped
skip-push : (xs : List ℕ) (b : ℕ) → skip_blanks (xs ++ b ∷ []) ≡ (if list_all is_blank xs then skip_blanks (b ∷ []) else skip_blanks xs ++ b ∷ [])
skip-push [] b = refl
skip-push (x ∷ xs) b = either (is_blank x) (skip-push xs b)
  where
    either : (t : Bool) → skip_blanks (xs ++ b ∷ []) ≡ (if list_all is_blank xs then skip_blanks (b ∷ []) else skip_blanks xs ++ b ∷ []) →
        (if t then skip_blanks (xs ++ b ∷ []) else x ∷ (xs ++ b ∷ [])) ≡ (if t && list_all is_blank xs then skip_blanks (b ∷ []) else (if t then skip_blanks xs else x ∷ xs) ++ b ∷ [])
    either true h = h
    either false h = refl

-- a list in reverse, by its first
reverse-cons : (b : ℕ) (xs : List ℕ) → reverse (b ∷ xs) ≡ reverse xs ++ b ∷ []
reverse-cons b xs = reverse-append (b ∷ []) xs

-- a test of all in reverse
all-reverse : (p : ℕ → Bool) (xs : List ℕ) → list_all p (reverse xs) ≡ list_all p xs
all-reverse p [] = refl
all-reverse p (x ∷ xs) =
    ap (list_all p) (reverse-cons x xs) ∙ list_all-append p (reverse xs) (x ∷ []) ∙ ap (λ t. t && (p x && true)) (all-reverse p xs) ∙ swap (p x) (list_all p xs)
  where
    swap : (s t : Bool) → (t && (s && true)) ≡ (s && t)
    swap true true = refl
    swap true false = refl
    swap false true = refl
    swap false false = refl

-- of white space nothing is left
without-blank : (xs : List ℕ) → list_all is_blank xs ≡ true → without_end xs ≡ []
without-blank [] h = refl
without-blank (x ∷ xs) h = ap (λ t. if t then [] else x ∷ without_end xs) h

-- a byte that is no white space is left
without-other : (b : ℕ) (xs : List ℕ) → is_blank b ≡ false → without_end (b ∷ xs) ≡ b ∷ without_end xs
without-other b xs e = ap (λ t. if t && list_all is_blank xs then [] else b ∷ without_end xs) e

-- white space is left out behind what is reversed twice
skip-behind : (xs : List ℕ) → reverse (skip_blanks (reverse xs)) ≡ without_end xs
skip-behind [] = refl
skip-behind (b ∷ xs) =
    ap (λ s. reverse (skip_blanks s)) (reverse-cons b xs)
    ∙ ap reverse (skip-push (reverse xs) b)
    ∙ ap (λ t. reverse (if t then skip_blanks (b ∷ []) else skip_blanks (reverse xs) ++ b ∷ [])) (all-reverse is_blank xs)
    ∙ ⊎_elim (λ blank. of_blank blank) (λ other. of_other (skip-behind xs) other) (cases_Bool (list_all is_blank xs))
  where
    alone : (t : Bool) → reverse (if t then [] else b ∷ []) ≡ (if t && true then [] else b ∷ [])
    alone true = refl
    alone false = refl

    no_end : (t : Bool) → (b ∷ without_end xs) ≡ (if t && false then [] else b ∷ without_end xs)
    no_end true = refl
    no_end false = refl

    of_blank : list_all is_blank xs ≡ true → reverse (if list_all is_blank xs then skip_blanks (b ∷ []) else skip_blanks (reverse xs) ++ b ∷ []) ≡ without_end (b ∷ xs)
    of_blank blank =
        ap (λ t. reverse (if t then skip_blanks (b ∷ []) else skip_blanks (reverse xs) ++ b ∷ [])) blank
        ∙ alone (is_blank b)
        ∙ ap (λ s. if is_blank b && true then [] else b ∷ s) (sym (without-blank xs blank))
        ∙ ap (λ t. if is_blank b && t then [] else b ∷ without_end xs) (sym blank)

    of_other : reverse (skip_blanks (reverse xs)) ≡ without_end xs → list_all is_blank xs ≡ false → reverse (if list_all is_blank xs then skip_blanks (b ∷ []) else skip_blanks (reverse xs) ++ b ∷ []) ≡ without_end (b ∷ xs)
    of_other rest other =
        ap (λ t. reverse (if t then skip_blanks (b ∷ []) else skip_blanks (reverse xs) ++ b ∷ [])) other
        ∙ reverse-append (skip_blanks (reverse xs)) (b ∷ [])
        ∙ ap (λ s. b ∷ s) rest
        ∙ no_end (is_blank b)
        ∙ ap (λ t. if is_blank b && t then [] else b ∷ without_end xs) (sym other)

-- white space is no digit
blank-no_digit : (b : ℕ) → is_blank b ≡ true → is_digit b ≡ false
blank-no_digit b h = grind (arith, nat_tests)

-- what all digits begin with
record DigitsFront (all front : List ℕ) : Type 0 where
  digits : list_all is_digit front ≡ true
  more : List ℕ
  split : all ≡ front ++ more

-- where bytes and more behind them are digits and white space, so are the bytes
digits-front : (bytes more : List ℕ) → list_all is_digit (without_end (bytes ++ more)) ≡ true → DigitsFront (without_end (bytes ++ more)) (without_end bytes)
digits-front [] more h = record { digits = refl; more = without_end more; split = refl }
digits-front (b ∷ bytes) more h = ⊎_elim (λ e. of_blank e) (λ e. of_other e (digits-front bytes more (digits e).1)) (cases_Bool (is_blank b))
  where
    digits : is_blank b ≡ false → (is_digit b ≡ true) × (list_all is_digit (without_end (bytes ++ more)) ≡ true)
    digits e = and_parts (is_digit b) (list_all is_digit (without_end (bytes ++ more))) (ap (list_all is_digit) (sym (without-other b (bytes ++ more) e)) ∙ h)

    of_other : is_blank b ≡ false → DigitsFront (without_end (bytes ++ more)) (without_end bytes) → DigitsFront (without_end (b ∷ (bytes ++ more))) (without_end (b ∷ bytes))
    of_other e inside =
        record {
          digits = ap (list_all is_digit) (without-other b bytes e) ∙ ap (λ t. t && list_all is_digit (without_end bytes)) (digits e).0 ∙ inside.digits;
          more = inside.more;
          split = without-other b (bytes ++ more) e ∙ ap (λ s. b ∷ s) inside.split ∙ ap (λ s. s ++ inside.more) (sym (without-other b bytes e));
        }

    at_end : list_all is_blank (b ∷ (bytes ++ more)) ≡ true → DigitsFront (without_end (b ∷ (bytes ++ more))) (without_end (b ∷ bytes))
    at_end blank =
        let two = and_parts (list_all is_blank (b ∷ bytes)) (list_all is_blank more) (sym (list_all-append is_blank (b ∷ bytes) more) ∙ blank) in
        let none : without_end (b ∷ bytes) ≡ [] = without-blank (b ∷ bytes) two.0 in
        record {
          digits = ap (list_all is_digit) none;
          more = without_end (b ∷ (bytes ++ more));
          split = ap (λ s. s ++ without_end (b ∷ (bytes ++ more))) (sym none);
        }

    inside_text : is_blank b ≡ true → list_all is_blank (b ∷ (bytes ++ more)) ≡ false → DigitsFront (without_end (b ∷ (bytes ++ more))) (without_end (b ∷ bytes))
    inside_text e other =
        let kept : without_end (b ∷ (bytes ++ more)) ≡ b ∷ without_end (bytes ++ more) = ap (λ t. if t then [] else b ∷ without_end (bytes ++ more)) other in
        let two = and_parts (is_digit b) (list_all is_digit (without_end (bytes ++ more))) (ap (list_all is_digit) (sym kept) ∙ h) in
        absurd (false≢true (sym (blank-no_digit b e) ∙ two.0))

    of_blank : is_blank b ≡ true → DigitsFront (without_end (b ∷ (bytes ++ more))) (without_end (b ∷ bytes))
    of_blank e = ⊎_elim at_end (inside_text e) (cases_Bool (list_all is_blank (b ∷ (bytes ++ more))))

-- more digits make no number less
fold-more : (digits : List ℕ) (n : ℕ) → n ≤ fold (λ n digit. 10 * n + (digit - 48)) n digits
fold-more [] n = omega arith
fold-more (d ∷ digits) n = omega (arith, fold-more digits (10 * n + (d - 48)))

-- the number of an optional one is in the range of a type
abbrev IsGood : Base → Option ℤ → Type 0
IsGood base number = is_some (in_range base number) ≡ true

-- a number that is good is in range
good-fits : (z : ℤ) (t : Bool) → is_some (let found : Option ℤ = Some z in if t then found else None) ≡ true → t ≡ true
good-fits z true h = refl
good-fits z false h = absurd (false≢true h)

-- a number in range is good
fits-good : (base : Base) (z : ℤ) → fits base z ≡ true → IsGood base (Some z)
fits-good base z h = ap (λ t. is_some (let found : Option ℤ = Some z in if t then found else None)) h

-- the number of digits
abbrev value : List ℕ → ℕ
value digits = fold (λ n digit. 10 * n + (digit - 48)) 0 digits

-- digits that are a good number, with a sign or without
record GoodDigits (base : Base) (sign : ℕ → ℤ) (digits : List ℕ) : Type 0 where
  some : 1 ≤ length digits
  all : list_all is_digit digits ≡ true
  fit : fits base (sign (value digits)) ≡ true

-- a good number of digits
good-digits : (base : Base) (sign : ℕ → ℤ) (digits : List ℕ) → IsGood base (option_map sign (digits_number digits)) → GoodDigits base sign digits
good-digits base sign [] h = absurd (false≢true h)
good-digits base sign (d ∷ digits) h =
    let two = either (list_all is_digit (d ∷ digits)) (value (d ∷ digits)) h in
    record { some = omega arith; all = two.0; fit = two.1 }
  where
    either : (t : Bool) (n : ℕ) → IsGood base (option_map sign (if t then Some n else None)) → (t ≡ true) × (fits base (sign n) ≡ true)
    either true n h = (refl, good-fits (sign n) (fits base (sign n)) h)
    either false n h = absurd (false≢true h)

-- digits in range are a good number
digits-good : (base : Base) (sign : ℕ → ℤ) (d : ℕ) (digits : List ℕ) → list_all is_digit (d ∷ digits) ≡ true → fits base (sign (value (d ∷ digits))) ≡ true → IsGood base (option_map sign (digits_number (d ∷ digits)))
digits-good base sign d digits all fit = ap (λ t. is_some (in_range base (option_map sign (if t then Some (value (d ∷ digits)) else None)))) all ∙ fits-good base (sign (value (d ∷ digits))) fit

-- less is in range too
abbrev Lessens : Base → (ℕ → ℤ) → Type 0
Lessens base sign = (n m : ℕ) → n ≤ m → fits base (sign m) ≡ true → fits base (sign n) ≡ true

-- a number below another one
below-top : (n m top : ℕ) → n ≤ m → nat_lt m top ≡ true → nat_lt n top ≡ true
below-top n m top le h = grind (arith, nat_tests)

-- less without a sign
less : (base : Base) → Lessens base (λ n. pos n)
less UnitTy n m le h = below-top n m 1 le h
less BoolTy n m le h = below-top n m 1 le h
less (Struct k) n m le h = below-top n m 1 le h
less Bit n m le h = below-top n m 2 le h
less Int8 n m le h = below-top n m (2 ^ 7) le h
less Int16 n m le h = below-top n m (2 ^ 15) le h
less Int32 n m le h = below-top n m (2 ^ 31) le h
less Int64 n m le h = below-top n m (2 ^ 63) le h
less Complex16 n m le h = below-top n m (2 ^ 15) le h
less Complex32 n m le h = below-top n m (2 ^ 31) le h

-- zero is in range
zero-fits : (base : Base) → fits base (pos 0) ≡ true
zero-fits UnitTy = refl
zero-fits BoolTy = refl
zero-fits (Struct k) = refl
zero-fits Bit = refl
zero-fits Int8 = refl
zero-fits Int16 = refl
zero-fits Int32 = refl
zero-fits Int64 = refl
zero-fits Complex16 = refl
zero-fits Complex32 = refl

-- less with a sign
less-minus : (base : Base) → Lessens base (λ n. neg_ℤ (pos n))
less-minus base zero m le h = zero-fits base
less-minus base (suc n) zero le h = absurd (omega arith)
less-minus UnitTy (suc n) (suc m) le h = below-top n m 1 (omega arith) h
less-minus BoolTy (suc n) (suc m) le h = below-top n m 1 (omega arith) h
less-minus (Struct k) (suc n) (suc m) le h = below-top n m 1 (omega arith) h
less-minus Bit (suc n) (suc m) le h = absurd (false≢true h)
less-minus Int8 (suc n) (suc m) le h = below-top n m (2 ^ 7) (omega arith) h
less-minus Int16 (suc n) (suc m) le h = below-top n m (2 ^ 15) (omega arith) h
less-minus Int32 (suc n) (suc m) le h = below-top n m (2 ^ 31) (omega arith) h
less-minus Int64 (suc n) (suc m) le h = below-top n m (2 ^ 63) (omega arith) h
less-minus Complex16 (suc n) (suc m) le h = below-top n m (2 ^ 15) (omega arith) h
less-minus Complex32 (suc n) (suc m) le h = below-top n m (2 ^ 31) (omega arith) h

-- fewer digits are a good number too
fewer : (base : Base) (sign : ℕ → ℤ) (d : ℕ) (front more : List ℕ) → Lessens base sign → IsGood base (option_map sign (digits_number (d ∷ (front ++ more)))) → IsGood base (option_map sign (digits_number (d ∷ front)))
fewer base sign d front more lessens h =
    let good = good-digits base sign (d ∷ (front ++ more)) h in
    let two = and_parts (list_all is_digit (d ∷ front)) (list_all is_digit more) (sym (list_all-append is_digit (d ∷ front) more) ∙ good.all) in
    let smaller : value (d ∷ front) ≤ value (d ∷ (front ++ more)) = subst (λ n. value (d ∷ front) ≤ n) (sym (fold-append (λ n digit. 10 * n + (digit - 48)) 0 (d ∷ front) more)) (fold-more more (value (d ∷ front))) in
    digits-good base sign d front two.0 (lessens (value (d ∷ front)) (value (d ∷ (front ++ more))) smaller good.fit)

-- so are those before white space and more bytes
good-front : (base : Base) (sign : ℕ → ℤ) (d : ℕ) (bytes more : List ℕ) → Lessens base sign → IsGood base (option_map sign (digits_number (d ∷ without_end (bytes ++ more)))) → IsGood base (option_map sign (digits_number (d ∷ without_end bytes)))
good-front base sign d bytes more lessens h =
    let good = good-digits base sign (d ∷ without_end (bytes ++ more)) h in
    let two = and_parts (is_digit d) (list_all is_digit (without_end (bytes ++ more))) good.all in
    let inside = digits-front bytes more two.1 in
    fewer base sign d (without_end bytes) inside.more lessens (subst (λ s. IsGood base (option_map sign (digits_number (d ∷ s)))) inside.split h)

-- the byte of a minus with nothing behind it, where there is more
abbrev IsMinus : ℕ → List ℕ → List ℕ → Type 0
IsMinus b bytes more = (bytes ≡ []) × (b ≡ 45) × (1 ≤ length more)

-- digits behind a minus
good-minus : (base : Base) (b : ℕ) (bytes more : List ℕ) → b ≡ 45 → IsGood base (option_map (λ n. neg_ℤ (pos n)) (digits_number (without_end (bytes ++ more)))) →
    IsGood base (option_map (λ n. neg_ℤ (pos n)) (digits_number (without_end bytes))) ⊎ IsMinus b bytes more
good-minus base b [] more e h = inr (refl, e, some more h)
  where
    some : (more : List ℕ) → IsGood base (option_map (λ n. neg_ℤ (pos n)) (digits_number (without_end more))) → 1 ≤ length more
    some [] h = absurd (false≢true h)
    some (x ∷ more) h = omega arith
good-minus base b (c ∷ bytes) more e h = ⊎_elim (λ blank. absurd (of_blank blank)) (λ other. inl (of_other other)) (cases_Bool (is_blank c))
  where
    sign : ℕ → ℤ
    sign = λ n. neg_ℤ (pos n)

    of_other : is_blank c ≡ false → IsGood base (option_map (λ n. neg_ℤ (pos n)) (digits_number (without_end (c ∷ bytes))))
    of_other other =
        subst (λ s. IsGood base (option_map (λ n. neg_ℤ (pos n)) (digits_number s))) (sym (without-other c bytes other))
        (good-front base (λ n. neg_ℤ (pos n)) c bytes more (less-minus base)
        (subst (λ s. IsGood base (option_map (λ n. neg_ℤ (pos n)) (digits_number s))) (without-other c (bytes ++ more) other) h))

    of_blank : is_blank c ≡ true → ⊥
    of_blank blank = either (list_all is_blank (c ∷ (bytes ++ more))) (good-digits base (λ n. neg_ℤ (pos n)) (without_end (c ∷ (bytes ++ more))) h)
      where
        either : (t : Bool) → GoodDigits base (λ n. neg_ℤ (pos n)) (if t then [] else c ∷ without_end (bytes ++ more)) → ⊥
        either true good = absurd (omega (arith, good.some))
        either false good = false≢true (sym (blank-no_digit c blank) ∙ (and_parts (is_digit c) (list_all is_digit (without_end (bytes ++ more))) good.all).0)

-- a number that begins with a byte is one without what stands behind it, or a minus is all that it leaves
good-written : (base : Base) (b : ℕ) (bytes more : List ℕ) → IsGood base (written_number (b ∷ without_end (bytes ++ more))) → IsGood base (written_number (b ∷ without_end bytes)) ⊎ IsMinus b bytes more
good-written base b bytes more h = ⊎_elim (λ e. of_minus e) (λ e. inl (of_other e)) (cases_Bool (nat_eq b 45))
  where
    other : nat_eq b 45 ≡ false → (s : List ℕ) → written_number (b ∷ s) ≡ option_map (λ n. pos n) (digits_number (b ∷ s))
    other e s = ap (λ t. if t then option_map (λ n. neg_ℤ (pos n)) (digits_number s) else option_map (λ n. pos n) (digits_number (b ∷ s))) e

    minus : nat_eq b 45 ≡ true → (s : List ℕ) → written_number (b ∷ s) ≡ option_map (λ n. neg_ℤ (pos n)) (digits_number s)
    minus e s = ap (λ t. if t then option_map (λ n. neg_ℤ (pos n)) (digits_number s) else option_map (λ n. pos n) (digits_number (b ∷ s))) e

    of_other : nat_eq b 45 ≡ false → IsGood base (written_number (b ∷ without_end bytes))
    of_other e =
        subst (IsGood base) (sym (other e (without_end bytes)))
        (good-front base (λ n. pos n) b bytes more (less base) (subst (IsGood base) (other e (without_end (bytes ++ more))) h))

    of_minus : nat_eq b 45 ≡ true → IsGood base (written_number (b ∷ without_end bytes)) ⊎ IsMinus b bytes more
    of_minus e =
        let is : b ≡ 45 = grind (arith, nat_tests) in
        ⊎_elim (λ good. inl (subst (IsGood base) (sym (minus e (without_end bytes))) good)) (λ m. inr m)
        (good-minus base b bytes more is (subst (IsGood base) (minus e (without_end (bytes ++ more))) h))

-- white space in front of bytes is trimmed
trimmed-blank : (b : ℕ) (bytes : List ℕ) → is_blank b ≡ true → trimmed (b ∷ bytes) ≡ trimmed bytes
trimmed-blank b bytes e = ap (λ t. reverse (skip_blanks (reverse (if t then skip_blanks bytes else b ∷ bytes)))) e

-- behind another byte only what stands at the end is
trimmed-other : (b : ℕ) (bytes : List ℕ) → is_blank b ≡ false → trimmed (b ∷ bytes) ≡ b ∷ without_end bytes
trimmed-other b bytes e = ap (λ t. reverse (skip_blanks (reverse (if t then skip_blanks bytes else b ∷ bytes)))) e ∙ skip-behind (b ∷ bytes) ∙ without-other b bytes e

-- bytes are a number, or with a digit behind them, where there is more
abbrev AreGood : Base → List ℕ → List ℕ → Type 0
AreGood base bytes more = IsGood base (written_number (trimmed bytes)) ⊎ (IsGood base (written_number (trimmed (bytes ++ 48 ∷ []))) × (1 ≤ length more))

-- where more bytes make a number, none is needed, or a digit makes one
good-trimmed : (base : Base) (bytes more : List ℕ) → list_all is_blank bytes ≡ false → IsGood base (written_number (trimmed (bytes ++ more))) → AreGood base bytes more
good-trimmed base [] more other h = absurd (false≢true (sym other))
good-trimmed base (b ∷ bytes) more other h =
    ⊎_elim (λ e. of_blank e (good-trimmed base bytes more (ap (λ t. t && list_all is_blank bytes) (sym e) ∙ other) (subst (λ s. IsGood base (written_number s)) (trimmed-blank b (bytes ++ more) e) h)))
    (λ e. of_other e) (cases_Bool (is_blank b))
  where
    of_blank : is_blank b ≡ true → AreGood base bytes more → AreGood base (b ∷ bytes) more
    of_blank e (inl good) = inl (subst (λ s. IsGood base (written_number s)) (sym (trimmed-blank b bytes e)) good)
    of_blank e (inr good) = inr (subst (λ s. IsGood base (written_number s)) (sym (trimmed-blank b (bytes ++ 48 ∷ []) e)) good.0, good.1)

    of_minus : IsMinus b bytes more → AreGood base (b ∷ bytes) more
    of_minus m = inr (subst (λ s. IsGood base (written_number (trimmed s))) (ap (λ s. b ∷ (s ++ 48 ∷ [])) (sym m.0) ∙ ap (λ c. c ∷ (bytes ++ 48 ∷ [])) (refl)) (subst (λ c. IsGood base (written_number (trimmed (c ∷ 48 ∷ [])))) (sym m.1) (fits-good base (pos 0) (zero-fits base))), m.2)

    of_other : is_blank b ≡ false → AreGood base (b ∷ bytes) more
    of_other e =
        ⊎_elim (λ good. inl (subst (λ s. IsGood base (written_number s)) (sym (trimmed-other b bytes e)) good)) of_minus
        (good-written base b bytes more (subst (λ s. IsGood base (written_number s)) (trimmed-other b (bytes ++ more) e) h))

-- bytes of which none can be made are not the end of the input
not-end : (base : Base) (bytes : List ℕ) → may_go_on base bytes ≡ false → is_end bytes ≡ false
not-end base bytes h =
    let now = not (is_none (item_before_end base bytes)) in
    let later = not (is_none (item_before_end base (bytes ++ 48 ∷ []))) in
    (or_parts (is_end bytes) now (or_parts (is_end bytes || now) later h).0).0

-- bytes of which none can be made are no item with more behind them
pub no-mending : (base : Base) (bytes more : List ℕ) (size : ℕ) → may_go_on base bytes ≡ false → length bytes + length more ≤ size → item_of base size (written_number (trimmed (bytes ++ more))) ≡ None
no-mending base bytes more size h long =
    ⊎_elim (λ above. item-long base size (written_number (trimmed (bytes ++ more))) above) (λ short. item-short base size (written_number (trimmed (bytes ++ more))) short ∙ ⊎_elim (λ good. absurd (of_good short good)) (λ bad. none (in_range base (written_number (trimmed (bytes ++ more)))) bad) (cases_Bool (is_some (in_range base (written_number (trimmed (bytes ++ more))))))) (cases_lt 64 size)
  where
    none : (number : Option ℤ) → is_some number ≡ false → as_item size number ≡ None
    none None e = refl
    none (Some z) e = absurd (false≢true (sym e))

    of_good : size ≤ 64 → IsGood base (written_number (trimmed (bytes ++ more))) → ⊥
    of_good short good =
        let few : length bytes ≤ 64 = omega (arith, short, long) in
        let no = not-end base bytes h in
        let other : list_all is_blank bytes ≡ false = ⊎_elim (λ e. e) (λ e. absurd (false≢true (sym e ∙ (let t : nat_le (length bytes) 64 ≡ true = grind (arith, nat_tests) in t)))) (and_cases (list_all is_blank bytes) (nat_le (length bytes) 64) no) in
        let either_one = sym (open-more base bytes few other) ∙ h in
        let parts = or_parts (is_some (in_range base (written_number (trimmed bytes)))) (not (is_none (item_before_end base (bytes ++ 48 ∷ [])))) either_one in
        ⊎_elim (λ good. false≢true (sym parts.0 ∙ good)) (λ good. false≢true (sym parts.1 ∙ open-digit base bytes (omega (arith, short, long, good.1)) ∙ good.0)) (good-trimmed base bytes more other good)

-- nor are they the end of the input
pub no-end : (base : Base) (bytes more : List ℕ) → may_go_on base bytes ≡ false → is_end (bytes ++ more) ≡ false
no-end base bytes more h =
    let no = not-end base bytes h in
    ⊎_elim (λ e. ap (λ t. t && nat_le (length (bytes ++ more)) 64) (list_all-append is_blank bytes more ∙ ap (λ t. t && list_all is_blank more) e))
    (λ e. and_right (list_all is_blank (bytes ++ more)) (nat_le (length (bytes ++ more)) 64) (long e))
    (and_cases (list_all is_blank bytes) (nat_le (length bytes) 64) no)
  where
    long : nat_le (length bytes) 64 ≡ false → nat_le (length (bytes ++ more)) 64 ≡ false
    long e =
        let few : 64 < length bytes = grind (arith, nat_tests) in
        let all : 64 < length (bytes ++ more) = omega (arith, few, length-append bytes more) in
        grind (arith, nat_tests)
