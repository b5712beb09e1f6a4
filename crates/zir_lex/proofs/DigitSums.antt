-- The number that digits spell, one digit more at a time.
use Rattle.std.proofs.Common.{◌≡◌, ℕ, ◌+◌, ◌*◌, ◌^◌, ◌<◌, ◌≤◌, List, [], ◌∷◌, ◌++◌, length, get_or, take, drop, ◌∙◌, ap, arith, add-one, length-append, take-append-drop, take-suc, pow-add, pow-suc, mul-le-mul_left}
use Rattle.std.proofs.Math.Nat.{one-le-pow, pow-zero}
use Rattle.std.specs.Char.{digit_value}
use Rattle.zir_lex.specs.Classes.{number_of}

-- the powers of a digit before other digits
regroup : (d q p n m whole : ℕ) → whole ≡ q * p → d * whole + (n * p + m) ≡ (d * q + n) * p + m
regroup d q p n m whole e = rw e (omega arith)

-- digits and more digits: the first count as many powers as more follow
pub number_append : (base : ℕ) (xs ys : List ℕ) → number_of base (xs ++ ys) ≡ number_of base xs * base ^ length ys + number_of base ys
number_append base [] ys = omega arith
number_append base (x ∷ xs) ys =
    let power : base ^ length (xs ++ ys) ≡ base ^ length xs * base ^ length ys = ap (λ n. base ^ n) (length-append xs ys) ∙ pow-add base (length xs) (length ys) in
    ap (λ n. digit_value x * base ^ length (xs ++ ys) + n) (number_append base xs ys) ∙ regroup (digit_value x) (base ^ length xs) (base ^ length ys) (number_of base xs) (number_of base ys) (base ^ length (xs ++ ys)) power

-- one digit alone
one_digit : (n base d : ℕ) → n * base ^ 1 + (d * base ^ 0 + 0) ≡ n * base + d
one_digit n base d = let first : base ^ 1 ≡ base ^ 0 * base = pow-suc base 0 in let none : base ^ 0 ≡ 1 = pow-zero base in rw (first, none) (omega arith)

-- one digit more
pub number_push : (base : ℕ) (xs : List ℕ) (d : ℕ) → number_of base (xs ++ d ∷ []) ≡ number_of base xs * base + digit_value d
number_push base xs d = number_append base xs (d ∷ []) ∙ one_digit (number_of base xs) base (digit_value d)

-- a step of the loop over the digits
pub number_more : (base : ℕ) (digits : List ℕ) (i : ℕ) → i < length digits → number_of base (take (i + 1) digits) ≡ number_of base (take i digits) * base + digit_value (get_or digits i 0)
number_more base digits i h = ap (number_of base) (ap (λ n. take n digits) (add-one i) ∙ take-suc digits i 0 h) ∙ number_push base (take i digits) (get_or digits i 0)

-- the first digits count no more than all of them
pub number_front : (base : ℕ) (digits : List ℕ) (i : ℕ) → 0 < base → number_of base (take i digits) ≤ number_of base digits
number_front base digits i positive =
    let whole : number_of base (take i digits ++ drop i digits) ≡ number_of base (take i digits) * base ^ length (drop i digits) + number_of base (drop i digits) = number_append base (take i digits) (drop i digits) in
    let same : number_of base (take i digits ++ drop i digits) ≡ number_of base digits = ap (number_of base) (take-append-drop i digits) in
    let more : number_of base (take i digits) * 1 ≤ number_of base (take i digits) * base ^ length (drop i digits) = mul-le-mul_left (number_of base (take i digits)) (one-le-pow (length (drop i digits)) base positive) in
    omega arith
