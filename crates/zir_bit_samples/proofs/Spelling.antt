-- Bits and bytes, and what bits spell.
use Rattle.std.proofs.Common.{ℕ, zero, suc, ◌+◌, ◌*◌, ◌/◌, ◌%◌, ◌^◌, ◌<◌, ◌≤◌, ◌≡◌, Bool, true, false, List, [], ◌∷◌, ◌++◌, length, refl, ap, sym, ◌∙◌, arith, append_assoc, pow-suc}
use Rattle.std.specs.Prelude.{All, if◌then◌else◌, nat_eq}
use Rattle.std.proofs.lemmas.Bool.Decides.{nat_tests}
use Rattle.zir_bit_meaning.specs.Samples.{bits_of, low_bits, number_of, spell_bits}

-- whether a number is odd, as a number
odd-number : (n : ℕ) → (if nat_eq (n % 2) 1 then 1 else 0) ≡ n % 2
odd-number n = grind (arith, nat_tests)

-- a number with one binary digit less
half_below : (k n : ℕ) → n < 2 ^ suc k → n / 2 < 2 ^ k
half_below k n h = omega (arith, pow-suc 2 k)

-- the number of the lowest bits of a number that has no others
pub number-low_bits : (k n : ℕ) → n < 2 ^ k → number_of (low_bits k n) ≡ n
number-low_bits zero n h = omega arith
number-low_bits (suc k) n h = omega (arith, odd-number n, number-low_bits k (n / 2) (half_below k n h))

-- the bits of two lists of bytes
pub bits-append : (xs ys : List ℕ) → bits_of (xs ++ ys) ≡ bits_of xs ++ bits_of ys
bits-append [] ys = refl
bits-append (x ∷ xs) ys = ap (λ bs. low_bits 8 x ++ bs) (bits-append xs ys) ∙ sym (append_assoc (low_bits 8 x) (bits_of xs) (bits_of ys))

-- the bits of bytes spell the bytes, and what follows them spells what it spells alone
pub spell-bits_of : (finished : Bool) (bytes : List ℕ) (bits : List Bool) → All (λ b. b < 256) bytes → spell_bits finished (bits_of bytes ++ bits) ≡ bytes ++ spell_bits finished bits
spell-bits_of f [] bits h = refl
spell-bits_of f (x ∷ xs) bits h =
    ap (λ b. b ∷ spell_bits f (bits_of xs ++ bits)) (number-low_bits 8 x (h 0 x (omega arith)))
    ∙ ap (λ bs. x ∷ bs) (spell-bits_of f xs bits (λ k d lt. h (suc k) d (omega arith)))

-- what the front bits spell without padding is a front part of what all bits spell
pub spell-front : (finished : Bool) (front bits : List Bool) → (rest : List ℕ) × (spell_bits finished (front ++ bits) ≡ spell_bits false front ++ rest)
spell-front f [] bits = (spell_bits f bits, refl)
spell-front f (a ∷ []) bits = (spell_bits f (a ∷ bits), refl)
spell-front f (a ∷ b ∷ []) bits = (spell_bits f (a ∷ b ∷ bits), refl)
spell-front f (a ∷ b ∷ c ∷ []) bits = (spell_bits f (a ∷ b ∷ c ∷ bits), refl)
spell-front f (a ∷ b ∷ c ∷ d ∷ []) bits = (spell_bits f (a ∷ b ∷ c ∷ d ∷ bits), refl)
spell-front f (a ∷ b ∷ c ∷ d ∷ e ∷ []) bits = (spell_bits f (a ∷ b ∷ c ∷ d ∷ e ∷ bits), refl)
spell-front f (a ∷ b ∷ c ∷ d ∷ e ∷ g ∷ []) bits = (spell_bits f (a ∷ b ∷ c ∷ d ∷ e ∷ g ∷ bits), refl)
spell-front f (a ∷ b ∷ c ∷ d ∷ e ∷ g ∷ h ∷ []) bits = (spell_bits f (a ∷ b ∷ c ∷ d ∷ e ∷ g ∷ h ∷ bits), refl)
spell-front f (a ∷ b ∷ c ∷ d ∷ e ∷ g ∷ h ∷ i ∷ front) bits =
    let more = spell-front f front bits in
    (more.0, ap (λ bs. number_of (a ∷ b ∷ c ∷ d ∷ e ∷ g ∷ h ∷ i ∷ []) ∷ bs) more.1)

-- twice a number more
twice_more : (n q : ℕ) → ((n + 2 * q) % 2 ≡ n % 2) × ((n + 2 * q) / 2 ≡ n / 2 + q)
twice_more n q = (omega arith, omega arith)

-- a bit at its place, and twice as high
place-suc : (b k : ℕ) → b * 2 ^ suc k ≡ 2 * (b * 2 ^ k)
place-suc b k = rw (pow-suc 2 k) (omega arith)

-- the lowest bit is another one than the bit at a higher place
low_bits-high : (k n b : ℕ) → low_bits (suc (suc k)) (n + b * 2 ^ suc k) ≡ nat_eq (n % 2) 1 ∷ low_bits (suc k) (n / 2 + b * 2 ^ k)
low_bits-high k n b = rw (place-suc b k, (twice_more n (b * 2 ^ k)).0, (twice_more n (b * 2 ^ k)).1)

-- one more bit behind the lowest bits
pub low_bits-more : (k n : ℕ) (bit : Bool) → n < 2 ^ k → low_bits k n ++ bit ∷ [] ≡ low_bits (suc k) (n + (if bit then 1 else 0) * 2 ^ k)
low_bits-more zero zero true h = refl
low_bits-more zero zero false h = refl
low_bits-more zero (suc n) bit h = absurd (omega arith)
low_bits-more (suc k) n bit h =
    ap (λ bits. nat_eq (n % 2) 1 ∷ bits) (low_bits-more k (n / 2) bit (half_below k n h)) ∙ sym (low_bits-high k n (if bit then 1 else 0))

-- fewer bits than a byte spell one byte where they are padded
pub spell-few : (bits : List Bool) → 0 < length bits → length bits ≤ 7 → spell_bits true bits ≡ number_of bits ∷ []
spell-few [] some few = absurd (omega arith)
spell-few (a ∷ []) some few = refl
spell-few (a ∷ b ∷ []) some few = refl
spell-few (a ∷ b ∷ c ∷ []) some few = refl
spell-few (a ∷ b ∷ c ∷ d ∷ []) some few = refl
spell-few (a ∷ b ∷ c ∷ d ∷ e ∷ []) some few = refl
spell-few (a ∷ b ∷ c ∷ d ∷ e ∷ f ∷ []) some few = refl
spell-few (a ∷ b ∷ c ∷ d ∷ e ∷ f ∷ g ∷ []) some few = refl
spell-few (a ∷ b ∷ c ∷ d ∷ e ∷ f ∷ g ∷ h ∷ bits) some few = absurd (omega arith)

-- fewer bits than a byte spell nothing where they are not padded
pub spell-few-none : (bits : List Bool) → length bits ≤ 7 → spell_bits false bits ≡ []
spell-few-none [] few = refl
spell-few-none (a ∷ []) few = refl
spell-few-none (a ∷ b ∷ []) few = refl
spell-few-none (a ∷ b ∷ c ∷ []) few = refl
spell-few-none (a ∷ b ∷ c ∷ d ∷ []) few = refl
spell-few-none (a ∷ b ∷ c ∷ d ∷ e ∷ []) few = refl
spell-few-none (a ∷ b ∷ c ∷ d ∷ e ∷ f ∷ []) few = refl
spell-few-none (a ∷ b ∷ c ∷ d ∷ e ∷ f ∷ g ∷ []) few = refl
spell-few-none (a ∷ b ∷ c ∷ d ∷ e ∷ f ∷ g ∷ h ∷ bits) few = absurd (omega arith)

-- so many lowest bits
pub length-low_bits : (k n : ℕ) → length (low_bits k n) ≡ k
length-low_bits zero n = refl
length-low_bits (suc k) n = ap (λ m. suc m) (length-low_bits k (n / 2))

-- eight bits for each byte
pub length-bits_of : (bytes : List ℕ) → length (bits_of bytes) ≡ 8 * length bytes
length-bits_of [] = refl
length-bits_of (x ∷ xs) = omega (arith, length-bits_of xs)
