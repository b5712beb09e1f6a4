-- Bits of bytes, and the numbers that they make.
use Rattle.std.proofs.Common.{ℕ, zero, suc, ◌+◌, ◌-◌, ◌*◌, ◌/◌, ◌%◌, ◌^◌, ◌<◌, ◌≤◌, ◌≡◌, ℤ, Bool, true, false, List, [], ◌∷◌, ◌++◌, length, get_or, take, drop, refl, ap, sym, ◌∙◌, arith, pow-suc, add-one, drop-cons}
use Rattle.std.proofs.Math.Nat.{zero-div, mod-eq_of_lt}
use Rattle.std.proofs.lemmas.List.{drop-drop}
use Rattle.std.proofs.lemmas.Nat.{shr-shr, mod-pow-add, mod_below, pow_pos}
use Rattle.std.proofs.lemmas.Bool.Decides.{nat_tests}
use Rattle.std.specs.Prelude.{if◌then◌else◌, nat_eq}
use Rattle.zir_tree.specs.declared.types.Base.{Base}
use Rattle.zir_tree.specs.declared.types.Base.TheVariants.{Unit, Bit, Bool as BoolTy, Int8, Int16, Int32, Int64, Complex16, Complex32, Struct}
use Rattle.zir_meaning.specs.Items.{width}
use Rattle.zir_meaning.specs.Samples.{bits_of, low_bits, number_at, number_of, with_sign}

-- twice a number and a bit more, halved
half-of : (b : Bool) (n : ℕ) → ((if b then 1 else 0) + 2 * n) / 2 ≡ n
half-of true n = omega arith
half-of false n = omega arith

-- twice a number and a bit more, by its lowest bit
odd-of : (b : Bool) (n : ℕ) → ((if b then 1 else 0) + 2 * n) % 2 ≡ (if b then 1 else 0)
odd-of true n = omega arith
odd-of false n = omega arith

-- a number halved, and then by a power
pub half-pow : (k n : ℕ) → n / 2 / 2 ^ k ≡ n / 2 ^ suc k
half-pow k n = shr-shr n 1 k ∙ ap (λ m. n / 2 ^ m) (let e : 1 + k ≡ suc k = omega arith in e)

-- the number behind some bits
pub number-drop : (k : ℕ) (bits : List Bool) → number_of (drop k bits) ≡ number_of bits / 2 ^ k
number-drop zero bits = omega arith
number-drop (suc k) [] = sym (zero-div (2 ^ suc k))
number-drop (suc k) (b ∷ bits) =
    number-drop k bits
    ∙ ap (λ n. n / 2 ^ k) (sym (half-of b (number_of bits)))
    ∙ half-pow k ((if b then 1 else 0) + 2 * number_of bits)

-- a number by one more bit
pub mod-more : (k n : ℕ) → n % 2 ^ suc k ≡ n % 2 + 2 * (n / 2 % 2 ^ k)
mod-more k n =
    ap (λ m. n % 2 ^ m) (let e : suc k ≡ k + 1 = omega arith in e) ∙ mod-pow-add n k 1 ∙ omega arith

-- the number of the first bits
pub number-take : (k : ℕ) (bits : List Bool) → number_of (take k bits) ≡ number_of bits % 2 ^ k
number-take zero bits = omega arith
number-take (suc k) [] = sym (mod-eq_of_lt (pow_pos (suc k)))
number-take (suc k) (b ∷ bits) =
    let n = (if b then 1 else 0) + 2 * number_of bits in
    ap (λ m. (if b then 1 else 0) + 2 * m) (number-take k bits ∙ ap (λ m. m % 2 ^ k) (sym (half-of b (number_of bits))))
    ∙ ap (λ m. m + 2 * (n / 2 % 2 ^ k)) (sym (odd-of b (number_of bits)))
    ∙ sym (mod-more k n)

-- the number of some bits behind others
pub number-part : (at k : ℕ) (bits : List Bool) → number_of (take k (drop at bits)) ≡ number_of bits / 2 ^ at % 2 ^ k
number-part at k bits = number-take k (drop at bits) ∙ ap (λ n. n % 2 ^ k) (number-drop at bits)

-- so many bits make a number below a power
pub part-below : (at k : ℕ) (bits : List Bool) → number_of (take k (drop at bits)) < 2 ^ k
part-below at k bits = rw (number-part at k bits) (mod_below (number_of bits / 2 ^ at) (2 ^ k) (pow_pos k))

-- the number of some bits and of some behind them
pub number-parts : (at j k : ℕ) (bits : List Bool) → number_of (take (j + k) (drop at bits)) ≡ number_of (take j (drop (at + k) bits)) * 2 ^ k + number_of (take k (drop at bits))
number-parts at j k bits =
    let n = number_of bits in
    number-part at (j + k) bits
    ∙ mod-pow-add (n / 2 ^ at) j k
    ∙ ap (λ m. m % 2 ^ j * 2 ^ k + n / 2 ^ at % 2 ^ k) (shr-shr n at k)
    ∙ ap (λ m. m * 2 ^ k + n / 2 ^ at % 2 ^ k) (sym (number-part (at + k) j bits))
    ∙ ap (λ m. number_of (take j (drop (at + k) bits)) * 2 ^ k + m) (sym (number-part at k bits))

-- whether a number is odd, as a number
odd-number : (n : ℕ) → (if nat_eq (n % 2) 1 then 1 else 0) ≡ n % 2
odd-number n = grind (arith, nat_tests)

-- a number with one binary digit less
half_below : (k n : ℕ) → n < 2 ^ suc k → n / 2 < 2 ^ k
half_below k n h = omega (arith, pow-suc 2 k)

-- twice a power
double-pow : (k m : ℕ) → 2 * (2 ^ k * m) ≡ 2 ^ suc k * m
double-pow k m = rw (pow-suc 2 k) (omega arith)

-- the number of bits of a number and of more behind them
pub number-low_bits : (k n : ℕ) (bits : List Bool) → n < 2 ^ k → number_of (low_bits k n ++ bits) ≡ n + 2 ^ k * number_of bits
number-low_bits zero n bits h = omega arith
number-low_bits (suc k) n bits h = omega (arith, odd-number n, number-low_bits k (n / 2) bits (half_below k n h), double-pow k (number_of bits))

-- the bits behind whole bytes
pub bits-drop : (i : ℕ) (bytes : List ℕ) → drop (8 * i) (bits_of bytes) ≡ bits_of (drop i bytes)
bits-drop zero bytes = refl
bits-drop (suc i) [] = ap (λ k. drop k (bits_of [])) (let e : 8 * suc i ≡ suc (7 + 8 * i) = omega arith in e)
bits-drop (suc i) (b ∷ bytes) =
    ap (λ k. drop k (bits_of (b ∷ bytes))) (let e : 8 * suc i ≡ suc (suc (suc (suc (suc (suc (suc (suc (8 * i)))))))) = omega arith in e)
    ∙ bits-drop i bytes

-- eight bits for each byte
pub length-bits_of : (bytes : List ℕ) → length (bits_of bytes) ≡ 8 * length bytes
length-bits_of [] = refl
length-bits_of (x ∷ xs) = omega (arith, length-bits_of xs)

-- the eight lowest bits of a shifted number come from its sixteen lowest
shifted-low : (s x more : ℕ) → s < 8 → (x + 65536 * more) / 2 ^ s % 256 ≡ x / 2 ^ s % 256
shifted-low zero x more h = omega arith
shifted-low (suc zero) x more h = omega arith
shifted-low (suc (suc zero)) x more h = omega arith
shifted-low (suc (suc (suc zero))) x more h = omega arith
shifted-low (suc (suc (suc (suc zero)))) x more h = omega arith
shifted-low (suc (suc (suc (suc (suc zero))))) x more h = omega arith
shifted-low (suc (suc (suc (suc (suc (suc zero)))))) x more h = omega arith
shifted-low (suc (suc (suc (suc (suc (suc (suc zero))))))) x more h = omega arith
shifted-low (suc (suc (suc (suc (suc (suc (suc (suc s)))))))) x more h = absurd (omega arith)

-- bits from a place on are those from a place in a byte on
from-byte : (i s : ℕ) (bytes : List ℕ) → drop (8 * i + s) (bits_of bytes) ≡ drop s (bits_of (drop i bytes))
from-byte i s bytes = sym (drop-drop s (8 * i) (bits_of bytes)) ∙ ap (drop s) (bits-drop i bytes)

-- the bits of a byte
pub whole-byte : (i : ℕ) (bytes : List ℕ) → i < length bytes → ((k : ℕ) → get_or bytes k 0 < 256) → number_of (take 8 (drop (8 * i) (bits_of bytes))) ≡ get_or bytes i 0
whole-byte i bytes inside whole =
    let b = get_or bytes i 0 in
    let below : b < 256 = whole i in
    let rest = number_of (bits_of (drop (suc i) bytes)) in
    ap (λ bits. number_of (take 8 bits)) (bits-drop i bytes ∙ ap bits_of (drop-cons bytes i 0 inside))
    ∙ number-take 8 (bits_of (b ∷ drop (suc i) bytes))
    ∙ ap (λ n. n % 256) (number-low_bits 8 b (bits_of (drop (suc i) bytes)) below)
    ∙ omega arith

-- eight bits over the end of a byte
pub split-byte : (i s : ℕ) (bytes : List ℕ) → s < 8 → i + 1 < length bytes → ((k : ℕ) → get_or bytes k 0 < 256) → number_of (take 8 (drop (8 * i + s) (bits_of bytes))) ≡ (get_or bytes i 0 + 256 * get_or bytes (i + 1) 0) / 2 ^ s % 256
split-byte i s bytes near inside whole =
    let first : i < length bytes = omega arith in
    let a = get_or bytes i 0 in
    let b = get_or bytes (i + 1) 0 in
    let a-below : a < 256 = whole i in
    let b-below : b < 256 = whole (i + 1) in
    let rest = drop (suc (i + 1)) bytes in
    let more = number_of (bits_of rest) in
    let two : drop i bytes ≡ a ∷ b ∷ rest = drop-cons bytes i 0 first ∙ ap (λ bs. a ∷ bs) (ap (λ k. drop k bytes) (sym (add-one i)) ∙ drop-cons bytes (i + 1) 0 inside) in
    let number : number_of (bits_of (a ∷ b ∷ rest)) ≡ (a + 256 * b) + 65536 * more = omega (arith, number-low_bits 8 a (bits_of (b ∷ rest)) a-below, number-low_bits 8 b (bits_of rest) b-below) in
    ap (λ bits. number_of (take 8 bits)) (from-byte i s bytes ∙ ap (λ bs. drop s (bits_of bs)) two)
    ∙ number-part s 8 (bits_of (a ∷ b ∷ rest))
    ∙ ap (λ n. n / 2 ^ s % 256) number
    ∙ shifted-low s (a + 256 * b) more near

-- the numbers of fewer than eight bytes have room for a byte more
pub whole_power : (k : ℕ) → k < 8 → 2 ^ (8 * k) * 256 ≤ 2 ^ 64
whole_power zero h = omega arith
whole_power (suc zero) h = omega arith
whole_power (suc (suc zero)) h = omega arith
whole_power (suc (suc (suc zero))) h = omega arith
whole_power (suc (suc (suc (suc zero)))) h = omega arith
whole_power (suc (suc (suc (suc (suc zero))))) h = omega arith
whole_power (suc (suc (suc (suc (suc (suc zero)))))) h = omega arith
whole_power (suc (suc (suc (suc (suc (suc (suc zero))))))) h = omega arith
whole_power (suc (suc (suc (suc (suc (suc (suc (suc k)))))))) h = absurd (omega arith)

-- a byte in front of whole bytes
pub byte-more : (at count i n b : ℕ) (bits : List Bool) → 0 < i → i ≤ count → n ≡ number_of (take (8 * (count - i)) (drop (at + 8 * i) bits)) → b ≡ number_of (take 8 (drop (at + 8 * (i - 1)) bits)) → n * 256 + b ≡ number_of (take (8 * (count - (i - 1))) (drop (at + 8 * (i - 1)) bits))
byte-more at count i n b bits some within high low =
    let from : at + 8 * i ≡ at + 8 * (i - 1) + 8 = omega arith in
    let size : 8 * (count - i) + 8 ≡ 8 * (count - (i - 1)) = omega arith in
    ap (λ m. m * 256 + b) (high ∙ ap (λ k. number_of (take (8 * (count - i)) (drop k bits))) from)
    ∙ ap (λ m. number_of (take (8 * (count - i)) (drop (at + 8 * (i - 1) + 8) bits)) * 256 + m) low
    ∙ sym (number-parts (at + 8 * (i - 1)) (8 * (count - i)) 8 bits)
    ∙ ap (λ k. number_of (take k (drop (at + 8 * (i - 1)) bits))) size

-- a bit of a shifted number comes from its eight lowest
shifted-bit : (s x more : ℕ) → s < 8 → (x + 256 * more) / 2 ^ s % 2 ≡ x / 2 ^ s % 2
shifted-bit zero x more h = omega arith
shifted-bit (suc zero) x more h = omega arith
shifted-bit (suc (suc zero)) x more h = omega arith
shifted-bit (suc (suc (suc zero))) x more h = omega arith
shifted-bit (suc (suc (suc (suc zero)))) x more h = omega arith
shifted-bit (suc (suc (suc (suc (suc zero))))) x more h = omega arith
shifted-bit (suc (suc (suc (suc (suc (suc zero)))))) x more h = omega arith
shifted-bit (suc (suc (suc (suc (suc (suc (suc zero))))))) x more h = omega arith
shifted-bit (suc (suc (suc (suc (suc (suc (suc (suc s)))))))) x more h = absurd (omega arith)

-- a bit of a byte
pub one-bit : (i s : ℕ) (bytes : List ℕ) → s < 8 → i < length bytes → ((k : ℕ) → get_or bytes k 0 < 256) → number_of (take 1 (drop (8 * i + s) (bits_of bytes))) ≡ get_or bytes i 0 / 2 ^ s % 2
one-bit i s bytes near inside whole =
    let a = get_or bytes i 0 in
    let below : a < 256 = whole i in
    let rest = drop (suc i) bytes in
    ap (λ bits. number_of (take 1 bits)) (from-byte i s bytes ∙ ap (λ bs. drop s (bits_of bs)) (drop-cons bytes i 0 inside))
    ∙ number-part s 1 (bits_of (a ∷ rest))
    ∙ ap (λ n. n / 2 ^ s % 2) (number-low_bits 8 a (bits_of rest) below)
    ∙ shifted-bit s a (number_of (bits_of rest)) near

-- a number that is no bit has a sign
pub number_at-signed : (base : Base) (bits : List Bool) → (base ≡ Bit → ⊥) → number_at base bits ≡ with_sign (width base) (number_of bits)
number_at-signed Bit bits h = absurd (h refl)
number_at-signed Unit bits h = refl
number_at-signed BoolTy bits h = refl
number_at-signed Int8 bits h = refl
number_at-signed Int16 bits h = refl
number_at-signed Int32 bits h = refl
number_at-signed Int64 bits h = refl
number_at-signed Complex16 bits h = refl
number_at-signed Complex32 bits h = refl
number_at-signed (Struct k) bits h = refl

-- a number that is no bit has whole bytes
pub whole-width : (base : Base) → (base ≡ Bit → ⊥) → 8 * (width base / 8) ≡ width base
whole-width Bit h = absurd (h refl)
whole-width Unit h = refl
whole-width BoolTy h = refl
whole-width Int8 h = refl
whole-width Int16 h = refl
whole-width Int32 h = refl
whole-width Int64 h = refl
whole-width Complex16 h = refl
whole-width Complex32 h = refl
whole-width (Struct k) h = refl
