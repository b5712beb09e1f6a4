-- Numbers with a sign, and which of them a type has.
use Rattle.std.proofs.Common.{ℕ, zero, suc, ◌≡◌, ◌<◌, ◌≤◌, ◌+◌, ◌-◌, ◌^◌, ◌∙◌, ap, refl, true, false, ℤ, pos, negsuc, ◌-ℤ◌, w64, to_z, of_z, FitsSigned, arith, rules}
use Rattle.std.proofs.lemmas.Bool.Decides.{nat_tests}
use Rattle.std.proofs.lemmas.Int.{to_z-of_z, to_z_pos, ints}
use Rattle.std.specs.Prelude.{if◌then◌else◌, min, nat_lt, neg_ℤ, Some, None}
use Rattle.zir_tree.specs.declared.types.Base.{Base}
use Rattle.zir_tree.specs.declared.types.Base.TheVariants.{Unit, Bit, Bool as BoolTy, Int8, Int16, Int32, Int64, Complex16, Complex32, Struct}
use Rattle.zir_meaning.specs.Items.{fits}
use Rattle.zir_samples.specs.Reading.{in_range, limit_of}

-- one less than the opposite of a number
below-opposite : (m : ℕ) → negsuc 0 -ℤ pos m ≡ negsuc m
below-opposite zero = refl
below-opposite (suc m) = ap (λ k. negsuc (suc k)) (let e : 0 + m ≡ m = omega arith in e)

-- the machine's number for one less than the opposite of a number
pub negative : (m : ℕ) → m < 2 ^ 63 → to_z w64 (of_z w64 (negsuc 0 -ℤ to_z w64 m)) ≡ negsuc m
negative m h =
    let fits : FitsSigned w64 (negsuc m) = search (rules, ints) in
    ap (λ z. to_z w64 (of_z w64 (negsuc 0 -ℤ z))) (to_z_pos w64 m h)
    ∙ ap (λ z. to_z w64 (of_z w64 z)) (below-opposite m)
    ∙ to_z-of_z w64 (negsuc m) fits

-- a number from 0 on is in range below the limit
fits-pos : (base : Base) (n : ℕ) → fits base (pos n) ≡ nat_lt n (limit_of base)
fits-pos Bit n = refl
fits-pos Unit n = refl
fits-pos BoolTy n = refl
fits-pos Int8 n = refl
fits-pos Int16 n = refl
fits-pos Int32 n = refl
fits-pos Int64 n = refl
fits-pos Complex16 n = refl
fits-pos Complex32 n = refl
fits-pos (Struct k) n = refl

-- a negative number is in range down to the limit, unless the type has none
fits-neg : (base : Base) (n : ℕ) → (base ≡ Bit → ⊥) → fits base (negsuc n) ≡ nat_lt n (limit_of base)
fits-neg Bit n h = absurd (h refl)
fits-neg Unit n h = refl
fits-neg BoolTy n h = refl
fits-neg Int8 n h = refl
fits-neg Int16 n h = refl
fits-neg Int32 n h = refl
fits-neg Int64 n h = refl
fits-neg Complex16 n h = refl
fits-neg Complex32 n h = refl
fits-neg (Struct k) n h = refl

-- a type has 0
some-limit : (base : Base) → 0 < limit_of base
some-limit Bit = omega arith
some-limit Unit = omega arith
some-limit BoolTy = omega arith
some-limit Int8 = omega arith
some-limit Int16 = omega arith
some-limit Int32 = omega arith
some-limit Int64 = omega arith
some-limit Complex16 = omega arith
some-limit Complex32 = omega arith
some-limit (Struct k) = omega arith

-- a number in range
is-in : (base : Base) (z : ℤ) → fits base z ≡ true → in_range base (Some z) ≡ Some z
is-in base z e = ap (λ b. if b then Some z else None) e

-- a number out of range
is-out : (base : Base) (z : ℤ) → fits base z ≡ false → in_range base (Some z) ≡ None
is-out base z e = ap (λ b. if b then Some z else None) e

-- a test that holds
below : (n m : ℕ) → n < m → nat_lt n m ≡ true
below n m h = grind (arith, nat_tests)

-- a test that does not hold
not-below : (n m : ℕ) → m ≤ n → nat_lt n m ≡ false
not-below n m h = grind (arith, nat_tests)

-- a number below the limit
pub pos-in : (base : Base) (m n : ℕ) → n ≡ min m (2 ^ 64 - 1) → limit_of base ≤ 2 ^ 63 → n < limit_of base → in_range base (Some (pos m)) ≡ Some (pos n)
pos-in base m n e most h =
    let same : m ≡ n = omega (arith, e, most, h) in
    ap (λ k. in_range base (Some (pos k))) same ∙ is-in base (pos n) (fits-pos base n ∙ below n (limit_of base) h)

-- a number from the limit on
pub pos-out : (base : Base) (m n : ℕ) → n ≡ min m (2 ^ 64 - 1) → limit_of base ≤ n → in_range base (Some (pos m)) ≡ None
pos-out base m n e h = is-out base (pos m) (fits-pos base m ∙ not-below m (limit_of base) (omega (arith, e, h)))

-- the opposite of 0
pub neg-zero : (base : Base) (m n : ℕ) → n ≡ min m (2 ^ 64 - 1) → n ≡ 0 → in_range base (Some (neg_ℤ (pos m))) ≡ Some (pos 0)
neg-zero base m n e h =
    let none : m ≡ 0 = omega (arith, e, h) in
    ap (λ k. in_range base (Some (neg_ℤ (pos k)))) none ∙ is-in base (pos 0) (fits-pos base 0 ∙ below 0 (limit_of base) (some-limit base))

-- the opposite of a number up to the limit
pub neg-in : (base : Base) (m n : ℕ) → n ≡ min m (2 ^ 64 - 1) → limit_of base ≤ 2 ^ 63 → (n ≡ 0 → ⊥) → n ≤ limit_of base → (base ≡ Bit → ⊥) → in_range base (Some (neg_ℤ (pos m))) ≡ Some (negsuc (n - 1))
neg-in base m n e most some h signed =
    let same : m ≡ suc (n - 1) = omega (arith, e, most, some, h) in
    ap (λ k. in_range base (Some (neg_ℤ (pos k)))) same ∙ is-in base (negsuc (n - 1)) (fits-neg base (n - 1) signed ∙ below (n - 1) (limit_of base) (omega (arith, some, h)))

-- the opposite of a number above the limit
pub neg-out : (base : Base) (m n : ℕ) → n ≡ min m (2 ^ 64 - 1) → (n ≡ 0 → ⊥) → limit_of base < n → (base ≡ Bit → ⊥) → in_range base (Some (neg_ℤ (pos m))) ≡ None
neg-out base m n e some h signed =
    let same : m ≡ suc (m - 1) = omega (arith, e, some) in
    ap (λ k. in_range base (Some (neg_ℤ (pos k)))) same ∙ is-out base (negsuc (m - 1)) (fits-neg base (m - 1) signed ∙ not-below (m - 1) (limit_of base) (omega (arith, e, h)))

-- a bit has no sign
pub neg-bit : (base : Base) (m n : ℕ) → n ≡ min m (2 ^ 64 - 1) → (n ≡ 0 → ⊥) → base ≡ Bit → in_range base (Some (neg_ℤ (pos m))) ≡ None
neg-bit base m n e some bit =
    let same : m ≡ suc (m - 1) = omega (arith, e, some) in
    ap (λ b. in_range b (Some (neg_ℤ (pos m)))) bit ∙ ap (λ k. in_range Bit (Some (neg_ℤ (pos k)))) same
