-- Numbers that are formed in 64 bits and then wrapped to a type are as if they had been formed without bound.
use Rattle.std.specs.Prelude.{ℕ, zero, suc, ℤ, pos, negsuc, neg_ℤ, ◌+ℤ◌, ◌-ℤ◌, ◌*ℤ◌, ◌≡◌, ◌≢◌, ◌-◌, ◌/◌, ◌%◌, ◌^◌, ◌<◌, ◌≤◌, Bool, true, false, nat_lt, if◌then◌else◌, Some, None, Ok, refl}
use Rattle.std.proofs.Common.{ap, ◌∙◌, sym, arith, to_z, of_z, FitsSigned}
use Rattle.std.specs.Int.{int_wrap, int_wrapping_add, int_wrapping_sub, int_wrapping_mul, int_wrapping_neg, int_wrapping_div, int_shl}
use Rattle.std.specs.Int.RustNames.{int_div, unsigned_abs}
use Rattle.std.proofs.lemmas.Int.{to_z-of_z, int_wrap_fits, SFits-int_wrap, wrapping_add_is, wrapping_sub_is, wrapping_mul_is, wrapping_neg_is, wrapping_mul-bits, int_wrap-mul_right, int_wrap-add_left, int_wrap-add_right, int_wrap-sub_right}
use Rattle.std.proofs.lemmas.Nat.{pow_below}
use mir.Syntax.{w8, w16, w32, w64}
use mir.Val.{sel}
use Rattle.zir_tree.specs.declared.types.Base.{Base}
use Rattle.zir_meaning.specs.Values.{wrap, width_of}
use Rattle.zir_meaning.specs.Operators.{divided, shifted, shifted_if}
use Rattle.zir_expr.specs.declared.whole.Whole.{Whole}
use Rattle.zir_expr.specs.declared.whole.Whole.TheVariants.{Eight, Sixteen, ThirtyTwo, SixtyFour}
use Rattle.zir_expr.specs.Answers.{base_of, cell_or_trap, amount_in}

-- the lowest 8 bits of a number of 64 bits, with and without its sign
pub low_8 : (m : ℕ) (b : Bool) → m < 2 ^ 64 → int_wrap w8 (sel b (pos m) (negsuc (2 ^ 64 - suc m))) ≡ to_z w8 (m % 2 ^ 8)
unfolding int_wrap
low_8 m true h = refl
low_8 m false h = ap (to_z w8) (omega arith)

pub low_16 : (m : ℕ) (b : Bool) → m < 2 ^ 64 → int_wrap w16 (sel b (pos m) (negsuc (2 ^ 64 - suc m))) ≡ to_z w16 (m % 2 ^ 16)
unfolding int_wrap
low_16 m true h = refl
low_16 m false h = ap (to_z w16) (omega arith)

pub low_32 : (m : ℕ) (b : Bool) → m < 2 ^ 64 → int_wrap w32 (sel b (pos m) (negsuc (2 ^ 64 - suc m))) ≡ to_z w32 (m % 2 ^ 32)
unfolding int_wrap
low_32 m true h = refl
low_32 m false h = ap (to_z w32) (omega arith)

-- wrapping to 64 bits before a narrower width
narrow_8 : (z : ℤ) → int_wrap w8 (int_wrap w64 z) ≡ int_wrap w8 z
unfolding int_wrap
narrow_8 (pos n) = low_8 (n % 2 ^ 64) _ (omega arith) ∙ ap (to_z w8) (omega arith)
narrow_8 (negsuc n) = low_8 (2 ^ 64 - 1 - n % 2 ^ 64) _ (omega arith) ∙ ap (to_z w8) (omega arith)

narrow_16 : (z : ℤ) → int_wrap w16 (int_wrap w64 z) ≡ int_wrap w16 z
unfolding int_wrap
narrow_16 (pos n) = low_16 (n % 2 ^ 64) _ (omega arith) ∙ ap (to_z w16) (omega arith)
narrow_16 (negsuc n) = low_16 (2 ^ 64 - 1 - n % 2 ^ 64) _ (omega arith) ∙ ap (to_z w16) (omega arith)

narrow_32 : (z : ℤ) → int_wrap w32 (int_wrap w64 z) ≡ int_wrap w32 z
unfolding int_wrap
narrow_32 (pos n) = low_32 (n % 2 ^ 64) _ (omega arith) ∙ ap (to_z w32) (omega arith)
narrow_32 (negsuc n) = low_32 (2 ^ 64 - 1 - n % 2 ^ 64) _ (omega arith) ∙ ap (to_z w32) (omega arith)

pub wrap_after_64 : (t : Whole) (z : ℤ) → wrap (base_of t) (int_wrap w64 z) ≡ wrap (base_of t) z
wrap_after_64 Eight z = narrow_8 z
wrap_after_64 Sixteen z = narrow_16 z
wrap_after_64 ThirtyTwo z = narrow_32 z
wrap_after_64 SixtyFour z = int_wrap_fits w64 (int_wrap w64 z) (SFits-int_wrap w64 z)

pub wrapped_sum : (t : Whole) (a b : ℤ) → FitsSigned w64 a → FitsSigned w64 b → wrap (base_of t) (int_wrapping_add w64 a b) ≡ wrap (base_of t) (a +ℤ b)
wrapped_sum t a b f g = ap (wrap (base_of t)) (wrapping_add_is w64 a b f g) ∙ wrap_after_64 t (a +ℤ b)

pub wrapped_difference : (t : Whole) (a b : ℤ) → FitsSigned w64 a → FitsSigned w64 b → wrap (base_of t) (int_wrapping_sub w64 a b) ≡ wrap (base_of t) (a -ℤ b)
wrapped_difference t a b f g = ap (wrap (base_of t)) (wrapping_sub_is w64 a b f g) ∙ wrap_after_64 t (a -ℤ b)

pub wrapped_product : (t : Whole) (a b : ℤ) → FitsSigned w64 a → FitsSigned w64 b → wrap (base_of t) (int_wrapping_mul w64 a b) ≡ wrap (base_of t) (a *ℤ b)
wrapped_product t a b f g = ap (wrap (base_of t)) (wrapping_mul_is w64 a b f g) ∙ wrap_after_64 t (a *ℤ b)

pub wrapped_negation : (t : Whole) (a : ℤ) → FitsSigned w64 a → wrap (base_of t) (int_wrapping_neg w64 a) ≡ wrap (base_of t) (neg_ℤ a)
wrapped_negation t a f = ap (wrap (base_of t)) (wrapping_neg_is w64 a f) ∙ wrap_after_64 t (neg_ℤ a)

-- the difference and the sum of numbers that were cut to 64 bits
pub difference_of_cut : (t : Whole) (m n : ℤ) → wrap (base_of t) (int_wrap w64 m -ℤ int_wrap w64 n) ≡ wrap (base_of t) (m -ℤ n)
difference_of_cut t m n =
    sym (wrap_after_64 t (int_wrap w64 m -ℤ int_wrap w64 n))
    ∙ ap (wrap (base_of t)) (int_wrap-sub_right w64 (int_wrap w64 m) n ∙ int_wrap-add_left w64 m (neg_ℤ n))
    ∙ wrap_after_64 t (m -ℤ n)

pub sum_of_cut : (t : Whole) (m n : ℤ) → wrap (base_of t) (int_wrap w64 m +ℤ int_wrap w64 n) ≡ wrap (base_of t) (m +ℤ n)
sum_of_cut t m n =
    sym (wrap_after_64 t (int_wrap w64 m +ℤ int_wrap w64 n))
    ∙ ap (wrap (base_of t)) (int_wrap-add_right w64 (int_wrap w64 m) n ∙ int_wrap-add_left w64 m n)
    ∙ wrap_after_64 t (m +ℤ n)

-- a number of at most 2^63 in size, cut to 64 bits
cut : (z : ℤ) → unsigned_abs z ≤ 2 ^ 63 → to_z w64 (of_z w64 z) ≡ int_wrap w64 z
unfolding int_wrap
cut (pos n) h = ap (to_z w64) (omega arith)
cut (negsuc n) h = ap (to_z w64) (omega arith)

abs_neg : (k : ℕ) → unsigned_abs (neg_ℤ (pos k)) ≡ k
abs_neg zero = refl
abs_neg (suc k) = refl

less_by_division : (a b : ℕ) → a / b ≤ a
less_by_division a zero = omega arith
less_by_division a (suc b) = grind arith

quotient_size : (a b : ℤ) → unsigned_abs a ≤ 2 ^ 63 → unsigned_abs (int_div a b) ≤ 2 ^ 63
quotient_size (pos a) (pos b) f = let l = less_by_division a b in omega arith
quotient_size (pos a) (negsuc b) f = let l = less_by_division a (suc b) in let e = abs_neg (a / suc b) in omega arith
quotient_size (negsuc a) (pos b) f = let l = less_by_division (suc a) b in let e = abs_neg (suc a / b) in omega arith
quotient_size (negsuc a) (negsuc b) f = let l = less_by_division (suc a) (suc b) in omega arith

fitting_size : (a : ℤ) → FitsSigned w64 a → unsigned_abs a ≤ 2 ^ 63
fitting_size (pos a) f = omega (arith, f)
fitting_size (negsuc a) f = omega (arith, f)

pub wrapped_quotient : (t : Whole) (a b : ℤ) → FitsSigned w64 a → wrap (base_of t) (int_wrapping_div w64 a b) ≡ wrap (base_of t) (int_div a b)
wrapped_quotient t a b f = ap (wrap (base_of t)) (cut (int_div a b) (quotient_size a b (fitting_size a f))) ∙ wrap_after_64 t (int_div a b)

power_small : (k : ℕ) → k < 64 → 2 ^ k < 2 ^ 64
power_small k h = pow_below k 64 h

power_cut : (k : ℕ) → k < 64 → to_z w64 (2 ^ k) ≡ int_wrap w64 (pos (2 ^ k))
unfolding int_wrap
power_cut k h = ap (to_z w64) (let l = power_small k h in omega arith)

pub size_of_bits : (a : ℤ) → FitsSigned w64 a → of_z w64 a < 2 ^ 64
size_of_bits (pos a) f = omega (arith, f)
size_of_bits (negsuc a) f = omega (arith, f)

pub wrapped_shift : (t : Whole) (a : ℤ) (k : ℕ) → FitsSigned w64 a → k < 64 → wrap (base_of t) (int_shl w64 a (k % 64)) ≡ wrap (base_of t) (a *ℤ pos (2 ^ k))
wrapped_shift t a k f h =
    let same : k % 64 ≡ k = omega arith in
    rw same (ap (wrap (base_of t)) (wrapping_mul-bits w64 (of_z w64 a) (2 ^ k) (size_of_bits a f) (power_small k h)
    ∙ ap (λ z. int_wrap w64 (z *ℤ to_z w64 (2 ^ k))) (to_z-of_z w64 a f)
    ∙ ap (λ z. int_wrap w64 (a *ℤ z)) (power_cut k h)
    ∙ int_wrap-mul_right w64 a (pos (2 ^ k))) ∙ wrap_after_64 t (a *ℤ pos (2 ^ k)))

-- a division by a number that is not 0
pub divides : (f : ℤ → ℤ → ℤ) (t : Whole) (a b q : ℤ) → b ≢ pos 0 → q ≡ wrap (base_of t) (f a b) → cell_or_trap (divided f (base_of t) a b) ≡ Ok q
divides f t a (pos zero) q ne e = absurd (ne refl)
divides f t a (pos (suc n)) q ne e = ap Ok (sym e)
divides f t a (negsuc n) q ne e = ap Ok (sym e)

inside : (b : Bool) (f : ℤ → ℤ → ℤ) (t : Base) (a : ℤ) (j : ℕ) (n : ℤ) (k : ℕ) → (if b then Some j else None) ≡ Some k →
    n ≡ wrap t (f a (pos (2 ^ k))) → cell_or_trap (shifted_if b (wrap t (f a (pos (2 ^ j))))) ≡ Ok n
inside true f t a j n k e h = let same : j ≡ k = cc in rw same (ap Ok (sym h))
inside false f t a j n k e h = cc

-- a shift by an amount inside the width
pub shifts : (f : ℤ → ℤ → ℤ) (t : Base) (a b n : ℤ) (k : ℕ) → amount_in (width_of t) b ≡ Some k → n ≡ wrap t (f a (pos (2 ^ k))) →
    cell_or_trap (shifted f t a b) ≡ Ok n
shifts f t a (pos j) n k e h = inside (nat_lt j (width_of t)) f t a j n k e h
shifts f t a (negsuc j) n k e h = cc
