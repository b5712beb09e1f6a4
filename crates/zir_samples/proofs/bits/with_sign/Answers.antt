use Rattle.std.proofs.Common.{ℕ, zero, suc, ◌≡◌, ◌<◌, ◌≤◌, ◌+◌, ◌-◌, ◌*◌, ◌%◌, ◌^◌, ◌∙◌, ap, sym, false, pos, negsuc, ◌-ℤ◌, w64, to_z, of_z, arith}
use Rattle.std.proofs.Math.Nat.{pow-suc}
use Rattle.std.proofs.Math.Pow.{pow_mono}
use Rattle.std.proofs.lemmas.Bool.Decides.{nat_tests}
use Rattle.std.proofs.lemmas.Nat.{one_shl}
use Rattle.std.specs.Prelude.{if◌then◌else◌, nat_lt}
use Rattle.zir_meaning.specs.Samples.{with_sign as signed_of}
use Rattle.zir_samples.proofs.Signs.{negative}
use Rattle.zir_samples.proofs.bits.with_sign.Goals as goal

-- a number from half of the range on stands for a negative one
signed-high : (w n : ℕ) → 2 ^ (w - 1) ≤ n → signed_of w n ≡ negsuc (2 ^ w - 1 - n)
signed-high w n h = let e : nat_lt n (2 ^ (w - 1)) ≡ false = grind (arith, nat_tests) in ap (λ b. if b then pos n else negsuc (2 ^ w - 1 - n)) e

-- a power by its half
half-power : (w : ℕ) → 0 < w → 2 ^ w ≡ 2 ^ (w - 1) * 2
half-power (suc k) h = pow-suc 2 k ∙ ap (λ m. 2 ^ m * 2) (let e : k ≡ suc k - 1 = omega arith in e)
half-power zero h = absurd (omega arith)

pub returns-else-number-half : goal.returns-else-number-half
returns-else-number-half c =
    let w = c.args.width in
    let n = c.args.number in
    let half : 1 * 2 ^ (w - 1) % 18446744073709551616 ≡ 2 ^ (w - 1) = one_shl (w - 1) 64 (omega (arith, c.requires)) in
    let double = half-power w c.requires.some in
    let high : 2 ^ (w - 1) ≤ n = omega (arith, half, c.if-number-half.false) in
    let number : 1 * 2 ^ (w - 1) % 18446744073709551616 - 1 + 1 * 2 ^ (w - 1) % 18446744073709551616 - n ≡ 2 ^ w - 1 - n = omega (arith, half, double, high, c.requires.within) in
    let most : 2 ^ (w - 1) ≤ 2 ^ 63 = let e : w - 1 ≤ 63 = omega (arith, c.requires) in pow_mono e in
    let small : 2 ^ w - 1 - n < 2 ^ 63 = omega (arith, double, high, most, c.requires.within) in
    ap (λ m. to_z w64 (of_z w64 (negsuc 0 -ℤ to_z w64 m))) number
    ∙ negative (2 ^ w - 1 - n) small
    ∙ sym (signed-high w n high)
