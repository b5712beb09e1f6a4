use Rattle.std.proofs.Common.{ℕ, suc, ◌≡◌, ◌≤◌, ◌<◌, ◌+◌, ◌*◌, ◌%◌, ◌^◌, Bool, true, false, refl, sym, ◌∙◌, arith, pow-suc}
use Rattle.std.proofs.lemmas.Nat.{one_shl}
use Rattle.std.specs.Prelude.{if◌then◌else◌}
use Rattle.zir_samples.proofs.Spelling.{low_bits-more}
use Rattle.zir_samples.proofs.output.with_bit.Goals as goal
use mir.Val.{bool_byte}

-- a bit as a number
bit-number : (bit : Bool) → bool_byte bit ≡ (if bit then 1 else 0)
bit-number true = refl
bit-number false = refl

-- a bit at a place in a byte
place-whole : (k : ℕ) (bit : Bool) → k ≤ 7 → (if bit then 1 else 0) * 2 ^ k % 256 ≡ (if bit then 1 else 0) * 2 ^ k
place-whole k true h = one_shl k 8 (omega arith) ∙ omega arith
place-whole k false h = omega arith

-- a bit above the others
place_below : (k n : ℕ) (bit : Bool) → n < 2 ^ k → n + (if bit then 1 else 0) * 2 ^ k < 2 ^ suc k
place_below k n true h = omega (arith, pow-suc 2 k)
place_below k n false h = omega (arith, pow-suc 2 k)

pub returns : goal.returns
returns c =
    let number = c.from.ensures ∙ bit-number c.args.bit in
    rw (number, place-whole c.args.count c.args.bit c.requires.few) (record {
      bits = sym (low_bits-more c.args.count c.args.byte c.args.bit c.requires.low);
      low = place_below c.args.count c.args.byte c.args.bit c.requires.low;
    })
