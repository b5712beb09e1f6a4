use Rattle.std.proofs.Common.{◌≡◌, ℕ, ◌<◌, ◌^◌, Fits, ◌≤◌, ◌∙◌, ap, sym, arith, inl, inr, length, bit_and}
use Rattle.std.specs.Int.{bit_not, w64}
use Rattle.std.proofs.lemmas.Bool.{cases_lt}
use Rattle.std.proofs.lemmas.List.{get_or_past}
use Rattle.zir_sharing.specs.Members.{word_at}
use Rattle.zir_sharing.proofs.Held.{holds_not, nothing_and}
use Rattle.zir_sharing.proofs.words.remove.Goals as goal

below : (n : ℕ) → Fits w64 n → n < 2 ^ 64
below n h = omega arith

pub returns : goal.returns
returns c =
    holds_not c.args.words.now c.args.others.now c.loop-i.words (λ k. below (word_at c.args.others.now k) (c.type_inv.others k)) (λ k. elim (cases_lt k c.loop-i.i) [
      | inl before ↦ c.loop-i.invariant.done k before
      | inr after ↦ (let past : length c.args.words.now ≤ k = omega arith in
          let now : word_at c.loop-i.words k ≡ 0 = c.loop-i.invariant.rest k after ∙ get_or_past c.args.words.now k 0 past in
          now ∙ sym (ap (λ w. bit_and w (bit_not w64 (word_at c.args.others.now k))) (get_or_past c.args.words.now k 0 past) ∙ nothing_and (bit_not w64 (word_at c.args.others.now k))))
    ])
