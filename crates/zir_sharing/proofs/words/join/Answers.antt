use Rattle.std.proofs.Common.{arith, inl, inr, ap, ◌∙◌, sym, length}
use Rattle.std.specs.Prelude.{bit_or, ◌≤◌}
use Rattle.std.proofs.lemmas.Bool.{cases_lt}
use Rattle.std.proofs.lemmas.List.{get_or_past}
use Rattle.zir_sharing.specs.Members.{word_at}
use Rattle.zir_sharing.proofs.Held.{or_nothing}
use Rattle.zir_sharing.proofs.words.join.Goals as goal

pub returns : goal.returns
returns c = λ k. elim (cases_lt k c.loop-i.i) [
  | inl before ↦ c.loop-i.invariant.done k before
  | inr after ↦ c.loop-i.invariant.rest k after
      ∙ sym (ap (λ w. bit_or (word_at c.args.words.now k) w) (get_or_past c.args.others.now k 0 (let le : length c.args.others.now ≤ k = omega arith in le)) ∙ or_nothing (word_at c.args.words.now k))
]
