use Rattle.std.proofs.Common.{◌≡◌, ◌++◌, ◌∷◌, [], Bool, false, length, ap, sym, ◌∙◌, arith}
use Rattle.std.proofs.lemmas.Bool.Decides.{nat_tests}
use Rattle.std.specs.Prelude.{is_none, is_some, nat_lt, not, ◌||◌}
use Rattle.zir_meaning.specs.Texts.{item_before_end, trimmed, written_number}
use Rattle.zir_samples.specs.Reading.{in_range}
use Rattle.zir_samples.proofs.Items.{open-digit, open-full, open-more}
use Rattle.zir_samples.proofs.text.may_go_on.Goals as goal

pub returns-then-bytes-lt-LONGEST : goal.returns-then-bytes-lt-LONGEST
returns-then-bytes-lt-LONGEST c =
    let base = c.args.base in
    let bytes = c.args.bytes.now in
    let rest : Bool = not (is_none (item_before_end base (bytes ++ 48 ∷ []))) in
    let none : is_some (in_range base (written_number (trimmed bytes))) ≡ false = ap is_some (sym c.number_in.ensures) ∙ sym c.is_some.ensures ∙ c.if-is_some.false in
    c.digit_mends.ensures ∙ sym (open-digit base bytes c.if-bytes-lt-LONGEST.true) ∙ sym (ap (λ t. t || rest) none) ∙ sym (open-more base bytes c.requires.short c.requires.some)

pub returns-else-bytes-lt-LONGEST : goal.returns-else-bytes-lt-LONGEST
returns-else-bytes-lt-LONGEST c =
    let base = c.args.base in
    let bytes = c.args.bytes.now in
    let rest : Bool = not (is_none (item_before_end base (bytes ++ 48 ∷ []))) in
    let none : is_some (in_range base (written_number (trimmed bytes))) ≡ false = ap is_some (sym c.number_in.ensures) ∙ sym c.is_some.ensures ∙ c.if-is_some.false in
    let full : nat_lt (length bytes) 64 ≡ false = grind (arith, nat_tests, c.if-bytes-lt-LONGEST.false) in
    full ∙ sym (open-full base bytes c.if-bytes-lt-LONGEST.false) ∙ sym (ap (λ t. t || rest) none) ∙ sym (open-more base bytes c.requires.short c.requires.some)
