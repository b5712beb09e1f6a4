-- What a word is, by its first byte.
use Rattle.std.proofs.Common.{◌≡◌, ◌≢◌, ◌≤◌, ◌<◌, ℕ, Bool, true, false, List, [], ◌∷◌, length, get_or, refl, arith}
use Rattle.std.proofs.lemmas.Bool.Decides.{nat_tests}
use Rattle.std.specs.Prelude.{bytes_eq, codes}
use Rattle.std.proofs.lemmas.Slice.Eq.{bytes_eq-Decides}
use Rattle.zir_command_line.specs.declared.reading.Kind.TheVariants as kind
use Rattle.zir_command_line.specs.Walk.{kind_of, dashed}

-- no byte is bad
pub empty_is_bad : (w : List ℕ) → length w < 1 → kind.Bad ≡ kind_of w
unfolding kind_of
empty_is_bad [] h = refl
empty_is_bad (b ∷ bs) h = absurd (omega arith)

-- another first byte than a dash begins a name
pub other_is_name : (w : List ℕ) → 1 ≤ length w → get_or w 0 0 ≢ 45 → kind.Name ≡ kind_of w
unfolding kind_of
other_is_name [] h n = absurd (omega arith)
other_is_name (b ∷ bs) h n = grind (arith, nat_tests)

-- a dash begins an option
pub dash_is_dashed : (w : List ℕ) → 1 ≤ length w → get_or w 0 0 ≡ 45 → kind_of w ≡ dashed w
unfolding kind_of
dash_is_dashed [] h e = absurd (omega arith)
dash_is_dashed (b ∷ bs) h e = grind (arith, nat_tests)

-- a text that passes its test is the other
pub is_text : (xs ys : List ℕ) → bytes_eq xs ys ≡ true → xs ≡ ys
is_text xs ys = (bytes_eq-Decides xs ys).0

-- a text passes its own test
pub alike : (xs ys : List ℕ) → xs ≡ ys → bytes_eq xs ys ≡ true
alike xs ys = (bytes_eq-Decides xs ys).1

-- texts that differ fail their test
by_test : (b : Bool) (P : Type 0) → (b ≡ true → P) → (P → ⊥) → b ≡ false
by_test true P is n = absurd (n (is refl))
by_test false P is n = refl

pub differ : (xs ys : List ℕ) → xs ≢ ys → bytes_eq xs ys ≡ false
differ xs ys = by_test (bytes_eq xs ys) (xs ≡ ys) (is_text xs ys)

-- what begins with a dash and is no option and no separator is bad
pub none_is_bad : (w : List ℕ) → w ≢ codes "--ticks" → w ≢ codes "--workers" → w ≢ codes "--split" → w ≢ codes "--text" → w ≢ codes "--" → kind.Bad ≡ dashed w
unfolding dashed
none_is_bad w a b c d e =
    rw (differ w (codes "--ticks") a, differ w (codes "--workers") b, differ w (codes "--split") c, differ w (codes "--text") d, differ w (codes "--") e) refl
