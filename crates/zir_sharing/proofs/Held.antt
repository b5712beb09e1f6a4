-- What the words of a set hold.
use Rattle.std.specs.Prelude.{◌≡◌, ℕ, zero, suc, ◌<◌, ◌≤◌, ◌+◌, ◌-◌, ◌*◌, ◌/◌, ◌%◌, ◌^◌, Bool, true, false, ◌&&◌, ◌||◌, not, List, [], ◌∷◌, ◌++◌, Option, Some, None, MatchOption, length, min, max, nat_eq, if◌then◌else◌, slice_set, bit_and, bit_or, refl}
use Rattle.std.proofs.Common.{ap, ◌∙◌, sym, subst, inl, inr, arith, get_or}
use Rattle.std.specs.Int.{bit_at, bit_not, trailing_zeros, w64}
use Rattle.std.proofs.lemmas.Bool.{eq-eqb, ne_eqb, cases_lt, cases_eq, cond_both, cond-true, cond-false, or_left}
use Rattle.std.proofs.lemmas.List.{get_or_past, get_or-set_same, get_or-set_other, append-nil}
use Rattle.std.proofs.lemmas.Nat.{div-mul-add, mod-mul-add}
use Rattle.std.proofs.lemmas.Nat.Bits.{bit_at-zero, bit_at-lt, bit_at_or, bit_at_and, bit_at_not, bit_at_set_same, bit_at_set_other, bit_at-trailing_zeros, same_from_bits}
use Rattle.zir_names.specs.Numbers.{add, union, among, kept, without, least}
use Rattle.zir_sharing.specs.Members.{word_at, holds, chosen, members}
use Rattle.zir_sharing.specs.Ascending.{AscendsFrom}
use Rattle.zir_sharing.proofs.Sets.{ascends-weaker, ascends_same, ascends-add, ascends-union, ascends-kept, ascends-without, among-below, among-add, among-union, among-kept, among-without, none_among, least_is}

pub ascends-chosen : (test : ℕ → Bool) (count k : ℕ) → AscendsFrom k (chosen test count k)
ascends-chosen test zero k = tt
ascends-chosen test (suc count) k =
    cond_both (test k) (k ∷ chosen test count (suc k)) (chosen test count (suc k)) (AscendsFrom k)
    (λ e. (omega arith, ascends-chosen test count (suc k)))
    (λ e. ascends-weaker k (suc k) (chosen test count (suc k)) (omega arith) (ascends-chosen test count (suc k)))

among-chosen_in : (test : ℕ → Bool) (count k q : ℕ) → k ≤ q → q < k + count → among q (chosen test count k) ≡ test q
among-chosen_in test zero k q low high = absurd (omega arith)
among-chosen_in test (suc count) k q low high = elim (cases_eq q k) [
  | inl e ↦ (subst (λ x. among x (chosen test (suc count) k) ≡ test x) (sym e)
      (cond_both (test k) (k ∷ chosen test count (suc k)) (chosen test count (suc k)) (λ xs. among k xs ≡ test k)
      (λ hit. rw (eq-eqb k k refl) (sym hit))
      (λ miss. among-below (suc k) (chosen test count (suc k)) k (ascends-chosen test count (suc k)) (omega arith) ∙ sym miss)))
  | inr ne ↦ (let next : among q (chosen test count (suc k)) ≡ test q = among-chosen_in test count (suc k) q (omega arith) (omega arith) in
      cond_both (test k) (k ∷ chosen test count (suc k)) (chosen test count (suc k)) (λ xs. among q xs ≡ test q)
      (λ hit. rw (ne_eqb q k ne) next)
      (λ miss. next))
]

among-chosen_out : (test : ℕ → Bool) (count k q : ℕ) → k + count ≤ q → among q (chosen test count k) ≡ false
among-chosen_out test zero k q high = refl
among-chosen_out test (suc count) k q high =
    let next : among q (chosen test count (suc k)) ≡ false = among-chosen_out test count (suc k) q (omega arith) in
    cond_both (test k) (k ∷ chosen test count (suc k)) (chosen test count (suc k)) (λ xs. among q xs ≡ false)
    (λ hit. let ne : nat_eq q k ≡ false = ne_eqb q k (λ e. omega arith) in rw ne next)
    (λ miss. next)

-- behind the last word no number is held
pub holds_past : (words : List ℕ) (q : ℕ) → length words ≤ q / 64 → holds words q ≡ false
holds_past words q h = ap (λ w. nat_eq (bit_at w (q % 64)) 1) (get_or_past words (q / 64) 0 h) ∙ ap (λ b. nat_eq b 1) (bit_at-zero (q % 64))

pub among-members : (words : List ℕ) (q : ℕ) → among q (members words) ≡ holds words q
among-members words q = elim (cases_lt q (64 * length words)) [
  | inl inside ↦ among-chosen_in (holds words) (64 * length words) 0 q (omega arith) (omega arith)
  | inr past ↦ among-chosen_out (holds words) (64 * length words) 0 q (omega arith) ∙ sym (holds_past words q (omega arith))
]

pub ascends-members : (words : List ℕ) → AscendsFrom 0 (members words)
ascends-members words = ascends-chosen (holds words) (64 * length words) 0

-- words that hold the numbers of a set
pub members_are : (words ns : List ℕ) → AscendsFrom 0 ns → ((q : ℕ) → holds words q ≡ among q ns) → members words ≡ ns
members_are words ns r h = ascends_same 0 (members words) ns (ascends-members words) r (λ q. among-members words q ∙ h q)

-- a bit that is set
pub put_holds : (words : List ℕ) (n q : ℕ) → n / 64 < length words →
    holds (slice_set words (n / 64) (bit_or (get_or words (n / 64) 0) (1 * 2 ^ (n % 64) % 2 ^ 64))) q ≡ (nat_eq q n || holds words q)
put_holds words n q h =
    let v = bit_or (get_or words (n / 64) 0) (1 * 2 ^ (n % 64) % 2 ^ 64) in
    elim (cases_eq (q / 64) (n / 64)) [
      | inl same ↦ (let there : get_or (slice_set words (n / 64) v) (q / 64) 0 ≡ v = ap (λ k. get_or (slice_set words (n / 64) v) k 0) same ∙ get_or-set_same words (n / 64) v 0 h in
          ap (λ x. nat_eq (bit_at x (q % 64)) 1) there ∙
          elim (cases_eq (q % 64) (n % 64)) [
            | inl low ↦ (let one : q ≡ n = omega arith in
                ap (λ k. nat_eq (bit_at v k) 1) low ∙ ap (λ b. nat_eq b 1) (bit_at_set_same w64 (get_or words (n / 64) 0) (n % 64) (omega arith))
                ∙ sym (or_left (nat_eq q n) (holds words q) (eq-eqb q n one)))
            | inr low ↦ (let other : nat_eq q n ≡ false = ne_eqb q n (λ e. low (ap (λ x. x % 64) e)) in
                ap (λ b. nat_eq b 1) (bit_at_set_other w64 (get_or words (n / 64) 0) (n % 64) (omega arith) (q % 64) low)
                ∙ ap (λ k. nat_eq (bit_at (get_or words k 0) (q % 64)) 1) (sym same)
                ∙ ap (λ b. b || holds words q) (sym other))
          ])
      | inr apart ↦ (let other : nat_eq q n ≡ false = ne_eqb q n (λ e. apart (ap (λ x. x / 64) e)) in
          ap (λ x. nat_eq (bit_at x (q % 64)) 1) (get_or-set_other words (n / 64) (q / 64) v 0 apart)
          ∙ ap (λ b. b || holds words q) (sym other))
    ]

or_bits : (x y : ℕ) → x < 2 → y < 2 → nat_eq (max x y) 1 ≡ (nat_eq x 1 || nat_eq y 1)
or_bits zero zero h k = refl
or_bits zero (suc zero) h k = refl
or_bits zero (suc (suc y)) h k = absurd (omega arith)
or_bits (suc zero) zero h k = refl
or_bits (suc zero) (suc zero) h k = refl
or_bits (suc zero) (suc (suc y)) h k = absurd (omega arith)
or_bits (suc (suc x)) y h k = absurd (omega arith)

and_bits : (x y : ℕ) → x < 2 → y < 2 → nat_eq (min x y) 1 ≡ (nat_eq y 1 && nat_eq x 1)
and_bits zero zero h k = refl
and_bits zero (suc zero) h k = refl
and_bits zero (suc (suc y)) h k = absurd (omega arith)
and_bits (suc zero) zero h k = refl
and_bits (suc zero) (suc zero) h k = refl
and_bits (suc zero) (suc (suc y)) h k = absurd (omega arith)
and_bits (suc (suc x)) y h k = absurd (omega arith)

not_bits : (x y : ℕ) → x < 2 → y < 2 → nat_eq (min x (1 - y)) 1 ≡ (not (nat_eq y 1) && nat_eq x 1)
not_bits zero zero h k = refl
not_bits zero (suc zero) h k = refl
not_bits zero (suc (suc y)) h k = absurd (omega arith)
not_bits (suc zero) zero h k = refl
not_bits (suc zero) (suc zero) h k = refl
not_bits (suc zero) (suc (suc y)) h k = absurd (omega arith)
not_bits (suc (suc x)) y h k = absurd (omega arith)

pub holds_or : (words others new : List ℕ) → ((k : ℕ) → word_at new k ≡ bit_or (word_at words k) (word_at others k)) →
    (q : ℕ) → holds new q ≡ (holds words q || holds others q)
holds_or words others new h q =
    ap (λ w. nat_eq (bit_at w (q % 64)) 1) (h (q / 64)) ∙ ap (λ b. nat_eq b 1) (bit_at_or (word_at words (q / 64)) (word_at others (q / 64)) (q % 64))
    ∙ or_bits _ _ (bit_at-lt (word_at words (q / 64)) (q % 64)) (bit_at-lt (word_at others (q / 64)) (q % 64))

pub holds_and : (words others new : List ℕ) → ((k : ℕ) → word_at new k ≡ bit_and (word_at words k) (word_at others k)) →
    (q : ℕ) → holds new q ≡ (holds others q && holds words q)
holds_and words others new h q =
    ap (λ w. nat_eq (bit_at w (q % 64)) 1) (h (q / 64)) ∙ ap (λ b. nat_eq b 1) (bit_at_and (word_at words (q / 64)) (word_at others (q / 64)) (q % 64))
    ∙ and_bits _ _ (bit_at-lt (word_at words (q / 64)) (q % 64)) (bit_at-lt (word_at others (q / 64)) (q % 64))

pub holds_not : (words others new : List ℕ) → ((k : ℕ) → word_at others k < 2 ^ 64) →
    ((k : ℕ) → word_at new k ≡ bit_and (word_at words k) (bit_not w64 (word_at others k))) →
    (q : ℕ) → holds new q ≡ (not (holds others q) && holds words q)
holds_not words others new small h q =
    ap (λ w. nat_eq (bit_at w (q % 64)) 1) (h (q / 64)) ∙ ap (λ b. nat_eq b 1) (bit_at_and (word_at words (q / 64)) (bit_not w64 (word_at others (q / 64))) (q % 64))
    ∙ ap (λ b. nat_eq (min (bit_at (word_at words (q / 64)) (q % 64)) b) 1) (bit_at_not w64 (word_at others (q / 64)) (q % 64) (small (q / 64)) (omega arith))
    ∙ not_bits _ _ (bit_at-lt (word_at words (q / 64)) (q % 64)) (bit_at-lt (word_at others (q / 64)) (q % 64))

-- words with the same words hold the same
same_held : (old wide : List ℕ) → ((k : ℕ) → word_at wide k ≡ word_at old k) → (q : ℕ) → holds wide q ≡ among q (members old)
same_held old wide h q = ap (λ w. nat_eq (bit_at w (q % 64)) 1) (h (q / 64)) ∙ sym (among-members old q)

pub after_put : (old wide new : List ℕ) (n : ℕ) → ((k : ℕ) → word_at wide k ≡ word_at old k) →
    ((q : ℕ) → holds new q ≡ (nat_eq q n || holds wide q)) → members new ≡ add n (members old)
after_put old wide new n same h =
    members_are new (add n (members old)) (ascends-add 0 n (members old) (omega arith) (ascends-members old))
    (λ q. h q ∙ ap (λ b. nat_eq q n || b) (same_held old wide same q) ∙ sym (among-add q n (members old)))

or_comm : (x y : Bool) → (x || y) ≡ (y || x)
or_comm true true = refl
or_comm true false = refl
or_comm false true = refl
or_comm false false = refl

pub after_join : (old wide others new : List ℕ) → ((k : ℕ) → word_at wide k ≡ word_at old k) →
    ((k : ℕ) → word_at new k ≡ bit_or (word_at wide k) (word_at others k)) → members new ≡ union (members others) (members old)
after_join old wide others new same h =
    members_are new (union (members others) (members old)) (ascends-union 0 (members others) (members old) (ascends-members others) (ascends-members old))
    (λ q. holds_or wide others new h q ∙ or_comm (holds wide q) (holds others q)
    ∙ ap (λ b. b || holds wide q) (sym (among-members others q)) ∙ ap (λ b. among q (members others) || b) (same_held old wide same q)
    ∙ sym (among-union q (members others) (members old)))

pub after_keep : (old others new : List ℕ) → ((k : ℕ) → word_at new k ≡ bit_and (word_at old k) (word_at others k)) →
    members new ≡ kept (members others) (members old)
after_keep old others new h =
    members_are new (kept (members others) (members old)) (ascends-kept 0 (members others) (members old) (ascends-members old))
    (λ q. holds_and old others new h q ∙ ap (λ b. b && holds old q) (sym (among-members others q))
    ∙ ap (λ b. among q (members others) && b) (sym (among-members old q)) ∙ sym (among-kept q (members others) (members old)))

pub after_remove : (old others new : List ℕ) → ((q : ℕ) → holds new q ≡ (not (holds others q) && holds old q)) →
    members new ≡ without (members others) (members old)
after_remove old others new h =
    members_are new (without (members others) (members old)) (ascends-without 0 (members others) (members old) (ascends-members old))
    (λ q. h q ∙ ap (λ b. not b && holds old q) (sym (among-members others q))
    ∙ ap (λ b. not (among q (members others)) && b) (sym (among-members old q)) ∙ sym (among-without q (members others) (members old)))

-- one more number is looked at
chosen_more : (test : ℕ → Bool) (count k : ℕ) → chosen test (suc count) k ≡ chosen test count k ++ chosen test 1 (k + count)
chosen_more test zero k = ap (chosen test 1) (let e : k ≡ k + 0 = omega arith in e)
chosen_more test (suc count) k =
    let next : chosen test (suc count) (suc k) ≡ chosen test count (suc k) ++ chosen test 1 (k + suc count) =
    chosen_more test count (suc k) ∙ ap (λ m. chosen test count (suc k) ++ chosen test 1 m) (omega arith) in
    ap (λ xs. if test k then k ∷ xs else xs) next
    ∙ cond_both (test k) (k ∷ chosen test count (suc k)) (chosen test count (suc k))
    (λ xs. (if test k then k ∷ (chosen test count (suc k) ++ chosen test 1 (k + suc count)) else (chosen test count (suc k) ++ chosen test 1 (k + suc count))) ≡ xs ++ chosen test 1 (k + suc count))
    (λ hit. cond-true (test k) _ _ hit)
    (λ miss. cond-false (test k) _ _ miss)

pub chosen_found : (test : ℕ → Bool) (n : ℕ) → test n ≡ true → chosen test (n + 1) 0 ≡ chosen test n 0 ++ n ∷ []
chosen_found test n h =
    ap (λ m. chosen test m 0) (let e : n + 1 ≡ suc n = omega arith in e) ∙ chosen_more test n 0
    ∙ ap (λ m. chosen test n 0 ++ chosen test 1 m) (let e : 0 + n ≡ n = omega arith in e) ∙ ap (λ xs. chosen test n 0 ++ xs) (cond-true (test n) (n ∷ []) [] h)

pub chosen_passed : (test : ℕ → Bool) (n : ℕ) → test n ≡ false → chosen test (n + 1) 0 ≡ chosen test n 0
chosen_passed test n h =
    ap (λ m. chosen test m 0) (let e : n + 1 ≡ suc n = omega arith in e) ∙ chosen_more test n 0
    ∙ ap (λ m. chosen test n 0 ++ chosen test 1 m) (let e : 0 + n ≡ n = omega arith in e) ∙ ap (λ xs. chosen test n 0 ++ xs) (cond-false (test n) (n ∷ []) [] h)
    ∙ append-nil (chosen test n 0)

-- the lowest bit of the first word with a bit
pub first_held : (words : List ℕ) (i : ℕ) → ((k : ℕ) → k < i → word_at words k ≡ 0) → 0 < word_at words i → word_at words i < 2 ^ 64 →
    let n = i * 64 + trailing_zeros w64 (word_at words i) in
    (holds words n ≡ true) × ((q : ℕ) → q < n → holds words q ≡ false)
first_held words i none some small =
    let w = word_at words i in
    let t = trailing_zeros w64 w in
    let bit = bit_at-trailing_zeros w64 w some small in
    let inside : t < 64 = bit.0 in (
      ap (λ k. nat_eq (bit_at (word_at words k) ((i * 64 + t) % 64)) 1) (div-mul-add i 64 t inside)
          ∙ ap (λ k. nat_eq (bit_at w k) 1) (mod-mul-add i 64 t inside) ∙ ap (λ b. nat_eq b 1) bit.1,
      λ q h. elim (cases_lt (q / 64) i) [
        | inl before ↦ ap (λ x. nat_eq (bit_at x (q % 64)) 1) (none (q / 64) before) ∙ ap (λ b. nat_eq b 1) (bit_at-zero (q % 64))
        | inr after ↦ (let same : q / 64 ≡ i = omega arith in let low : q % 64 < t = omega arith in
            ap (λ k. nat_eq (bit_at (word_at words k) (q % 64)) 1) same ∙ ap (λ b. nat_eq b 1) (bit.2 (q % 64) low))
      ],
    )

pub first_least : (words : List ℕ) (r : Option ℕ) →
    MatchOption r ((q : ℕ) → holds words q ≡ false) (λ n. (holds words n ≡ true) × ((q : ℕ) → q < n → holds words q ≡ false)) → r ≡ least (members words)
first_least words None h = ap least (sym (none_among (members words) (λ q. among-members words q ∙ h q)))
first_least words (Some n) h = sym (least_is 0 (members words) n (ascends-members words) (among-members words n ∙ h.0) (λ q low. among-members words q ∙ h.1 q low))

pub or_nothing : (w : ℕ) → bit_or w 0 ≡ w
or_nothing w = same_from_bits (bit_or w 0) w (λ i. bit_at_or w 0 i ∙ ap (max (bit_at w i)) (bit_at-zero i) ∙ (let e : max (bit_at w i) 0 ≡ bit_at w i = omega arith in e))

pub nothing_and : (w : ℕ) → bit_and 0 w ≡ 0
nothing_and w = same_from_bits (bit_and 0 w) 0 (λ i. bit_at_and 0 w i ∙ ap (λ b. min b (bit_at w i)) (bit_at-zero i) ∙ (let e : min 0 (bit_at w i) ≡ 0 = omega arith in e) ∙ sym (bit_at-zero i))
