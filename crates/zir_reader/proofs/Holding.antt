-- The bytes that are held in a piece.
use Rattle.std.proofs.Common.{ℕ, zero, suc, ◌+◌, ◌-◌, ◌/◌, ◌%◌, ◌<◌, ◌≤◌, ◌≡◌, Bool, false, Option, Some, None, Ok, List, [], ◌∷◌, ◌++◌, length, length-drop, length-take, take, drop, refl, ap, sym, subst, ◌∙◌, arith, append_assoc}
use Rattle.std.proofs.lemmas.Bool.Decides.{nat_tests}
use Rattle.std.proofs.lemmas.List.{append-nil, drop-drop, drop-take, take-append-drop}
use Rattle.std.specs.Prelude.{if◌then◌else◌, nat_eq, slice_range}
use Rattle.zir_tree.specs.declared.format.Format.{Format}
use Rattle.zir_tree.specs.declared.format.Format.TheVariants.{Binary, Text}
use Rattle.zir_tree.specs.declared.types.Base.{Base}
use Rattle.zir_outside.specs.Reads.{Reads}
use Rattle.zir_reader.specs.Numbers.{after, bytes_taken, Fills, Held}

-- the bytes behind the first of a part
slice-drop : (items : List ℕ) (at filled k : ℕ) → k ≤ length (slice_range items at filled) → slice_range items (at + k) filled ≡ drop k (slice_range items at filled)
slice-drop items at filled k h =
    let rest = filled - (at + k) in
    let fits : k + rest ≡ filled - at = omega (arith, length-take (filled - at) (drop at items), h) in
    ap (take rest) (sym (drop-drop k at items)) ∙ sym (drop-take k rest (drop at items)) ∙ ap (λ n. drop k (take n (drop at items))) fits

-- a part of a piece as what is held
abbrev pub holds : Format → Base → List ℕ → ℕ → ℕ → ℕ → Bool → Held
holds format base items at filled bit ended = record { format = format; base = base; bytes = slice_range items at filled; bit = bit; ended = ended }

-- bits are left out
pub skip-bits : (format : Format) (base : Base) (items : List ℕ) (at filled bit size : ℕ) (ended : Bool) → format ≡ Binary → bytes_taken format bit size ≤ length (slice_range items at filled) →
    holds format base items (at + (bit + size) / 8) filled ((bit + size) % 8) ended ≡ after (holds format base items at filled bit ended) size
skip-bits format base items at filled bit size ended e h =
    subst (λ f. bytes_taken f bit size ≤ length (slice_range items at filled) → holds f base items (at + (bit + size) / 8) filled ((bit + size) % 8) ended ≡ after (holds f base items at filled bit ended) size) (sym e)
    (λ h. ap (λ bytes. record { format = Binary; base = base; bytes = bytes; bit = (bit + size) % 8; ended = ended }) (slice-drop items at filled ((bit + size) / 8) h)) h

-- bytes are left out
pub skip-bytes : (format : Format) (base : Base) (items : List ℕ) (at filled bit size : ℕ) (ended : Bool) → format ≡ Text → bytes_taken format bit size ≤ length (slice_range items at filled) →
    holds format base items (at + size) filled bit ended ≡ after (holds format base items at filled bit ended) size
skip-bytes format base items at filled bit size ended e h =
    subst (λ f. bytes_taken f bit size ≤ length (slice_range items at filled) → holds f base items (at + size) filled bit ended ≡ after (holds f base items at filled bit ended) size) (sym e)
    (λ h. ap (λ bytes. record { format = Text; base = base; bytes = bytes; bit = bit; ended = ended }) (slice-drop items at filled size h)) h

-- the first of a list, and more of them
take-more : (xs : List ℕ) (n m : ℕ) → take (n + m) xs ≡ take n xs ++ take m (drop n xs)
take-more xs zero m = ap (λ k. take k xs) (let e : 0 + m ≡ m = omega arith in e)
take-more [] (suc n) m = nothing (suc n + m) m
  where
    nothing : (k m : ℕ) → take {A = ℕ} k [] ≡ take m []
    nothing zero zero = refl
    nothing zero (suc m) = refl
    nothing (suc k) zero = refl
    nothing (suc k) (suc m) = refl
take-more (x ∷ xs) (suc n) m = ap (λ k. take k (x ∷ xs)) (let e : suc n + m ≡ suc (n + m) = omega arith in e) ∙ ap (λ s. x ∷ s) (take-more xs n m)

-- what was read stands behind what was held
read-behind : (items one two : List ℕ) (at filled n : ℕ) (bytes : List ℕ) → take (filled - at) one ≡ slice_range items at filled → take (filled - at) two ≡ take (filled - at) one → take n (drop (filled - at) two) ≡ take n bytes →
    slice_range two 0 (filled - at + n) ≡ slice_range items at filled ++ take n bytes
read-behind items one two at filled n bytes moved front read =
    let held = filled - at in
    ap (λ k. take k two) (let e : held + n - 0 ≡ held + n = omega arith in e)
    ∙ take-more two held n
    ∙ ap (λ s. s ++ take n (drop held two)) (front ∙ moved)
    ∙ ap (λ s. slice_range items at filled ++ s) read

-- what was held comes before what was left, of which none is the end
still-to-come : (own bytes : List ℕ) (n : ℕ) → (n ≡ 0 → bytes ≡ []) → (own ++ take n bytes) ++ (if nat_eq n 0 then [] else drop n bytes) ≡ own ++ bytes
still-to-come own bytes zero h = append-nil (own ++ take 0 bytes) ∙ ap (λ s. own ++ s) (sym (h refl))
still-to-come own bytes (suc n) h =
    let some : nat_eq (suc n) 0 ≡ false = grind (arith, nat_tests) in
    ap (λ t. (own ++ take (suc n) bytes) ++ (if t then [] else drop (suc n) bytes)) some
    ∙ append_assoc own (take (suc n) bytes) (drop (suc n) bytes)
    ∙ ap (λ s. own ++ s) (take-append-drop (suc n) bytes)

-- a read fills the piece
pub read-fills : (format : Format) (base : Base) (items one two last : List ℕ) (at filled n bit : ℕ) (ended : Bool) (left now : Option (List ℕ)) → ended ≡ false → take (filled - at) one ≡ slice_range items at filled → take (filled - at) two ≡ take (filled - at) one →
    last ≡ two → filled - at < length two → Reads left now (drop (filled - at) two) (Ok n) →
    Fills (holds format base items at filled bit ended) left (holds format base last 0 (filled - at + n) bit (nat_eq n 0)) now
read-fills format base items one two last at filled n bit ended None now more moved front same room read = read
read-fills format base items one two last at filled n bit ended (Some bytes) now more moved front same room read = (
  drop n bytes,
  read.rest,
  (
    refl,
    refl,
    refl,
    ap (λ s. slice_range s 0 (filled - at + n) ++ (if nat_eq n 0 then [] else drop n bytes)) same
        ∙ ap (λ s. s ++ (if nat_eq n 0 then [] else drop n bytes)) (read-behind items one two at filled n bytes moved front read.front)
        ∙ still-to-come (slice_range items at filled) bytes n (read.end (omega (arith, length-drop (filled - at) two, room))).0
        ∙ ap (λ t. slice_range items at filled ++ (if t then [] else bytes)) (sym more),
  ),
)
