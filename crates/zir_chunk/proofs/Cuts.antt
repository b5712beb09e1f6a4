-- Flat cells cut into elements of one size.
use Rattle.std.proofs.Common.{ℕ, zero, suc, inl, inr, ◌+◌, ◌-◌, ◌*◌, ◌<◌, ◌≤◌, ◌≡◌, List, [], ◌∷◌, ◌++◌, length, map, take, drop, get_or, Some, refl, ap, sym, ◌∙◌, subst, arith, length-append, length-drop}
use Rattle.std.specs.Prelude.{ℤ, All, AllPairs, slice_get}
use Rattle.std.proofs.lemmas.List.{take-append-le, drop-append-le, length-take-le, drop-drop, get_or_at, get_or_default}
use Rattle.std.proofs.lemmas.Bool.{cases_lt}
use Rattle.std.proofs.Math.Nat.{mul-le-mul_left}
use Rattle.std.proofs.Math.Seq.{take-length}
use Rattle.std.proofs.lemmas.List.Elements.{All-nil, All-cons}
use Rattle.std.proofs.lemmas.List.Quantifiers.{all_pairs_push}
use Rattle.zir_chunk.specs.Contents.{AtMost, no_stamp}
use Rattle.zir_chunk.specs.Parts.{elements_of, last_of}
use Rattle.zir_tree.specs.declared.ends.Stamp.{Stamp}

-- there is an element for each stamp
pub length-elements_of : (n : ℕ) (cells : List ℤ) (stamps : List Stamp) → length (elements_of n cells stamps) ≡ length stamps
length-elements_of n cells [] = refl
length-elements_of n cells (s ∷ ss) = ap (λ k. suc k) (length-elements_of n (drop n cells) ss)

-- the stamps of the elements are those that were given
pub stamps-elements_of : (n : ℕ) (cells : List ℤ) (stamps : List Stamp) → map (λ e. e.stamp) (elements_of n cells stamps) ≡ stamps
stamps-elements_of n cells [] = refl
stamps-elements_of n cells (s ∷ ss) = ap (λ xs. s ∷ xs) (stamps-elements_of n (drop n cells) ss)

-- what the first element leaves of the cells
less_one : (n k m : ℕ) → m ≡ n * suc k → (m - n ≡ n * k) × (n ≤ m)
less_one n k m e = (grind arith, grind arith)

-- the cells behind the first element are those of the others
pub length-rest : (n : ℕ) (cells : List ℤ) (k : ℕ) → length cells ≡ n * suc k → length (drop n cells) ≡ n * k
length-rest n cells k e = length-drop n cells ∙ (less_one n k (length cells) e).0

-- one more element behind the others
pub elements_of-push : (n : ℕ) (cells : List ℤ) (stamps : List Stamp) (more : List ℤ) (s : Stamp) → length cells ≡ n * length stamps → length more ≡ n → elements_of n (cells ++ more) (stamps ++ s ∷ []) ≡ elements_of n cells stamps ++ record { cells = more; stamp = s } ∷ []
elements_of-push n [] [] more s e f = ap (λ c. record { cells = c; stamp = s } ∷ []) (ap (λ k. take k more) (sym f) ∙ take-length more)
elements_of-push n (c ∷ cs) [] more s e f = absurd (omega arith)
elements_of-push n cells (t ∷ ts) more s e f =
    let within : n ≤ length cells = (less_one n (length ts) (length cells) e).1 in
    rw (take-append-le n cells more within, drop-append-le n cells more within) (ap (λ es. record { cells = take n cells; stamp = t } ∷ es) (elements_of-push n (drop n cells) ts more s (length-rest n cells (length ts) e) f))

-- the cells behind so many elements, by way of the first
drop-more : (n i : ℕ) (cells : List ℤ) → drop (i * n) (drop n cells) ≡ drop (suc i * n) cells
drop-more n i cells = drop-drop (i * n) n cells ∙ ap (λ k. drop k cells) (omega arith)

-- an element ends within the cells of all of them
pub piece_within : (n i k : ℕ) → i < k → i * n + n ≤ n * k
piece_within n i k h = omega (arith, mul-le-mul_left n (let above : i + 1 ≤ k = omega arith in above))

-- the cells of an element are a piece of the flat cells
pub cells-elements_of : (n : ℕ) (cells : List ℤ) (stamps : List Stamp) (i : ℕ) → i < length stamps → slice_get (map (λ e. e.cells) (elements_of n cells stamps)) i ≡ Some (take n (drop (i * n) cells))
cells-elements_of n cells [] i h = absurd (omega arith)
cells-elements_of n cells (t ∷ ts) zero h =
    let none : 0 ≡ zero * n = omega arith in
    ap (λ k. Some (take n (drop k cells))) none
cells-elements_of n cells (t ∷ ts) (suc i) h = cells-elements_of n (drop n cells) ts i (omega arith) ∙ ap (λ c. Some (take n c)) (drop-more n i cells)

-- each element has the size
pub sizes-elements_of : (n : ℕ) (cells : List ℤ) (stamps : List Stamp) → length cells ≡ n * length stamps → All (λ c. length c ≡ n) (map (λ e. e.cells) (elements_of n cells stamps))
sizes-elements_of n cells [] e = All-nil (λ c. length c ≡ n)
sizes-elements_of n cells (t ∷ ts) e =
    let within : n ≤ length cells = (less_one n (length ts) (length cells) e).1 in
    All-cons (λ c. length c ≡ n) (take n cells) (map (λ e. e.cells) (elements_of n (drop n cells) ts)) (length-take-le n cells within) (sizes-elements_of n (drop n cells) ts (length-rest n cells (length ts) e))

-- stamps rise from one to the next and to the one behind it
AtMost-trans : (s t u : Stamp) → AtMost s t → AtMost t u → AtMost s u
AtMost-trans s t u f g = record { taken = omega arith; ticks = omega arith }

-- a stamp that is not below the last one is not below any
pub above_all : (stamps : List Stamp) (s : Stamp) → AllPairs AtMost stamps → AtMost (last_of stamps) s → All (λ t. AtMost t s) stamps
above_all stamps s rising above k d h =
    let within : length stamps - 1 < length stamps = omega arith in
    let last : AtMost (get_or stamps (length stamps - 1) d) s = subst (λ (t : Stamp). AtMost t s) (get_or_default stamps (length stamps - 1) no_stamp d within) above in
    elim (cases_lt k (length stamps - 1)) [
      | inl before ↦ AtMost-trans (get_or stamps k d) (get_or stamps (length stamps - 1) d) s (rising k (length stamps - 1) d before within) last
      | inr after ↦ subst (λ (i : ℕ). AtMost (get_or stamps i d) s) (let e : length stamps - 1 ≡ k = omega arith in e) last
    ]

-- one more stamp behind stamps that rise
pub rising-push : (stamps : List Stamp) (s : Stamp) → AllPairs AtMost stamps → AtMost (last_of stamps) s → AllPairs AtMost (stamps ++ s ∷ [])
rising-push stamps s rising above = all_pairs_push AtMost stamps s rising (above_all stamps s rising above)

-- the last of the stamps after one more
pub last_of-push : (stamps : List Stamp) (s : Stamp) → last_of (stamps ++ s ∷ []) ≡ s
last_of-push stamps s =
    let place : length stamps ≡ length (stamps ++ s ∷ []) - 1 = omega (arith, length-append stamps (s ∷ [])) in
    get_or_at stamps s [] no_stamp (length (stamps ++ s ∷ []) - 1) place
