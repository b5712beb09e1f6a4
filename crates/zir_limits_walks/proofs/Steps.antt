-- Small steps of components.
use Rattle.std.specs.Prelude.{◌≡◌, ℕ, suc, ◌+◌, ◌-◌, ◌^◌, ◌≤◌, min, List, [], ◌∷◌, ◌++◌, length, drop, take, nat_eq, Option}
use Rattle.std.proofs.Common.{arith}
use Rattle.std.proofs.lemmas.Grind.{common_steps}
use Rattle.std.proofs.lemmas.Bool.Decides.{nat_tests}
use Rattle.zir_tree.specs.declared.place.Place.{Place}
use Rattle.zir_types.specs.Needs.{counted}
use Rattle.zir_types.specs.Measures.{Splits}
use Rattle.zir_types.specs.Limits.{wrong_at}
use Rattle.zir_limits.specs.declared.notes.Call.{Call}
use Rattle.zir_limits.specs.declared.notes.Notes.{Notes}
use Rattle.zir_limits.specs.Notes.{first_of, noted}

-- notes with these parts
abbrev parts : Option Place → Option Place → Option Place → Option Place → List Call → Notes
parts a b c d e = record { first_length = a; first_cells = b; first_element = c; first_stages = d; calls = e }

-- the 16th link is the same one where numbers are cut off at 17
pub splits_capped : (n : Notes) (k l : ℕ) (p : Place) → k ≡ min l 17 → noted (Splits (k + 1) p ∷ []) n ≡ noted (Splits (suc l) p ∷ []) n
splits_capped n k l p h =
    let e : nat_eq (k + 1) 16 ≡ nat_eq (suc l) 16 = grind (arith, nat_tests) in
    λ i. parts n.first_length n.first_cells n.first_element (first_of n.first_stages (wrong_at (e i) p ++ [])) (n.calls ++ [])

-- the need of two sides and a link, where the sum of the sides is cut off at the top of a word
pub pipe_need : {b n : ℕ} (l r : ℕ) → b ≡ min (l + r) (2 ^ 64 - 1) → n ≡ counted (b + 2) → n ≡ counted (l + r + 2)
pipe_need l r h k = omega arith

-- what stood before is what stays
pub take_front : {A : Type 0} (xs ys : List A) → take (length xs) (xs ++ ys) ≡ xs
take_front xs ys = grind (arith, common_steps)

-- nothing stands past the end
pub drop_past : {A : Type 0} (xs : List A) (n : ℕ) → length xs ≤ n → drop n xs ≡ []
drop_past xs n h = grind (arith, common_steps)
