-- Searches for variables, and steps along lists.
use Rattle.std.specs.Prelude.{◌≡◌, ℕ, suc, ◌+◌, ◌<◌, List, [], ◌∷◌, length, drop, Bool, true, false, nat_eq, Option, Some, None, if◌then◌else◌, refl}
use Rattle.std.proofs.Common.{ap, ◌∙◌, sym, get_or, add-one, drop-cons}
use Rattle.zir_code.specs.declared.scope.Holder.{Holder}
use Rattle.zir_code.specs.Scopes.{found_among}

-- what stands behind a place begins with what stands there
pub at_place : {A : Type 0} (xs : List A) (n : ℕ) (x : A) → n < length xs → x ≡ get_or xs n x → drop n xs ≡ x ∷ drop (n + 1) xs
at_place xs n x h e = drop-cons xs n x h ∙ rw (add-one) (ap (λ y. y ∷ drop (suc n) xs) (sym e))

here_some : (b : Bool) (d h : Holder) (rest more : Option Holder) → (rest ≡ Some h → more ≡ Some h) → (if b then Some d else rest) ≡ Some h → (if b then Some d else more) ≡ Some h
here_some true d h rest more k e = e
here_some false d h rest more k e = k e

here_none : (b : Bool) (d : Holder) (rest more other : Option Holder) → (rest ≡ None → more ≡ other) → (if b then Some d else rest) ≡ None → (if b then Some d else more) ≡ other
here_none true d rest more other k e = absurd (no e) where
  no : Some d ≡ None → ⊥
  no e = cc
here_none false d rest more other k e = k e

-- what is found among these is found, whatever else there is
pub found_here : (other : Option Holder) (ds : List Holder) (id : ℕ) (h : Holder) → found_among None ds id ≡ Some h → found_among other ds id ≡ Some h
found_here other [] id h e = absurd (no e) where
  no : None ≡ Some h → ⊥
  no e = cc
found_here other (d ∷ ds) id h e = here_some (nat_eq d.id id) d h (found_among None ds id) (found_among other ds id) (found_here other ds id h) e

-- where nothing is found among these, what else there is is found
pub found_else : (other : Option Holder) (ds : List Holder) (id : ℕ) → found_among None ds id ≡ None → found_among other ds id ≡ other
found_else other [] id e = refl
found_else other (d ∷ ds) id e = here_none (nat_eq d.id id) d (found_among None ds id) (found_among other ds id) other (found_else other ds id) e
