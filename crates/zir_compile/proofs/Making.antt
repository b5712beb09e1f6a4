-- What is made of what has been made.
use Rattle.std.specs.Prelude.{ℕ, ◌<◌, ◌^◌, List, ◌++◌, Bool, true, false, ◌&&◌, Result, Ok, Err, ◌≡◌, refl}
use Rattle.std.proofs.Common.{ap, sym, ◌∙◌, subst, append_assoc, arith, IsErrAnd}
use Rattle.std.proofs.lemmas.Bool.Decides.{nat_tests}
use Rattle.std.proofs.lemmas.Result.{err_from_is_err_and}
use Rattle.zir_expr.specs.declared.steps.Step.{Step}
use Rattle.zir_code.specs.Peaks.{small}
use Rattle.zir_compile.specs.declared.numbers.Unmade.{Unmade}
use Rattle.zir_compile.specs.declared.numbers.Unmade.TheVariants.{Memory, Large}
use Rattle.zir_compile.specs.Makes.{Refuses, Makes}

-- where a part is not made, the whole is not
pub refused : (F G : Type 0) (why : Unmade) → Refuses F why → (G → F) → Refuses G why
refused F G (Memory error) h k = tt
refused F G Large h k = λ whole. h (k whole)

pub makes_err : {B : Type 0} (F G : Type 0) (Q : B → Type 0) (why : Unmade) (r : Result B Unmade) → IsErrAnd r (λ y. y ≡ why) → Refuses F why → (G → F) → Makes G Q r
makes_err F G Q why r is h k =
    let p = err_from_is_err_and r is in
    subst (λ v. Makes G Q v) (sym p.1) (subst (λ y. Refuses G y) (sym p.2) (refused F G why h k))

-- where the rest is made, the whole is
pub makes_as : {A : Type 0} (F G : Type 0) (P Q : A → Type 0) (r : Result A Unmade) → Makes F P r → (G → F) → ((made : A) → F → P made → G × Q made) → Makes G Q r
makes_as F G P Q (Ok made) h k f = f made h.0 h.1
makes_as F G P Q (Err why) h k f = refused F G why h k

-- code behind code
pub behind_code : (old mid new xs ys : List Step) → mid ≡ old ++ xs → new ≡ mid ++ ys → new ≡ old ++ (xs ++ ys)
behind_code old mid new xs ys e f = f ∙ ap (λ (steps : List Step). steps ++ ys) e ∙ append_assoc old xs ys

-- numbers that 32 bits hold
pub small_below : (n : ℕ) → small n ≡ true → n < 2 ^ 32
small_below n h = grind (arith, nat_tests)

pub below_small : (n : ℕ) → n < 2 ^ 32 → small n ≡ true
below_small n h = grind (arith, nat_tests)

-- truth values
pub and_first : (a b : Bool) → a && b ≡ true → a ≡ true
and_first true b h = refl
and_first false b h = h

pub and_second : (a b : Bool) → a && b ≡ true → b ≡ true
and_second true b h = h
and_second false b h = absurd (no h) where
  no : false ≡ true → ⊥
  no e = cc

pub both_true : (a b : Bool) → a ≡ true → b ≡ true → a && b ≡ true
both_true a b e f = ap (λ x. x && b) e ∙ f

pub first_false : (a b : Bool) → a ≡ false → a && b ≡ false
first_false a b e = ap (λ x. x && b) e

pub second_false : (a b : Bool) → b ≡ false → a && b ≡ false
second_false true b e = e
second_false false b e = refl

pub not_both : (a : Bool) → a ≡ true → a ≡ false → ⊥
not_both true e f = cc
not_both false e f = cc
